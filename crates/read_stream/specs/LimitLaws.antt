-- The word of the index 2^s: it exists, and a legal word stands behind it exactly if its index is above 2^s.
use Rattle.std.specs.Prelude.{◌≡◌, refl, Bool, true, false, List, ◌++◌, ℕ, ◌+◌, ◌/◌, ◌^◌, ◌<◌, ltb, length, take, drop}
use Rattle.std.proofs.Common.{sym, ◌∙◌, lt_of_lt_of_le, sub-le, zero-add, arith, take_at, ltb-true, ltb-false}
use Rattle.limbs.specs.Limbs.{number_at}
use Rattle.messages.specs.Carrying.{CarriesMessages}
use Rattle.messages.specs.LengthLaws.{words_carry, length_below}
use Rattle.replies.specs.declared.Profile.{Profile}
use Rattle.listing.specs.Listing.{before}
use Rattle.code.specs.Code.{LegalWord, N, index, word, OneWord}
use Rattle.code.proofs.Laws.{one_word_of_index, index_in_order, lower_index_first}
use Rattle.code.proofs.MessageLaws.{carrying_before_tops}
use Rattle.profiles.specs.Profiles.{word_count, length_of, LegalFor, index_for, word_for}
use Rattle.read_stream.specs.PowerLimbs.{power_limbs, bit_inside, power_held}

-- The word of the index 2^s.
unfoldable pub limit_of : Profile → List ℕ
limit_of p = word_for p (2 ^ length_of p)

-- Cells that are that word, and there is one.
pub record Limits (p : Profile) (limit : List ℕ) : Type 0 where
  pub exists : 2 ^ length_of p < word_count p
  pub cells : limit ≡ limit_of p

-- Where words carry messages there is one.
limit_exists : {p : Profile} {table : List ℕ} → CarriesMessages p table → 2 ^ length_of p < word_count p
limit_exists {p} h = lt_of_lt_of_le (carrying_before_tops _ _ _ (words_carry p h.carries)) (sub-le _ 1)

-- A profile that has words that carry messages, a table that belongs to it, and its message length.
module _ {p : Profile} {table : List ℕ} {s : ℕ} (ready : CarriesMessages p table) (same : s ≡ length_of p) where
  small : s < 640
  small = rw same (length_below ready.in_range ready.carries)

  -- The bit of 2^s stands in one of ten limbs, and they hold it.
  pub limb_of_limit : s / 64 < 10
  limb_of_limit = bit_inside s small

  held : number_at 10 (power_limbs s) 0 ≡ 2 ^ length_of p
  held = rw same (power_held (length_of p) (rw same at small))

  -- There is a word of that index.
  pub limit_below : number_at 10 (power_limbs s) 0 < word_count p
  limit_below = rw held (limit_exists ready)

  -- It is what is spelt.
  pub limit_spelt : (lent : List ℕ) {after : List ℕ}
      → after ≡ take 0 lent ++ (word_for p (number_at 10 (power_limbs s) 0) ++ drop (0 + p.m) lent)
      → after ≡ limit_of p ++ drop p.m lent
  unfolding limit_of
  limit_spelt lent e = rw (held, zero-add) at e

-- The word of an index stands before a legal word exactly if the index is below that word's.
pub index_above : (q x m i : ℕ) (w : List ℕ) → i < N q x m → LegalWord q x m w → before (word q x m i) w ≡ ltb i (index q x w)
index_above q x m i w l r = go (before (word q x m i) w) refl (ltb i (index q x w)) refl
  where
    one : OneWord q x m i
    one = one_word_of_index q x m i l

    go : (a : Bool) → before (word q x m i) w ≡ a → (b : Bool) → ltb i (index q x w) ≡ b → a ≡ b
    go true e true f = refl
    go false e false f = refl
    go true e false f =
        let lower = index_in_order q x m (word q x m i) w one.found r e in absurd (omega (arith, one.its_index, ltb-false i (index q x w) f))
    go false e true f = sym e ∙ lower_index_first q x m (word q x m i) w one.found r (rw one.its_index (ltb-true _ _ f))

-- So comparing it with a legal word tells whether 15 applies.
pub limit_tells : {p : Profile} {limit : List ℕ} (w : List ℕ) → Limits p limit → LegalFor p w
    → before limit w ≡ ltb (2 ^ length_of p) (index_for p w)
unfolding limit_of
limit_tells {p} w limits r = rw limits.cells (index_above _ _ _ _ w limits.exists r)

-- It is as long as every word, so it is what stands in its first m cells.
limit_cells : (p : Profile) → 2 ^ length_of p < word_count p → length (limit_of p) ≡ p.m
unfolding limit_of
limit_cells p exists = (one_word_of_index _ _ _ _ exists).found.cells

pub limit-length : {p : Profile} {limit : List ℕ} → Limits p limit → length limit ≡ p.m
limit-length {p} limits = rw limits.cells (limit_cells p limits.exists)

pub limit_in_front : {p : Profile} {table : List ℕ} (rest : List ℕ) {limit : List ℕ} → CarriesMessages p table → limit ≡ limit_of p ++ rest
    → Limits p (take p.m limit)
limit_in_front {p} rest ready e =
    let exists = limit_exists ready in record { exists = exists; cells = rw e (take_at (limit_of p) rest p.m (limit_cells p exists)) }
