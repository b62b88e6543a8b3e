-- Laws of the message length of a profile: number 4 is exactly m = 1 with q at most 3, and s comes out of the table.
use Rattle.std.specs.Prelude.{◌≡◌, refl, Bool, true, false, ◌&&◌, ◌||◌, List, [], ◌∷◌, ℕ, ◌+◌, ◌-◌, ◌*◌, ◌^◌, ◌≤◌, ◌<◌, leb, eqb}
use Rattle.std.proofs.Common.{◌∙◌, zero-add, le_refl, le_of_lt, le_trans, lt_of_le_of_lt, lt_of_not-le, not-le_of_lt, sub-le, pos_of_ne-zero, arith, pow_mono, leb-true, leb-false, eqb-true, eq-eqb, ne_eqb}
use Rattle.std.proofs.lemmas.Bool.{eqb-false}
use Rattle.limbs.specs.Limbs.{base, value, number_at, holding}
use Rattle.limbs.specs.BorrowLaws.{holding_difference}
use Rattle.limbs.specs.HoldingLaws.{number_at_holding_below}
use Rattle.messages.specs.Carrying.{message_refusal, CarriesMessages}
use Rattle.messages.specs.HighestBit.{one_largest}
use Rattle.replies.specs.declared.Profile.{Profile}
use Rattle.replies.specs.Replies.{done, refused, refused_if}
use Rattle.replies.specs.Ranges.{InRange}
use Rattle.code.specs.Messages.{words_kept_out, Largest}
use Rattle.code.proofs.MessageLaws.{length_is_largest, length_positive, length_zero}
use Rattle.code.proofs.Sizes.{count_fits}
use Rattle.profiles.specs.Profiles.{word_count, length_of}

-- Number 4 for m = 1 with q at most 3.
no_message : (p : Profile) → InRange p → p.m ≡ 1 → p.q ≤ 3 → message_refusal p ≡ refused 4 0
unfolding message_refusal
no_message p range one three =
    let none = (length_zero _ _ _ range.levels.least range.length.least).1 (one, three) in rw (eq-eqb (length_of p) 0 none)

-- And for no other profile in range.
some_message : (p : Profile) → InRange p → ((p.m ≡ 1) × (p.q ≤ 3) → ⊥) → message_refusal p ≡ done
unfolding message_refusal
some_message p range other =
    let some : length_of p ≡ 0 → ⊥ = λ none. other ((length_zero _ _ _ range.levels.least range.length.least).0 none) in
    let four = (length_positive _ _ _).0 (pos_of_ne-zero some) in
    rw (ne_eqb (length_of p) 0 some, ne_eqb (word_count p - words_kept_out) 0 (λ none. omega arith))

-- So it is given by m and q alone.
pub number_four : (p : Profile) → InRange p → message_refusal p ≡ refused_if (eqb p.m 1 && leb p.q 3) 4
number_four p range = go (eqb p.m 1) (leb p.q 3) refl refl
  where
    go : (a b : Bool) → eqb p.m 1 ≡ a → leb p.q 3 ≡ b → message_refusal p ≡ refused_if (a && b) 4
    go true true s t = no_message p range (eqb-true _ 1 s) (leb-true _ 3 t)
    go true false s t = some_message p range (λ both. omega (arith, leb-false p.q 3 t))
    go false b s t = some_message p range (λ both. eqb-false p.m 1 s both.0)

-- A profile that is not refused has words that carry messages.
pub words_carry : (p : Profile) → (message_refusal p).number ≡ 0 → words_kept_out < word_count p
unfolding message_refusal
words_carry p = go (eqb (length_of p) 0) (eqb (word_count p - words_kept_out) 0) refl
  where
    go : (a b : Bool) → eqb (word_count p - words_kept_out) 0 ≡ b → (refused_if (a || b) 4).number ≡ 0 → words_kept_out < word_count p
    go true b t e = absurd (omega arith)
    go false true t e = absurd (omega arith)
    go false false t e = let some : 0 < word_count p - words_kept_out = pos_of_ne-zero (eqb-false _ 0 t) in omega arith

-- A number that is N(m) - 2: it is not 0, and the place of its highest bit is the message length.
pub record LessKeptOut (p : Profile) (number : ℕ) : Type 0 where
  pub some : 0 < number
  pub length : {s : ℕ} → Largest number s → s ≡ length_of p

less_kept_out : (p : Profile) → (message_refusal p).number ≡ 0 → LessKeptOut p (word_count p - words_kept_out)
less_kept_out p carries =
    let more = words_carry p carries in
    record { some = omega arith; length = λ {s} large. one_largest large (length_is_largest _ _ _ more) }

-- Ten limbs of 0, and ten that hold the number of words kept out.
abbrev zeros : List ℕ
zeros = 0 ∷ 0 ∷ 0 ∷ 0 ∷ 0 ∷ 0 ∷ 0 ∷ 0 ∷ 0 ∷ 0 ∷ []

abbrev kept_out : List ℕ
kept_out = 2 ∷ 0 ∷ 0 ∷ 0 ∷ 0 ∷ 0 ∷ 0 ∷ 0 ∷ 0 ∷ 0 ∷ []

zeros_hold : number_at 10 zeros 0 ≡ 0
unfolding number_at value
zeros_hold = refl

kept_out_hold : number_at 10 kept_out 0 ≡ words_kept_out
unfolding number_at value
kept_out_hold = refl

-- N(m) fits ten limbs.
pub words_fit : {p : Profile} → InRange p → word_count p < base ^ 10
words_fit {p} range = count_fits _ _ _ range.levels.least range.levels.most range.length.most range.reach.least

-- It is what the ten limbs of 0 hold once row m of the table is added and the words kept out are subtracted.
pub row_less_kept_out : {p : Profile} {table added rest : List ℕ} → CarriesMessages p table
    → added ≡ holding 10 (number_at 10 zeros 0 + number_at 10 table (10 * p.m)) zeros
    → rest ≡ holding 10 (number_at 10 added 0 + base ^ 10 - number_at 10 kept_out 0) added → LessKeptOut p (number_at 10 rest 0)
row_less_kept_out {p} {table} {added} {rest} h e f =
    let fits = words_fit h.in_range in
    let held : added ≡ holding 10 (word_count p) zeros = rw (zeros_hold, h.belongs.rows p.m (le_refl p.m), zero-add) at e in
    let number : number_at 10 added 0 ≡ word_count p = rw held (number_at_holding_below 10 zeros fits) in
    let difference = holding_difference 10 added (le_of_lt (words_carry p h.carries)) in
    let less : rest ≡ holding 10 (word_count p - words_kept_out) added = rw (number, kept_out_hold) at f ∙ difference in
    rw (less, number_at_holding_below 10 added (lt_of_le_of_lt (sub-le _ 2) fits)) (less_kept_out p h.carries)

-- In range the message length is below 640.
pub length_below : {p : Profile} → InRange p → (message_refusal p).number ≡ 0 → length_of p < 640
length_below {p} range carries =
    let fits = (length_is_largest _ _ _ (words_carry p carries)).fits in
    let below = lt_of_le_of_lt (le_trans fits (sub-le _ 2)) (words_fit range) in
    lt_of_not-le (λ (more : 640 ≤ length_of p). not-le_of_lt below (pow_mono more))
