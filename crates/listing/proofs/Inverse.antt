-- The word of an index: it is a word, it has that index, and it is the only one.
use Rattle.std.specs.Prelude.{◌≡◌, refl, Bool, true, false, cond, List, [], ◌∷◌, ℕ, zero, suc, ◌+◌, ◌-◌, ◌≤◌, ◌<◌, ltb, length}
use Rattle.std.proofs.Common.{ap, ◌∙◌, sym, le_refl, arith, ltb-true, ltb-false, lt-ltb}
use Rattle.listing.specs.Listing.{Word, Settled, settle, levels_from, levels, count_of, listed, all_words, before, index_in, behind, word_of, keep_if}
use Rattle.listing.specs.Inverse.{Found}
use Rattle.listing.specs.Sums.{sum_below, sum_over, sum_levels}
use Rattle.listing.proofs.FirstCell.{count_by_first, index_by_first, index_first}
use Rattle.listing.proofs.Order.{index_below_count, lower_index_before, index_injective, nothing_before_nil}

-- A level is settled right: all lower levels together take the indices below, and what is left of the index is below its own count.
record Right (count : ℕ → ℕ) (c n i : ℕ) (s : Settled) : Type 0 where
  high : c ≤ s.level
  low : s.level < c + n
  within : s.left < count s.level
  whole : sum_below count c + i ≡ sum_below count s.level + s.left

settle_right : (count : ℕ → ℕ) (c n i : ℕ) → i < sum_over count (levels_from c n) → Right count c n i (settle count (levels_from c n) i)
settle_right count c zero i l = absurd (omega arith)
settle_right count c (suc n) i l = go (ltb i (count c)) refl (settle_right count (suc c) n (i - count c))
  where
    higher : Settled
    higher = settle count (levels_from (suc c) n) (i - count c)

    go : (b : Bool) → ltb i (count c) ≡ b → (i - count c < sum_over count (levels_from (suc c) n) → Right count (suc c) n (i - count c) higher)
        → Right count c (suc n) i (cond (ltb i (count c)) (record { level = c; left = i }) higher)
    go true t r = rw t (record { high = le_refl c; low = omega arith; within = ltb-true i (count c) t; whole = refl })
    go false t r =
        let g = ltb-false i (count c) t in
        let h = r (omega arith) in
        rw t (record { high = omega arith; low = omega arith; within = h.within; whole = omega arith })

found_nil : (q : ℕ) (p : List ℕ → Bool) (i : ℕ) → i < count_of q p 0 → Found q p 0 i []
unfolding count_of listed all_words
found_nil q p i l = go (p []) refl l
  where
    go : (b : Bool) → p [] ≡ b → i < length (keep_if b [] []) → Found q p 0 i []
    go true e l = record { word = record { cells = refl; levelled = refl; passes = e }; index = let z = index_first q p [] nothing_before_nil in omega arith }
    go false e l = absurd (omega arith)

found_cons : (q : ℕ) (p : List ℕ → Bool) (m c j : ℕ) (w : List ℕ) → c < q → Found q (behind c p) m j w
    → Found q p (suc m) (sum_below (λ d. count_of q (behind d p) m) c + j) (c ∷ w)
found_cons q p m c j w l f = record {
  word = record { cells = ap suc f.word.cells; levelled = rw (lt-ltb c q l) f.word.levelled; passes = f.word.passes };
  index = index_by_first q p c w l ∙ rw (f.word.cells, f.index) refl;
}

pub word_has_index : (q : ℕ) (p : List ℕ → Bool) (m i : ℕ) → i < count_of q p m → Found q p m i (word_of q p m i)
unfolding word_of
word_has_index q p zero i l = found_nil q p i l
word_has_index q p (suc m) i l =
    let count : ℕ → ℕ = λ c. count_of q (behind c p) m in
    let s = settle count (levels q) i in
    let r = settle_right count 0 q i (rw (sum_levels count q, ← count_by_first q p m) l) in
    let e : sum_below count s.level + s.left ≡ i = (let z = r.whole in omega arith) in
    rw e at (found_cons q p m s.level s.left _ (let z = r.low in omega arith) (word_has_index q (behind s.level p) m s.left r.within))

-- The word of a word's index is that word.
pub index_has_word : (q : ℕ) (p : List ℕ → Bool) (m : ℕ) (w : List ℕ) → Word q p m w → word_of q p m (index_in q p w) ≡ w
index_has_word q p m w r =
    let f = word_has_index q p m (index_in q p w) (index_below_count q p m w r) in
    index_injective q p m _ w f.word r f.index

-- For each index below the count there is exactly one word with that many words before it: the word of the index.
pub exactly_one : (q : ℕ) (p : List ℕ → Bool) (m i : ℕ) → i < count_of q p m
    → Found q p m i (word_of q p m i) × ((w : List ℕ) → Found q p m i w → w ≡ word_of q p m i)
exactly_one q p m i l =
    let f = word_has_index q p m i l in
    (f, λ w g. index_injective q p m w (word_of q p m i) g.word f.word (g.index ∙ sym f.index))

-- For an index at or above the count there is none.
pub none_above : (q : ℕ) (p : List ℕ → Bool) (m i : ℕ) → count_of q p m ≤ i → (w : List ℕ) → Found q p m i w → ⊥
none_above q p m i l w f = let b = index_below_count q p m w f.word in let e = f.index in omega arith

-- A lower index has the earlier word.
pub word_keeps_order : (q : ℕ) (p : List ℕ → Bool) (m i j : ℕ) → i < j → j < count_of q p m → before (word_of q p m i) (word_of q p m j) ≡ true
word_keeps_order q p m i j l h =
    let f = word_has_index q p m i (omega arith) in
    let g = word_has_index q p m j h in
    lower_index_before q p m _ _ f.word g.word (rw (f.index, g.index) l)
