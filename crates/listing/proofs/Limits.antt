-- The ends of the order, and how many words there can be.
use Rattle.std.specs.Prelude.{◌≡◌, Bool, true, false, List, [], ◌∷◌, ℕ, zero, suc, ◌^◌, ◌≤◌, length, replicate, eqb}
use Rattle.std.proofs.Math.Bool.{and-false}
use Rattle.std.proofs.Common.{zero-le, le_refl, arith, le-ltb}
use Rattle.std.proofs.Math.Nat.{pow-zero, pow-succ'}
use Rattle.std.proofs.lemmas.List.{length-replicate}
use Rattle.listing.specs.Listing.{count_of, listed, all_words, before, index_in, behind, keep_if}
use Rattle.listing.specs.Sums.{sum_bound}
use Rattle.listing.proofs.FirstCell.{count_by_first, index_by_first, index_first, before_cons}
use Rattle.listing.proofs.Order.{before_nil, nothing_before_nil, count_nil}

nothing_before_zeros : (m : ℕ) (v : List ℕ) → before v (replicate m 0) ≡ false
nothing_before_zeros zero v = nothing_before_nil v
nothing_before_zeros (suc m) [] = before_nil (replicate (suc m) 0)
nothing_before_zeros (suc m) (a ∷ v) = rw (before_cons, le-ltb a 0 zero-le, nothing_before_zeros m v) (and-false (eqb a 0))

-- The word of all 0 has index 0.
pub zeros_first : (q : ℕ) (p : List ℕ → Bool) (m : ℕ) → index_in q p (replicate m 0) ≡ 0
zeros_first q p m = index_first q p (replicate m 0) (nothing_before_zeros m)

-- Where the word of all top passes, it is the last: its index is the count less one.
pub tops_last : (t : ℕ) (p : List ℕ → Bool) (m : ℕ) → p (replicate m t) ≡ true → suc (index_in (suc t) p (replicate m t)) ≡ count_of (suc t) p m
tops_last t p zero e = let z = index_first (suc t) p [] nothing_before_nil in let f = count_nil (suc t) p e in omega arith
tops_last t p (suc m) e =
    let i = rw length-replicate at (index_by_first (suc t) p t (replicate m t) (le_refl (suc t))) in
    let n = count_by_first (suc t) p m in
    let r = tops_last t (behind t p) m e in
    omega arith

at_most_one : (b : Bool) → length (keep_if b [] []) ≤ 1
at_most_one true = le_refl 1
at_most_one false = zero-le

-- No more words pass than there are words.
pub count_within : (q : ℕ) (p : List ℕ → Bool) (m : ℕ) → count_of q p m ≤ q ^ m
unfolding count_of listed all_words
count_within q p zero = rw (pow-zero q) (at_most_one (p []))
count_within q p (suc m) = rw (count_by_first q p m, pow-succ' q m) (sum_bound _ (q ^ m) q (λ c l. count_within q (behind c p) m))
