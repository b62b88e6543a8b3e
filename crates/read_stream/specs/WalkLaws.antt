-- Words as the library goes over them: whether all cells pass a test, and which of two words stands before the other.
use Rattle.std.specs.Prelude.{◌≡◌, refl, Bool, true, false, ◌&&◌, ◌||◌, Some, List, [], ◌∷◌, ℕ, ltb, eqb, length}
use Rattle.std.specs.Cmp.Lexicographic.{slice_partial_cmp}
use Rattle.std.specs.List.{list_all}
use Rattle.std.specs.Ordering.{nat_cmp, is_lt, is_some_and}
use Rattle.std.proofs.Common.{ap, ◌∙◌, arith}
use Rattle.std.proofs.lemmas.Bool.Decides.{nat_tests}
use Rattle.std.proofs.lemmas.Cmp.{same_from_slice_cmp_tested}
use Rattle.listing.specs.Every.{every}
use Rattle.listing.specs.Listing.{before}

-- All cells pass a test where the library finds that each does.
pub all_pass : (test : ℕ → Bool) (word : List ℕ) → list_all test word ≡ every test word
all_pass test [] = refl
all_pass test (c ∷ word) = ap (λ (b : Bool). test c && b) (all_pass test word)

-- The order of the library: the first cell that differs decides, and a word stands before a longer one that goes on from it.
abbrev earlier : List ℕ → List ℕ → Bool
earlier [] [] = false
earlier [] (b ∷ w) = true
earlier (a ∷ v) [] = false
earlier (a ∷ v) (b ∷ w) = ltb a b || (eqb a b && earlier v w)

earlier_before : (v w : List ℕ) → length v ≡ length w → earlier v w ≡ before v w
unfolding before
earlier_before [] [] e = refl
earlier_before [] (b ∷ w) e = absurd (omega arith)
earlier_before (a ∷ v) [] e = absurd (omega arith)
earlier_before (a ∷ v) (b ∷ w) e = ap (λ (t : Bool). ltb a b || (eqb a b && t)) (earlier_before v w (omega arith))

-- Of words of one length it is that of the words.
pub library_order : (v w : List ℕ) (r : Bool) → length v ≡ length w → r ≡ is_some_and is_lt (slice_partial_cmp (λ x y. Some (nat_cmp x y)) v w) → r ≡ before v w
library_order v w r e f =
    let by = same_from_slice_cmp_tested nat_cmp is_lt earlier refl (λ _ _. refl) (λ _ _. refl) (λ x y xs ys o h. grind (arith, nat_tests)) in
    by v w r f ∙ earlier_before v w e
