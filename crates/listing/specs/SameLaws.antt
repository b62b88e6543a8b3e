-- Laws of the test that two lists of numbers are the same.
use Rattle.std.specs.Prelude.{◌≡◌, refl, Bool, true, false, List, [], ◌∷◌, ℕ, eqb}
use Rattle.std.proofs.Common.{sym, true≢false, eqb-true, eq-eqb}
use Rattle.std.proofs.Math.Bool.{and-eq-true_iff}
use Rattle.listing.specs.Same.{same}

-- A list is the same as itself.
pub same_as_itself : (l : List ℕ) → same l l ≡ true
unfolding same
same_as_itself [] = refl
same_as_itself (a ∷ l) = rw (eq-eqb a a refl, same_as_itself l)

-- Lists that pass for the same are equal.
pub same_equal : (l k : List ℕ) → same l k ≡ true → l ≡ k
unfolding same
same_equal [] [] e = refl
same_equal [] (b ∷ others) e = absurd (true≢false (sym e))
same_equal (a ∷ more) [] e = absurd (true≢false (sym e))
same_equal (a ∷ more) (b ∷ others) e =
    let each = (and-eq-true_iff (eqb a b) (same more others)).0 e in
    rw (eqb-true a b each.0, same_equal more others each.1)

-- Lists that are not equal do not pass for the same.
pub differ_not_same : (l k : List ℕ) → (l ≡ k → ⊥) → same l k ≡ false
differ_not_same l k differ = go (same l k) refl
  where
    go : (t : Bool) → same l k ≡ t → t ≡ false
    go true e = absurd (differ (same_equal l k e))
    go false e = refl
