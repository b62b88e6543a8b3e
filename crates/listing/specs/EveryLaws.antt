-- Laws of a test that each element of a list passes.
use Rattle.std.specs.Prelude.{◌≡◌, refl, Bool, true, ◌&&◌, ℕ, zero, suc, eqb, length, replicate}
use Rattle.std.proofs.Common.{ap₂, eqb-true}
use Rattle.std.proofs.Math.Bool.{and_assoc, and_comm, and-true, and-eq-true_iff}
use mathlib.Core.List.{List, [], ◌∷◌, ◌++◌, reverse, reverse-cons}
use Rattle.listing.specs.Every.{every}

-- Each element of two lists in a row passes where each of the one and of the other does.
pub every_append : {A : Type 0} (p : A → Bool) (k l : List A) → every p (k ++ l) ≡ (every p k && every p l)
every_append p [] l = refl
every_append p (a ∷ k) l = rw (every_append p k l, and_assoc)

-- Turning a list end for end changes nothing.
pub every-reverse : {A : Type 0} (p : A → Bool) (l : List A) → every p (reverse l) ≡ every p l
every-reverse p [] = refl
every-reverse p (a ∷ l) = rw (reverse-cons a l, every_append p (reverse l) (a ∷ []), every-reverse p l, and-true) (and_comm (every p l) (p a))

-- Where one test implies another, each element that passes the one passes the other.
pub every_implies : {A : Type 0} (p q : A → Bool) → ((a : A) → p a ≡ true → q a ≡ true) → (l : List A) → every p l ≡ true → every q l ≡ true
every_implies p q f [] h = refl
every_implies p q f (a ∷ l) h = let both = (and-eq-true_iff (p a) (every p l)).0 h in rw (f a both.0) (every_implies p q f l both.1)

-- One element many times passes where that element does.
pub every-replicate : {A : Type 0} (p : A → Bool) (n : ℕ) (a : A) → p a ≡ true → every p (replicate n a) ≡ true
every-replicate p zero a h = refl
every-replicate p (suc n) a h = rw h (every-replicate p n a h)

-- Numbers that each equal one number are that number many times.
pub every_equal : (a : ℕ) (l : List ℕ) → every (λ c. eqb c a) l ≡ true → l ≡ replicate (length l) a
every_equal a [] h = refl
every_equal a (c ∷ l) h =
    let both = (and-eq-true_iff (eqb c a) (every (λ c. eqb c a) l)).0 h in
    ap₂ {C = List ℕ} (λ (b : ℕ) (k : List ℕ). b ∷ k) (eqb-true c a both.0) (every_equal a l both.1)
