-- Sums over the levels below a number.
use Rattle.std.specs.Prelude.{◌≡◌, refl, ◌⊎◌, List, [], ◌∷◌, ℕ, zero, suc, ◌+◌, ◌*◌, ◌≤◌, ◌<◌}
use Rattle.std.proofs.Common.{ap, ap₂, ◌∙◌, sym, inl, inr, ⊎_elim, zero-le, add-le-add, zero-mul, suc-mul, le_refl, add-zero, zero-add, add_assoc, arith}
use Rattle.std.proofs.Math.Nat.{le-suc_iff, suc_inj}
use Rattle.listing.specs.Listing.{levels_from, levels}

-- f 0 + f 1 + .. + f (n - 1).
abbrev pub sum_below : (ℕ → ℕ) → ℕ → ℕ
sum_below f zero = 0
sum_below f (suc n) = sum_below f n + f n

-- f summed over a list of levels.
abbrev pub sum_over : (ℕ → ℕ) → List ℕ → ℕ
sum_over f [] = 0
sum_over f (c ∷ cs) = f c + sum_over f cs

sum-levels_from : (f : ℕ → ℕ) (c n : ℕ) → sum_below f c + sum_over f (levels_from c n) ≡ sum_below f (c + n)
sum-levels_from f c zero = simp add-zero
sum-levels_from f c (suc n) =
    let e : suc c + n ≡ c + suc n = omega arith in
    sym (add_assoc _ _ _) ∙ sum-levels_from f (suc c) n ∙ ap (sum_below f) e

-- Summing over the levels below q is summing below q.
pub sum_levels : (f : ℕ → ℕ) (q : ℕ) → sum_over f (levels q) ≡ sum_below f q
sum_levels f q = sym (zero-add _) ∙ sum-levels_from f 0 q ∙ ap (sum_below f) (zero-add q)

-- The sum depends only on the values below its end.
pub sum_same : (f g : ℕ → ℕ) (n : ℕ) → ((c : ℕ) → c < n → f c ≡ g c) → sum_below f n ≡ sum_below g n
sum_same f g zero h = refl
sum_same f g (suc n) h = ap₂ (λ (a b : ℕ). a + b) (sum_same f g n (λ c l. h c (omega arith))) (h n (omega arith))

-- A sum of equal parts is a product.
pub sum_const : (f : ℕ → ℕ) (k n : ℕ) → ((c : ℕ) → c < n → f c ≡ k) → sum_below f n ≡ n * k
sum_const f k zero h = rw zero-mul
sum_const f k (suc n) h = rw suc-mul (ap₂ (λ (a b : ℕ). a + b) (sum_const f k n (λ c l. h c (omega arith))) (h n (omega arith)))

-- A sum of n parts, none above k, is at most n * k.
pub sum_bound : (f : ℕ → ℕ) (k n : ℕ) → ((c : ℕ) → c < n → f c ≤ k) → sum_below f n ≤ n * k
sum_bound f k zero h = zero-le
sum_bound f k (suc n) h = rw suc-mul (add-le-add (sum_bound f k n (λ c l. h c (omega arith))) (h n (omega arith)))

-- A longer sum is no smaller.
pub sum_mono : (f : ℕ → ℕ) (m n : ℕ) → m ≤ n → sum_below f m ≤ sum_below f n
sum_mono f m zero h = let e : m ≡ 0 = omega arith in rw e (le_refl 0)
sum_mono f m (suc n) h = ⊎_elim (λ (l : m ≤ n). let r = sum_mono f m n l in omega arith) (λ (e : m ≡ suc n). rw e (le_refl _)) (le-suc_iff.0 h)

-- A sum whose parts are 0 behind c ends with c.
pub sum_ends : (f : ℕ → ℕ) (c n : ℕ) → c < n → ((d : ℕ) → c < d → f d ≡ 0) → sum_below f n ≡ sum_below f c + f c
sum_ends f c zero l h = omega arith
sum_ends f c (suc n) l h =
    ⊎_elim (λ (b : c < n). let r = sum_ends f c n b h in let z = h n b in omega arith) (λ (e : c ≡ n). rw e refl) (le_cases c n l)
  where
    le_cases : (c n : ℕ) → c < suc n → (c < n) ⊎ (c ≡ n)
    le_cases c n l = ⊎_elim (λ b. inl b) (λ e. inr (suc_inj e)) (le-suc_iff.0 l)
