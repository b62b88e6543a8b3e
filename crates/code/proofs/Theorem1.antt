-- Theorem 1: the printed recursion gives the counts by listing, and no difference in it goes below 0.
use Rattle.std.specs.Prelude.{◌≡◌, refl, Bool, true, false, List, [], ◌∷◌, ℕ, zero, suc, ◌+◌, ◌-◌, ◌*◌, ◌≤◌, ◌<◌, leb, get_or}
use Rattle.std.proofs.Common.{ap, ◌∙◌, sym, le_refl, suc-mul, mul_assoc, mul-one, sub-one, add-one, arith, leb-true}
use Rattle.std.proofs.Math.Nat.{pow-succ', suc-sub-suc, sub-zero}
use Rattle.std.proofs.Math.Numerals.{add-two}
use Rattle.std.proofs.Math.Dec.{leb-suc-suc}
use Rattle.code.specs.Code.{N}
use Rattle.code.specs.Formulas.{last_term, next_count, with_next, counts_down_from, count_by_recursion}
use Rattle.code.specs.Stretches.{following}
use Rattle.code.proofs.Stretches.{following_none, following_open, following_fresh, following_weight, following_legal, count_splits, scaled}

-- N(0) is 1.
pub count_of_no_cells : (q x : ℕ) → 0 < q → N q x 0 ≡ 1
count_of_no_cells zero x l = absurd (omega arith)
count_of_no_cells (suc t) x l = sym (following_legal t x 0) ∙ following_none t x 0

-- N(1) is q.
pub count_of_one_cell : (q x : ℕ) → 0 < q → N q x 1 ≡ q
count_of_one_cell zero x l = absurd (omega arith)
count_of_one_cell (suc t) x l =
    sym (following_legal t x 1) ∙ following_open t x 0 ∙ rw (following_none t x 0, following_none t x (suc x), mul-one, add-one)

-- T is the words that follow a top and a first cell below it.
last_term_lem : (t x m : ℕ) → last_term (suc t) x (suc (suc m)) (N (suc t) x (m - x)) ≡ t * following t x x m
last_term_lem t x m =
    let weighed = ap (λ (n : ℕ). t * n) (following_weight t x x m (le_refl x)) ∙ scaled t _ _ (leb x m) in
    rw (sub-one, add-two, leb-suc-suc, leb-suc-suc, sub-one, add-one, ← following_legal t x (m - x), pow-succ' t x, pow-succ' t m, mul_assoc)
    (sym weighed)

-- Theorem 1 as printed, for counts by listing.
pub theorem_1 : (q x m : ℕ) → 0 < q → N q x (suc (suc m)) ≡ next_count q x (suc (suc m)) (N q x (suc m)) (N q x m) (N q x (m - x))
theorem_1 zero x m l = absurd (omega arith)
theorem_1 (suc t) x m l =
    let a = count_splits t x (suc m) in
    let b = following_fresh t x m in
    let c = count_splits t x m in
    rw (last_term_lem t x m, sub-one, suc-mul) (omega arith)

-- The difference in theorem 1 does not go below 0.
pub difference_not_below_0 : (q x m : ℕ) → 0 < q → (q - 1) * N q x m ≤ q * N q x (suc m)
difference_not_below_0 zero x m l = absurd (omega arith)
difference_not_below_0 (suc t) x m l =
    let c = count_splits t x m in
    rw (sub-one, suc-mul) (omega arith)

-- f m, f (m - 1), .., f 0.
abbrev down_from : (ℕ → ℕ) → ℕ → List ℕ
down_from f zero = f 0 ∷ []
down_from f (suc m) = f (suc m) ∷ down_from f m

down_first : (f : ℕ → ℕ) (m : ℕ) → get_or (down_from f m) 0 0 ≡ f m
down_first f zero = refl
down_first f (suc m) = refl

down_at : (f : ℕ → ℕ) (m k : ℕ) → k ≤ m → get_or (down_from f m) k 0 ≡ f (m - k)
down_at f m zero l = rw sub-zero (down_first f m)
down_at f zero (suc k) l = absurd (omega arith)
down_at f (suc m) (suc k) l = rw suc-sub-suc (down_at f m k (omega arith))

-- T does not depend on N(m - x - 2) where that length is negative.
last_term_same : (q x m n k : ℕ) → (x + 2 ≤ m → n ≡ k) → last_term q x m n ≡ last_term q x m k
last_term_same q x m n k h = go (leb (x + 2) m) refl
  where
    go : (b : Bool) → leb (x + 2) m ≡ b → last_term q x m n ≡ last_term q x m k
    go true e = rw (h (leb-true (x + 2) m e))
    go false e = rw e

with_next_lem : (q x m : ℕ) → 0 < q → with_next q x m (down_from (N q x) m) ≡ down_from (N q x) (suc m)
with_next_lem q x zero l = rw (count_of_one_cell q x l)
with_next_lem q x (suc m) l =
    let far = get_or (down_from (N q x) (suc m)) (x + 1) 0 in
    let same = last_term_same q x (suc (suc m)) far (N q x (m - x)) (λ h. rw add-one (down_at (N q x) m x (omega arith))) in
    ap (λ (n : ℕ). n ∷ down_from (N q x) (suc m)) (rw (down_first (N q x) m, same) (sym (theorem_1 q x m l)))

counts_listed : (q x m : ℕ) → 0 < q → counts_down_from q x m ≡ down_from (N q x) m
unfolding counts_down_from
counts_listed q x zero l = rw (count_of_no_cells q x l)
counts_listed q x (suc m) l = ap (with_next q x m) (counts_listed q x m l) ∙ with_next_lem q x m l

-- The count by theorem 1's recursion is the count by listing.
pub recursion_counts : (q x m : ℕ) → 0 < q → count_by_recursion q x m ≡ N q x m
unfolding count_by_recursion
recursion_counts q x m l = rw (counts_listed q x m l) (down_first (N q x) m)
