-- Theorem 2: the sum of levels times weights is the index by counting.
use Rattle.std.specs.Prelude.{◌≡◌, refl, Bool, true, false, cond, leb, eqb, length}
use Rattle.std.proofs.Math.Path.{ap, ap₂, sym, fun_ext}
use Rattle.std.proofs.Common.{◌∙◌, sub-one, arith, leb-true, leb-false, le-leb, eqb-true}
use Rattle.std.proofs.Math.Bool.{and-eq-true_iff}
use mathlib.Core.List.{List, [], ◌∷◌}
use Prim.Native.Nat.{ℕ, zero, suc, ◌+◌, ◌-◌, ◌*◌, ◌≤◌, ◌<◌}
use Rattle.std.proofs.Math.Nat.{sub-zero}
use Rattle.std.proofs.lemmas.Bool.{eqb-false}
use Rattle.patterns.specs.Walk.{walk, top_may_stand}
use Rattle.listing.specs.Listing.{index_in, all_below}
use Rattle.listing.specs.Sums.{sum_const}
use Rattle.listing.proofs.FirstCell.{index_by_first, index_first}
use Rattle.listing.proofs.Order.{nothing_before_nil, first_below, rest_below}
use Rattle.code.specs.Code.{below_top, LegalWord, index}
use Rattle.code.specs.Formulas.{one_further, distance_back, guard_of, weight, weighted_from, index_by_weights}
use Rattle.code.specs.Stretches.{following}
use Rattle.code.proofs.Stretches.{following_low, following_weight, following_legal, legal_walks, walk_low, walk_top}

-- The guard of the walk at a place, by the distance k back to the nearest top.
abbrev guard_at : ℕ → ℕ → ℕ
guard_at x zero = 0
guard_at x (suc k) = suc x - k

guard_one_further : (x k : ℕ) → guard_at x (one_further k) ≡ guard_at x k - 1
guard_one_further x zero = refl
guard_one_further x (suc k) = omega arith

-- g of theorem 2 is the guard behind a cell below top.
g_is_guard : (x k : ℕ) → guard_of x k ≡ guard_at x k - 1
g_is_guard x zero = refl
g_is_guard x (suc k) = rw (le-leb 1 (suc k) (omega arith)) (go (leb (suc k) x) refl)
  where
    go : (b : Bool) → leb (suc k) x ≡ b → cond b (x - suc k + 1) 0 ≡ suc x - k - 1
    go true e = let l = leb-true (suc k) x e in omega arith
    go false e = let l = leb-false (suc k) x e in omega arith

g_within : (x k : ℕ) → guard_at x k - 1 ≤ x
g_within x zero = omega arith
g_within x (suc k) = omega arith

-- The weight is how many words may follow a cell below top.
pub weight_following : (t x g i : ℕ) → g ≤ x → weight (suc t) x g i ≡ following t x g i
weight_following t x g i l = rw (sub-one, ← following_legal t x (i - g)) (sym (following_weight t x g i l))

module _ (t x : ℕ) where
  -- The guard of the walk at the place with these cells on its left.
  abbrev guard_for : List ℕ → ℕ
  guard_for left = guard_at x (distance_back t left)

  weight_for : (left : List ℕ) (i : ℕ) → weight (suc t) x (guard_of x (distance_back (suc t - 1) left)) i ≡ following t x (guard_for left - 1) i
  weight_for left i =
      ap (λ (top : ℕ). weight (suc t) x (guard_of x (distance_back top left)) i) (sub-one (suc t))
      ∙ ap (λ (g : ℕ). weight (suc t) x g i) (g_is_guard x (distance_back t left)) ∙ weight_following t x _ i (g_within x (distance_back t left))

  weighted_cons : (left : List ℕ) (a : ℕ) (w : List ℕ)
      → weighted_from (suc t) x left (a ∷ w) ≡ a * following t x (guard_for left - 1) (length w) + weighted_from (suc t) x (a ∷ left) w
  unfolding weighted_from
  weighted_cons left a w = ap (λ (n : ℕ). a * n + weighted_from (suc t) x (a ∷ left) w) (weight_for left (length w))

  -- Behind a cell that may stand, the walk goes on with the guard for the cells on the left, that cell among them.
  walk_on : (left : List ℕ) (a : ℕ) (w : List ℕ) → a < suc t → walk (below_top t x) (guard_for left) (a ∷ w) ≡ true
      → (v : List ℕ) → walk (below_top t x) (guard_for left) (a ∷ v) ≡ walk (below_top t x) (guard_for (a ∷ left)) v
  walk_on left a w l e v = go (eqb a t) refl
    where
      go : (b : Bool) → eqb a t ≡ b → walk (below_top t x) (guard_for left) (a ∷ v) ≡ walk (below_top t x) (guard_for (a ∷ left)) v
      go true s =
          let f = rw (eqb-true a t s) at e in
          let may = ((and-eq-true_iff (top_may_stand (below_top t x) (guard_for left)) _).0 (sym (walk_top t x (guard_for left) w) ∙ f)).0 in
          rw (s, eqb-true a t s, sub-zero) (walk_top t x (guard_for left) v ∙ rw may)
      go false s =
          let ne = eqb-false a t s in
          rw (s, guard_one_further) (walk_low t x (guard_for left) a v (omega arith))

  weights_index : (left w : List ℕ) → all_below (suc t) w ≡ true → walk (below_top t x) (guard_for left) w ≡ true
      → weighted_from (suc t) x left w ≡ index_in (suc t) (walk (below_top t x) (guard_for left)) w
  unfolding weighted_from
  weights_index left [] b e = sym (index_first (suc t) _ [] nothing_before_nil)
  weights_index left (a ∷ w) b e =
      let l = first_below (suc t) a w b in
      let on = walk_on left a w l e in
      let low = sum_const _ (following t x (guard_for left - 1) (length w)) a (λ c h. following_low t x (guard_for left) c (length w) (omega arith)) in
      let rest = weights_index (a ∷ left) w (rest_below (suc t) a w b) (sym (on w) ∙ e) ∙ ap (λ (p : List ℕ → Bool). index_in (suc t) p w) (sym (fun_ext on)) in
      weighted_cons left a w ∙ ap₂ (λ (u v : ℕ). u + v) (sym low) rest ∙ sym (index_by_first (suc t) _ a w l)

-- Theorem 2: for a legal word the weighted sum is the index by counting.
pub theorem_2 : (q x m : ℕ) (w : List ℕ) → 0 < q → LegalWord q x m w → index_by_weights q x w ≡ index q x w
unfolding index
theorem_2 zero x m w l r = absurd (omega arith)
theorem_2 (suc t) x m w l r =
    weights_index t x [] w r.levelled (legal_walks t x w ∙ r.passes) ∙ ap (λ (p : List ℕ → Bool). index_in (suc t) p w) (fun_ext (legal_walks t x))
