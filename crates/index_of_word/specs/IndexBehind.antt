-- Counting behind a guard: the index of a word among those that may follow, and what each stretch of its cells adds to it.
use Rattle.std.specs.Prelude.{◌≡◌, Bool, true, false, cond, ltb, length, take, drop}
use Rattle.std.proofs.Math.Path.{refl, ap, sym, fun_ext}
use Rattle.std.proofs.Common.{◌∙◌, true≢false, add_assoc, add-mul, zero-add, zero-mul, le_refl, sub-one, lt-ltb, ne_eqb}
use Rattle.std.proofs.Math.Bool.{and-eq-true_iff}
use mathlib.Core.List.{List, [], ◌∷◌}
use Prim.Native.Nat.{ℕ, zero, suc, ◌+◌, ◌-◌, ◌*◌, ◌≤◌, ◌<◌}
use Rattle.std.proofs.Math.Nat.{mul_assoc, sub-zero, suc-sub-suc}
use native.Mathlib.Omega.{arith}
use Rattle.patterns.specs.Walk.{walk, top_may_stand}
use Rattle.listing.specs.Listing.{index_in, behind, all_below}
use Rattle.listing.specs.Sums.{sum_const}
use Rattle.listing.proofs.FirstCell.{index_by_first, index_first}
use Rattle.listing.proofs.Order.{nothing_before_nil, first_below, rest_below}
use Rattle.code.specs.Code.{below_top, index}
use Rattle.code.specs.Stretches.{following}
use Rattle.code.proofs.Stretches.{following_low, following_guarded, legal_walks, walk_low, walk_top}

-- How many words, of the levels up to t, may follow where the guard is g and stand before w.
unfoldable pub index_behind : ℕ → ℕ → ℕ → List ℕ → ℕ
index_behind t x g w = index_in (suc t) (walk (below_top t x) g) w

-- A run of levels below top, read as one number to the base t, with the number s before it.
unfoldable pub digits : ℕ → ℕ → List ℕ → ℕ
digits t s [] = s
digits t s (a ∷ w) = digits t (s * t + a) w

-- Where a top has `left` cells behind it: how many of them are guarded, which row these use, and how many times the last of them takes it.
abbrev pub guarded_cells : ℕ → ℕ → ℕ
guarded_cells x left = cond (ltb x left) x left

abbrev pub guarded_row : ℕ → ℕ → ℕ
guarded_row x left = left - x - 1

abbrev pub guarded_factor : ℕ → ℕ → ℕ → ℕ
guarded_factor t x left = cond (ltb x left) t 1

-- In an open stretch it is the index.
pub index_behind_open : (t x : ℕ) (w : List ℕ) → index_behind t x 0 w ≡ index (suc t) x w
unfolding index_behind index
index_behind_open t x w = ap (λ (p : List ℕ → Bool). index_in (suc t) p w) (fun_ext (legal_walks t x))

-- Nothing stands before the word of no cells.
pub index_behind_none : (t x g : ℕ) → index_behind t x g [] ≡ 0
unfolding index_behind
index_behind_none t x g = index_first (suc t) _ [] nothing_before_nil

module _ (t x : ℕ) where
  -- Lower first cells leave as many words each; the cell itself leaves those before the rest.
  index_behind_by_first : (g a : ℕ) (w : List ℕ) → a < suc t
      → index_behind t x g (a ∷ w) ≡ a * following t x (g - 1) (length w) + index_in (suc t) (behind a (walk (below_top t x) g)) w
  unfolding index_behind
  index_behind_by_first g a w l =
      index_by_first (suc t) _ a w l
      ∙ ap (λ (n : ℕ). n + index_in (suc t) (behind a (walk (below_top t x) g)) w)
      (sum_const _ (following t x (g - 1) (length w)) a (λ c h. following_low t x g c (length w) (omega arith)))

  -- A cell below top.
  pub index_behind_low : (g a : ℕ) (w : List ℕ) → a < t → index_behind t x g (a ∷ w) ≡ a * following t x (g - 1) (length w) + index_behind t x (g - 1) w
  unfolding index_behind
  index_behind_low g a w l =
      index_behind_by_first g a w (omega arith)
      ∙ ap (λ (p : List ℕ → Bool). a * following t x (g - 1) (length w) + index_in (suc t) p w) (fun_ext (λ v. walk_low t x g a v l))

  -- A top, where it may stand.
  pub index_behind_top : (g : ℕ) (w : List ℕ) → top_may_stand (below_top t x) g ≡ true
      → index_behind t x g (t ∷ w) ≡ t * following t x (g - 1) (length w) + index_behind t x (suc x) w
  unfolding index_behind
  index_behind_top g w e =
      index_behind_by_first g t w (le_refl (suc t))
      ∙ ap (λ (p : List ℕ → Bool). t * following t x (g - 1) (length w) + index_in (suc t) p w) (fun_ext (λ v. walk_top t x g v ∙ rw e))

  -- In a guarded stretch, but for its first cell, no top may stand.
  top_stands_not : (g : ℕ) → 0 < g → g ≤ x → top_may_stand (below_top t x) g ≡ false
  top_stands_not g l h = rw (ne_eqb g 0 (omega arith), ne_eqb g (suc x) (omega arith))

  -- A first cell that is not top is below top.
  pub first_low : (a : ℕ) (w : List ℕ) → all_below (suc t) (a ∷ w) ≡ true → (a ≡ t → ⊥) → a < t
  first_low a w b n = let l = first_below (suc t) a w b in omega arith

  -- So the cell in a guarded stretch is.
  guarded_first_low : (g a : ℕ) (w : List ℕ) → 0 < g → g ≤ x → all_below (suc t) (a ∷ w) ≡ true → walk (below_top t x) g (a ∷ w) ≡ true → a < t
  guarded_first_low g a w l h b e = first_low a w b
      (λ (s : a ≡ t). let f = rw s at e in
      true≢false (sym ((and-eq-true_iff (top_may_stand (below_top t x) g) _).0 (sym (walk_top t x g w) ∙ f)).0 ∙ top_stands_not g l h))

  -- And so are the first j cells there.
  pub guarded_low : (g j : ℕ) (w : List ℕ) → j ≤ g → g ≤ x → all_below (suc t) w ≡ true → walk (below_top t x) g w ≡ true → all_below t (take j w) ≡ true
  guarded_low g zero w l h b e = refl
  guarded_low g (suc j) [] l h b e = refl
  guarded_low g (suc j) (a ∷ w) l h b e =
      let low = guarded_first_low g a w (omega arith) h b e in
      rw (lt-ltb a t low) (guarded_low (g - 1) j w (omega arith) (omega arith) (rest_below (suc t) a w b) (sym (walk_low t x g a w low) ∙ e))

  -- Behind j cells below top the walk goes on with the guard less by j.
  pub walk_past_low : (g j : ℕ) (w : List ℕ) → j ≤ g → all_below t (take j w) ≡ true → walk (below_top t x) g w ≡ walk (below_top t x) (g - j) (drop j w)
  unfolding walk
  walk_past_low g zero w l b = rw sub-zero
  walk_past_low g (suc j) [] l b = refl
  walk_past_low g (suc j) (a ∷ w) l b =
      let s : g - 1 - j ≡ g - suc j = omega arith in
      walk_low t x g a w (first_below t a (take j w) b) ∙ walk_past_low (g - 1) j w (omega arith) (rest_below t a (take j w) b) ∙ rw s

  -- The levels of j guarded cells count as one number.
  pub index_behind_past_low : (g j s : ℕ) (w : List ℕ) → j ≤ g → g ≤ x → j ≤ length w → all_below t (take j w) ≡ true
      → s * following t x g (length w) + index_behind t x g w
      ≡ digits t s (take j w) * following t x (g - j) (length (drop j w)) + index_behind t x (g - j) (drop j w)
  unfolding digits
  index_behind_past_low g zero s w l h k b = rw sub-zero
  index_behind_past_low g (suc j) s [] l h k b = absurd (omega arith)
  index_behind_past_low zero (suc j) s (a ∷ w) l h k b = absurd (omega arith)
  index_behind_past_low (suc g) (suc j) s (a ∷ w) l h k b =
      rw (following_guarded t x g (length w) h, index_behind_low (suc g) a w (first_below t a (take j w) b), sub-one)
      (one_more s (following t x g (length w)) a (index_behind t x g w)
      ∙ index_behind_past_low g j (s * t + a) w (omega arith) (omega arith) (omega arith) (rest_below t a (take j w) b) ∙ rw suc-sub-suc)
    where
      one_more : (s f a r : ℕ) → s * (t * f) + (a * f + r) ≡ (s * t + a) * f + r
      one_more s f a r = rw (add-mul, mul_assoc, add_assoc)

  -- Behind a whole guarded stretch the rest is an open one: a top may not stand first there, and the weight is the open one.
  pub walk_after : (w : List ℕ) → 0 < x → all_below (suc t) w ≡ true → walk (below_top t x) 1 w ≡ true → walk (below_top t x) 0 w ≡ true
  unfolding walk
  walk_after [] l b e = refl
  walk_after (a ∷ w) l b e =
      let low = guarded_first_low 1 a w (omega arith) l b e in
      walk_low t x 0 a w low ∙ sym (walk_low t x 1 a w low) ∙ e

  pub index_behind_after : (w : List ℕ) → 0 < x → all_below (suc t) w ≡ true → walk (below_top t x) 1 w ≡ true → index_behind t x 1 w ≡ index_behind t x 0 w
  index_behind_after [] l b e = index_behind_none t x 1 ∙ sym (index_behind_none t x 0)
  index_behind_after (a ∷ w) l b e =
      let low = guarded_first_low 1 a w (omega arith) l b e in
      index_behind_low 1 a w low ∙ sym (index_behind_low 0 a w low)

  -- Nothing before the first level.
  digits_first : (a : ℕ) (w : List ℕ) → digits t 0 (a ∷ w) ≡ digits t a w
  unfolding digits
  digits_first a w = rw (zero-mul, zero-add)

  -- What the first cell behind a top and j guarded ones behind it add is their number times the weight of the last.
  pub guarded_levels : (a j : ℕ) (w : List ℕ) → a < t → j ≤ x → j ≤ length w → all_below t (take j w) ≡ true
      → index_behind t x (suc x) (a ∷ w) ≡ digits t 0 (a ∷ take j w) * following t x (x - j) (length (drop j w)) + index_behind t x (x - j) (drop j w)
  guarded_levels a j w l h k b =
      index_behind_low (suc x) a w l ∙ rw (sub-one, digits_first) (index_behind_past_low x j a w h (le_refl x) k b)
