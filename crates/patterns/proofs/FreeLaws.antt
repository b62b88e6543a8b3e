-- What is pattern-free: streams that are joined over a bridge, a run of tops, and a run of zeros.
use Rattle.std.specs.Prelude.{◌≡◌, Bool, cond, replicate}
use Rattle.std.proofs.Math.Path.{refl, sym}
use Rattle.std.proofs.Common.{◌∙◌, eq-eqb, ne_eqb}
use Rattle.std.proofs.Math.Bool.{true, false}
use mathlib.Core.List.{List, [], ◌∷◌, ◌++◌, append-nil}
use Prim.Native.Nat.{ℕ, zero, suc, ◌≤◌, ◌<◌, ◌-◌}
use native.Mathlib.Omega.{arith}
use Rattle.std.proofs.Math.Dec.{eqb}
use Rattle.patterns.specs.Pattern.{Patterns, pattern_free}
use Rattle.patterns.specs.Walk.{guard_after, walk, guard_behind}
use Rattle.patterns.specs.Stream.{bridge, last_cell, joined}
use Rattle.patterns.proofs.WalkLaws.{walk_is-pattern_free, fresh_walk_is-pattern_free, walk-append, top_may_stand_fresh}

module _ (S : Patterns) where
  walk_tops : (n : ℕ) (w : List ℕ) → walk S (suc S.reach) (replicate n S.top ++ w) ≡ walk S (suc S.reach) w
  unfolding walk
  walk_tops zero w = refl
  walk_tops (suc n) w = rw (eq-eqb S.top S.top refl, top_may_stand_fresh S) (walk_tops n w)

  guard_falls : (g c : ℕ) → eqb c S.top ≡ false → guard_after S g c ≤ g - 1
  guard_falls g c e = rw e (go (S.middle c))
    where
      go : (m : Bool) → cond m (g - 1) 0 ≤ g - 1
      go true = omega arith
      go false = omega arith

  guard_bounded : (g c : ℕ) → g ≤ suc S.reach → guard_after S g c ≤ suc S.reach
  guard_bounded g c h = go (eqb c S.top) refl
    where
      go : (e : Bool) → eqb c S.top ≡ e → guard_after S g c ≤ suc S.reach
      go true e = rw e (omega arith)
      go false e = omega (arith, guard_falls g c e)

  -- The guard behind cells is the guard behind their last cell, from some guard of at most x + 1.
  behind_last : (g c : ℕ) (a : List ℕ) → g ≤ suc S.reach → (h : ℕ) × (h ≤ suc S.reach) × (guard_behind S g (c ∷ a) ≡ guard_after S h (last_cell (c ∷ a)))
  unfolding guard_behind
  behind_last g c [] l = (g, l, refl)
  behind_last g c (d ∷ a) l = behind_last (guard_after S g c) d a (guard_bounded g c l)

  walk_other : (g c : ℕ) (w : List ℕ) → eqb c S.top ≡ false → walk S g (c ∷ w) ≡ walk S (guard_after S g c) w
  unfolding walk
  walk_other g c w e = rw e

  walk_top : (c : ℕ) (w : List ℕ) → eqb c S.top ≡ true → walk S (suc S.reach) (c ∷ w) ≡ walk S 0 (c ∷ w)
  unfolding walk
  walk_top c w e = rw (e, top_may_stand_fresh S)

  walk_enters : (g d : ℕ) (b : List ℕ) → g ≤ 1 → eqb d S.top ≡ false → walk S g (d ∷ b) ≡ walk S 0 (d ∷ b)
  walk_enters g d b l e =
      let same : guard_after S g d ≡ guard_after S 0 d = omega (arith, guard_falls g d e, guard_falls 0 d e) in
      cc (walk_other g d b e, walk_other 0 d b e)

  module _ (nonzero : 0 < S.top) where
    walk_zeros : (n g : ℕ) (w : List ℕ) → walk S g (replicate n 0 ++ w) ≡ walk S (guard_behind S g (replicate n 0)) w
    unfolding guard_behind
    walk_zeros zero g w = refl
    walk_zeros (suc n) g w = walk_other g 0 (replicate n 0 ++ w) (ne_eqb 0 S.top (omega arith)) ∙ walk_zeros n (guard_after S g 0) w

    guard_over_zeros : (n g : ℕ) → guard_behind S g (replicate n 0) ≤ g - n
    unfolding guard_behind
    guard_over_zeros zero g = omega arith
    guard_over_zeros (suc n) g = omega (arith, guard_over_zeros n (guard_after S g 0), guard_falls g 0 (ne_eqb 0 S.top (omega arith)))

    walk_over_bridge : (g c d : ℕ) (b : List ℕ) → g ≤ suc S.reach → walk S (guard_after S g c) (bridge S c d ++ (d ∷ b)) ≡ walk S 0 (d ∷ b)
    unfolding bridge
    walk_over_bridge g c d b l = go (eqb c S.top) refl (eqb d S.top) refl
      where
        go : (e : Bool) → eqb c S.top ≡ e → (f : Bool) → eqb d S.top ≡ f → walk S (guard_after S g c) (bridge S c d ++ (d ∷ b)) ≡ walk S 0 (d ∷ b)
        go true e true f = rw (e, f, walk_tops) (walk_top d b f)
        go true e false f =
            let low = guard_over_zeros S.reach (suc S.reach) in
            rw (e, f, walk_zeros) (walk_enters (guard_behind S (suc S.reach) (replicate S.reach 0)) d b (omega arith) f)
        go false e f h =
            let shut : guard_behind S (guard_after S g c) (replicate S.reach 0) ≡ 0 = omega (arith, guard_over_zeros S.reach (guard_after S g c), guard_falls g c e) in
            rw (e, walk_zeros, rw e at shut)

  -- Two pattern-free streams joined are pattern-free, where the middle set is without top and top is not 0.
  pub joined_free : S.middle S.top ≡ false → 0 < S.top → (a b : List ℕ) → pattern_free S a ≡ true → pattern_free S b ≡ true → pattern_free S (joined S a b) ≡ true
  unfolding joined
  joined_free apart nonzero [] b h k = k
  joined_free apart nonzero (c ∷ a) [] h k = h
  joined_free apart nonzero (c ∷ a) (d ∷ b) h k =
      let t = behind_last 0 c a (omega arith) in
      let over = bridge S (last_cell (c ∷ a)) d ++ (d ∷ b) in
      let first = walk_is-pattern_free S apart (c ∷ a) ∙ h in
      let second = walk_over_bridge nonzero t.0 (last_cell (c ∷ a)) d b t.1 ∙ walk_is-pattern_free S apart (d ∷ b) ∙ k in
      rw (← (walk_is-pattern_free S apart ((c ∷ a) ++ over)), walk-append S 0 (c ∷ a) over, first, t.2, second)

  -- A run of tops is pattern-free, where the middle set is without top.
  pub top_run_free : S.middle S.top ≡ false → (m : ℕ) → pattern_free S (replicate m S.top) ≡ true
  unfolding walk pattern_free
  top_run_free apart zero = refl
  top_run_free apart (suc m) = sym (fresh_walk_is-pattern_free S apart (replicate m S.top)) ∙ rw (← (append-nil (replicate m S.top))) (walk_tops m [])

  -- A run of zeros is pattern-free, where the middle set is without top and top is not 0.
  pub zero_run_free : S.middle S.top ≡ false → 0 < S.top → (m : ℕ) → pattern_free S (replicate m 0) ≡ true
  unfolding walk
  zero_run_free apart nonzero m =
      sym (walk_is-pattern_free S apart (replicate m 0)) ∙ rw (← (append-nil {A = ℕ} (replicate m 0))) (walk_zeros nonzero m 0 [])
