-- The walk finds exactly the forbidden patterns.
use Rattle.std.specs.Prelude.{◌≡◌, Bool, cond, not, ◌&&◌, ◌||◌, ℕ, zero, suc, ◌≤◌, ◌-◌}
use Rattle.std.proofs.Math.Path.{refl}
use Rattle.std.proofs.Math.Bool.{true, false, and-false, or-false, or-true, and_assoc, or_assoc, and-or_distrib_left}
use mathlib.Core.List.{List, [], ◌∷◌, ◌++◌}
use Rattle.std.proofs.Common.{arith, sub-one, eqb-true, eq-eqb, ne_eqb}
use Rattle.std.proofs.Math.Dec.{eqb}
use Rattle.patterns.specs.Pattern.{Patterns, middle_then_top, pattern_up_to, pattern_free}
use Rattle.patterns.specs.Walk.{top_may_stand, guard_after, walk, guard_behind}

module _ (S : Patterns) where
  -- The cells begin with fewer than s cells of the middle set and then a top.
  abbrev closes_within : ℕ → List ℕ → Bool
  closes_within zero w = false
  closes_within (suc s) w = closes_within s w || middle_then_top S s w

  -- Behind a top, the cells complete a pattern.
  abbrev completes : List ℕ → Bool
  completes [] = false
  completes (c ∷ w) = S.middle c && closes_within S.reach w

  closes_within_nil : (s : ℕ) → closes_within s [] ≡ false
  closes_within_nil zero = refl
  closes_within_nil (suc s) = rw (closes_within_nil s)

  closes_within_cons : (s c : ℕ) (w : List ℕ) → closes_within (suc s) (c ∷ w) ≡ (eqb c S.top || (S.middle c && closes_within s w))
  closes_within_cons zero c w = simp (and-false, or-false)
  closes_within_cons (suc s) c w = rw (closes_within_cons s c w) (simp (and-or_distrib_left, or_assoc))

  up_to_cons : (x c d : ℕ) (w : List ℕ) → pattern_up_to S x (c ∷ d ∷ w) ≡ (eqb c S.top && (S.middle d && closes_within x w))
  up_to_cons zero c d w = simp and-false
  up_to_cons (suc x) c d w = simp (up_to_cons x c d w, and-or_distrib_left)

  up_to_nil : (x c : ℕ) → pattern_up_to S x (c ∷ []) ≡ false
  up_to_nil zero c = refl
  up_to_nil (suc x) c = simp (up_to_nil x c, and-false)

  free_cons : (c : ℕ) (w : List ℕ) → pattern_free S (c ∷ w) ≡ (not (eqb c S.top && completes w) && pattern_free S w)
  unfolding pattern_free
  free_cons c [] = simp (up_to_nil, and-false)
  free_cons c (d ∷ w) = rw (up_to_cons S.reach c d w)

  closes_within_other : (s c : ℕ) (w : List ℕ) → eqb c S.top ≡ false → closes_within s (c ∷ w) ≡ (S.middle c && closes_within (s - 1) w)
  closes_within_other zero c w e = simp and-false
  closes_within_other (suc s) c w e = rw (closes_within_cons s c w, e, sub-one)

  -- The walk from a guard: the cells neither end a pattern begun behind them nor hold one.
  record Reads (w : List ℕ) : Type 0 where
    within : (s : ℕ) → s ≤ S.reach → walk S s w ≡ (not (closes_within s w) && pattern_free S w)
    fresh : walk S (suc S.reach) w ≡ (not (completes w) && pattern_free S w)

  -- A top may stand just behind another top.
  pub top_may_stand_fresh : top_may_stand S (suc S.reach) ≡ true
  top_may_stand_fresh = simp (eq-eqb (suc S.reach) (suc S.reach) refl, or-true)

  top_may_not_stand : (s : ℕ) → suc s ≤ S.reach → top_may_stand S (suc s) ≡ false
  top_may_not_stand s h = rw (ne_eqb (suc s) 0 (omega arith), ne_eqb (suc s) (suc S.reach) (omega arith))

  module _ (apart : S.middle S.top ≡ false) where
    reads : (w : List ℕ) → Reads w
    unfolding walk pattern_free
    reads [] = record { within = λ s h. rw (closes_within_nil s); fresh = refl }
    reads (c ∷ w) = go (eqb c S.top) refl (reads w)
      where
        go : (e : Bool) → eqb c S.top ≡ e → Reads w → Reads (c ∷ w)
        go true e r = record { within = at; fresh = rw (free_cons c w, e, top_may_stand_fresh, m) r.fresh }
          where
            m : S.middle c ≡ false
            m = rw (eqb-true c S.top e) apart

            at : (s : ℕ) → s ≤ S.reach → walk S s (c ∷ w) ≡ (not (closes_within s (c ∷ w)) && pattern_free S (c ∷ w))
            at zero h = rw (free_cons c w, e) r.fresh
            at (suc s) h = rw (closes_within_cons s c w, e, top_may_not_stand s h)
        go false e r =
            record {
              within = λ s h. rw (closes_within_other s c w e, free_cons c w, e) (at (s - 1) (omega arith) (S.middle c));
              fresh = rw (free_cons c w, e, sub-one) (at S.reach (omega arith) (S.middle c));
            }
          where
            at : (s : ℕ) → s ≤ S.reach → (m : Bool) → walk S (cond m s 0) w ≡ (not (m && closes_within s w) && pattern_free S w)
            at s h true = r.within s h
            at s h false = r.within 0 (omega arith)

    -- Where the middle set is without top, the walk from an open stretch tells whether the cells are pattern-free.
    pub walk_is-pattern_free : (w : List ℕ) → walk S 0 w ≡ pattern_free S w
    walk_is-pattern_free w = (reads w).within 0 (omega arith)

    -- The walk from just behind a top tells whether that top and the cells are pattern-free.
    pub fresh_walk_is-pattern_free : (w : List ℕ) → walk S (suc S.reach) w ≡ pattern_free S (S.top ∷ w)
    fresh_walk_is-pattern_free w = rw (free_cons S.top w, eq-eqb S.top S.top refl) (reads w).fresh

  -- A walk over two runs of cells: over the first, then over the second from the guard behind the first.
  pub walk-append : (g : ℕ) (a b : List ℕ) → walk S g (a ++ b) ≡ (walk S g a && walk S (guard_behind S g a) b)
  unfolding walk guard_behind
  walk-append g [] b = refl
  walk-append g (c ∷ a) b = rw (walk-append (guard_after S g c) a b, and_assoc)
