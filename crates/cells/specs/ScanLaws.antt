-- Laws of the scan from a top: what the cells behind it say of a pattern that begins there.
use Rattle.std.specs.Prelude.{◌≡◌, refl, Bool, true, false, ◌&&◌, Some, None, List, [], ◌∷◌, ℕ, zero, suc, ◌≤◌, ◌<◌, ltb, leb, eqb, length, get_or, take, position}
use Rattle.std.proofs.Common.{sym, ◌∙◌, subst, le_antisymm, arith, ltb-true, ltb-false, leb-true, leb-false, eqb-true}
use Rattle.std.proofs.lemmas.Bool.{eqb-false}
use Rattle.std.proofs.lemmas.List.{take_all}
use Rattle.std.proofs.lemmas.List.Quantifiers.{position-Some}
use Rattle.patterns.specs.Pattern.{Patterns, middle_then_top, pattern_up_to}
use Rattle.code.specs.Code.{below_top}
use Rattle.cells.specs.Finding.{pattern_at}
use Rattle.cells.specs.BeginsLaws.{LowBetween, Begins, begins_pattern, no_pattern}
use Rattle.cells.specs.FirstLaws.{passes_nowhere}

-- No pattern begins where there are no cells, nor at a cell that is no top.
pub no_cell_begins : (top x : ℕ) (run : List ℕ) → length run ≡ 0 → false ≡ pattern_at (below_top top x) run 0
no_cell_begins top x run none = sym (no_pattern top x run 0 (λ b. omega (arith, b.inside)))

pub begins_with_top : (top x first : ℕ) (behind : List ℕ) → (first ≡ top → ⊥) → false ≡ pattern_at (below_top top x) (first ∷ behind) 0
begins_with_top top x first behind other = sym (no_pattern top x (first ∷ behind) 0 (λ b. other b.first))

module _ (top x first : ℕ) (behind : List ℕ) where
  -- Cells that do not reach top are below it.
  below : (low : ℕ) → ((k : ℕ) → k < low → leb top (get_or behind k 0) ≡ false) → LowBetween top (first ∷ behind) 0 (suc low)
  below low f zero i h = absurd (omega arith)
  below low f (suc k) i h = leb-false top (get_or behind k 0) (f k (omega arith))

  -- The closing top is not among cells below top.
  not_before : (end : ℕ) → LowBetween top (first ∷ behind) 0 end → (b : Begins top x (first ∷ behind) 0) → end ≤ b.closing
  not_before end low b = go (ltb b.closing end) refl
    where
      go : (t : Bool) → ltb b.closing end ≡ t → end ≤ b.closing
      go true e = absurd (omega (arith, low b.closing (omega (arith, b.apart)) (ltb-true b.closing end e), b.last))
      go false e = ltb-false b.closing end e

  -- No pattern begins where no cell behind reaches top.
  pub none_closes : position (leb top) behind ≡ None → false ≡ pattern_at (below_top top x) (first ∷ behind) 0
  none_closes e =
      sym (no_pattern top x (first ∷ behind) 0
      (λ b. omega (arith, not_before (suc (length behind)) (below (length behind) (passes_nowhere (leb top) behind e)) b, b.inside)))

  module _ (low : ℕ) (e : position (leb top) behind ≡ Some low) where
    -- A pattern closes at the first cell behind that reaches top.
    closes_there : (b : Begins top x (first ∷ behind) 0) → suc low ≡ b.closing
    closes_there b =
        let p = position-Some (leb top) behind low 0 e in
        le_antisymm (not_before (suc low) (below low p.2) b) (go (leb-true top (get_or behind low 0) p.1) (ltb (suc low) b.closing) refl)
      where
        go : top ≤ get_or behind low 0 → (t : Bool) → ltb (suc low) b.closing ≡ t → b.closing ≤ suc low
        go high true s = absurd (omega (arith, b.between (suc low) (omega arith) (ltb-true (suc low) b.closing s)))
        go high false s = ltb-false (suc low) b.closing s

    -- So that cell decides: a pattern begins where it is a top and 1 to x cells stand before it.
    pub first_closes : first ≡ top → ((ltb 0 low && leb low x) && eqb (get_or behind low 0) top) ≡ pattern_at (below_top top x) (first ∷ behind) 0
    first_closes begins = go (ltb 0 low) refl (leb low x) refl (eqb (get_or behind low 0) top) refl
      where
        go : (s : Bool) → ltb 0 low ≡ s → (t : Bool) → leb low x ≡ t → (u : Bool) → eqb (get_or behind low 0) top ≡ u
            → ((s && t) && u) ≡ pattern_at (below_top top x) (first ∷ behind) 0
        go true h true i true j =
            let p = position-Some (leb top) behind low 0 e in
            sym (begins_pattern top x (first ∷ behind) 0
            (record {
              closing = suc low;
              apart = omega (arith, ltb-true 0 low h);
              within = omega (arith, leb-true low x i);
              inside = omega (arith, p.0);
              first = begins;
              between = below low p.2;
              last = eqb-true (get_or behind low 0) top j;
            }))
        go false h t i u j = sym (no_pattern top x (first ∷ behind) 0 (λ b. omega (arith, closes_there b, b.apart, ltb-false 0 low h)))
        go true h false i u j = sym (no_pattern top x (first ∷ behind) 0 (λ b. omega (arith, closes_there b, b.within, leb-false low x i)))
        go true h true i false j =
            sym (no_pattern top x (first ∷ behind) 0 (λ b. eqb-false (get_or behind low 0) top j (subst (λ (n : ℕ). get_or (first ∷ behind) n 0 ≡ top) (sym (closes_there b)) b.last)))

-- What stands further on than a pattern reaches does not say whether one begins.
middle_near : (S : Patterns) (r n : ℕ) (w : List ℕ) → r < n → middle_then_top S r (take n w) ≡ middle_then_top S r w
middle_near S r zero w h = absurd (omega arith)
middle_near S r (suc n) [] h = refl
middle_near S zero (suc n) (c ∷ w) h = refl
middle_near S (suc r) (suc n) (c ∷ w) h = rw (middle_near S r n w (omega arith)) refl

up_to_near : (S : Patterns) (first y n : ℕ) (w : List ℕ) → y < n → pattern_up_to S y (first ∷ take n w) ≡ pattern_up_to S y (first ∷ w)
up_to_near S first zero n w h = refl
up_to_near S first (suc y) n w h = rw (up_to_near S first y n w (omega arith), middle_near S (suc y) n w h) refl

module _ (top x first n : ℕ) (behind : List ℕ) (reached : n < length behind → x < n) where
  near : pattern_at (below_top top x) (first ∷ take n behind) 0 ≡ pattern_at (below_top top x) (first ∷ behind) 0
  near = go (ltb n (length behind)) refl
    where
      go : (b : Bool) → ltb n (length behind) ≡ b → pattern_at (below_top top x) (first ∷ take n behind) 0 ≡ pattern_at (below_top top x) (first ∷ behind) 0
      go true e = up_to_near (below_top top x) first x n behind (reached (ltb-true n (length behind) e))
      go false e = rw (take_all n behind (ltb-false n (length behind) e)) refl

  pub none_near : position (leb top) (take n behind) ≡ None → false ≡ pattern_at (below_top top x) (first ∷ behind) 0
  none_near e = none_closes top x first (take n behind) e ∙ near

  pub first_near : (low : ℕ) → position (leb top) (take n behind) ≡ Some low → first ≡ top
      → ((ltb 0 low && leb low x) && eqb (get_or (take n behind) low 0) top) ≡ pattern_at (below_top top x) (first ∷ behind) 0
  first_near low e begins = first_closes top x first (take n behind) low e begins ∙ near
