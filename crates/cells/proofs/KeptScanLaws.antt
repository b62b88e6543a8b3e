-- Laws that stood in specs/ScanLaws, which no proof rests on now.
use Rattle.std.specs.Prelude.{◌≡◌, refl, Bool, true, false, ◌&&◌, List, ℕ, ◌+◌, ◌-◌, ◌≤◌, ◌<◌, ltb, eqb, length, get_or}
use Rattle.std.proofs.Common.{sym, le_antisymm, arith, below_more, ltb-true, ltb-false, eqb-true}
use Rattle.std.proofs.lemmas.Bool.{eqb-false}
use Rattle.code.specs.Code.{below_top}
use Rattle.cells.specs.Finding.{pattern_at}
use Rattle.cells.specs.BeginsLaws.{LowBetween, Begins, begins_pattern, no_pattern}

-- No pattern begins at a cell that is no top.
pub begins_with_top : (top x : ℕ) (cells : List ℕ) (i : ℕ) → (get_or cells i 0 ≡ top → ⊥) → false ≡ pattern_at (below_top top x) cells i
begins_with_top top x cells i other = sym (no_pattern top x cells i (λ b. other b.first))

-- From a top at i the cells before another place, no further than the reach, are below top.
pub record Walked (top x : ℕ) (cells : List ℕ) (i end : ℕ) : Type 0 where
  pub first : get_or cells i 0 ≡ top
  pub after : i < end
  pub near : end ≤ i + x + 1
  pub inside : end ≤ length cells
  pub below : LowBetween top cells i end

one_more : (top : ℕ) (cells : List ℕ) (i end : ℕ) → LowBetween top cells i end → get_or cells end 0 < top → LowBetween top cells i (end + 1)
one_more top cells i end below here k l h =
    below_more (λ (j : ℕ). i < j → get_or cells j 0 < top) end (λ j b a. below j a b) (λ a. here) k h l

module _ {top x : ℕ} {cells : List ℕ} {i : ℕ} where
  pub walked_none : i < length cells → get_or cells i 0 ≡ top → Walked top x cells i (i + 1)
  walked_none some first =
      record { first = first; after = omega arith; near = omega arith; inside = omega arith; below = λ k l h. absurd (omega arith) }

  -- One cell more that is below top.
  pub walked_more : {end : ℕ} → Walked top x cells i end → end < length cells → get_or cells end 0 < top → end - i ≤ x → Walked top x cells i (end + 1)
  walked_more {end} w some here near =
      record { first = w.first; after = omega arith; near = omega arith; inside = omega arith; below = one_more top cells i end w.below here }

  -- The closing top is not among cells below top.
  not_before : {end : ℕ} → LowBetween top cells i end → (b : Begins top x cells i) → end ≤ b.closing
  not_before {end} below b = go (ltb b.closing end) refl
    where
      go : (t : Bool) → ltb b.closing end ≡ t → end ≤ b.closing
      go true e = absurd (omega (arith, below b.closing (omega (arith, b.apart)) (ltb-true b.closing end e), b.last))
      go false e = ltb-false b.closing end e

  -- No pattern begins where the cells end before a top, ..
  pub none_left : {end : ℕ} → Walked top x cells i end → length cells ≤ end → false ≡ pattern_at (below_top top x) cells i
  none_left w last = sym (no_pattern top x cells i (λ b. omega (arith, not_before w.below b, b.inside)))

  -- .. nor where more cells than the reach are below top.
  pub none_within : {end : ℕ} → Walked top x cells i end → get_or cells end 0 < top → x < end - i → false ≡ pattern_at (below_top top x) cells i
  none_within {end} w here far =
      sym (no_pattern top x cells i (λ b. omega (arith, not_before (one_more top cells i end w.below here) b, b.within)))

  -- A pattern that begins at i closes at the first cell that is not below top.
  closes_first : {end : ℕ} → Walked top x cells i end → top ≤ get_or cells end 0 → (b : Begins top x cells i) → end ≡ b.closing
  closes_first {end} w high b = le_antisymm (not_before w.below b) (go (ltb end b.closing) refl)
    where
      go : (t : Bool) → ltb end b.closing ≡ t → b.closing ≤ end
      go true e = absurd (omega (arith, b.between end w.after (ltb-true end b.closing e)))
      go false e = ltb-false end b.closing e

  -- The first cell that is not below top decides: a pattern begins at i where it is a top and does not stand beside i.
  pub first_decides : {end : ℕ} → Walked top x cells i end → end < length cells → top ≤ get_or cells end 0
      → (eqb (get_or cells end 0) top && ltb 1 (end - i)) ≡ pattern_at (below_top top x) cells i
  first_decides {end} w some high = go (eqb (get_or cells end 0) top) refl (ltb 1 (end - i)) refl
    where
      go : (s : Bool) → eqb (get_or cells end 0) top ≡ s → (t : Bool) → ltb 1 (end - i) ≡ t → (s && t) ≡ pattern_at (below_top top x) cells i
      go true p true t =
          sym (begins_pattern top x cells i
          (record {
            closing = end;
            apart = omega (arith, ltb-true 1 (end - i) t);
            within = w.near;
            inside = some;
            first = w.first;
            between = w.below;
            last = eqb-true (get_or cells end 0) top p;
          }))
      go true p false t = sym (no_pattern top x cells i (λ b. omega (arith, closes_first w high b, b.apart, ltb-false 1 (end - i) t)))
      go false p t u = sym (no_pattern top x cells i (λ b. eqb-false (get_or cells end 0) top p (rw (closes_first w high b) b.last)))
