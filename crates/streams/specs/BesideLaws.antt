-- Laws of cells written behind others: what stands there then, and that a bridge that goes by the cells beside it joins them.
use Rattle.std.specs.Prelude.{◌≡◌, ℕ, ◌+◌, ◌-◌, ◌<◌, length, take, drop, get_or}
use Rattle.std.proofs.Math.Path.{refl}
use Rattle.std.proofs.Common.{◌∙◌, add_assoc, arith, length-append, drop_at, drop-drop}
use mathlib.Core.List.{List, [], ◌∷◌, ◌++◌, append_assoc}
use Rattle.std.proofs.Math.Seq.{take-append_seam, take-append-add, drop-append-add}
use Rattle.patterns.specs.Pattern.{Patterns}
use Rattle.patterns.specs.Stream.{bridge, first_cell, last_cell, joined}
use Rattle.streams.specs.BridgeLaws.{first_from, last_of}

first-append : (b rest : List ℕ) → 0 < length b → first_cell (b ++ rest) ≡ first_cell b
first-append [] rest some = absurd (omega arith)
first-append (d ∷ b) rest some = refl

-- Cells written x cells behind what stands at the front.
pub cells_behind : (a b lent : List ℕ) (x : ℕ) {front : List ℕ} → front ≡ a ++ drop (length a) lent
    → take (length a + x) front ++ (b ++ drop (length a + x + length b) front) ≡ a ++ (take x (drop (length a) lent) ++ (b ++ drop (length a + x + length b) lent))
cells_behind a b lent x e = rw (e, take-append-add a (drop (length a) lent) x, add_assoc (length a) x (length b), drop-append-add, drop-drop, append_assoc)

module _ (S : Patterns) where
  joined_bridged : (a b : List ℕ) → 0 < length a → 0 < length b → joined S a b ≡ a ++ (bridge S (last_cell a) (first_cell b) ++ b)
  unfolding joined
  joined_bridged [] b some more = absurd (omega arith)
  joined_bridged (c ∷ a) [] some more = absurd (omega arith)
  joined_bridged (c ∷ a) (d ∷ b) some more = refl

  -- A bridge that goes by the cells beside it, between two runs of cells that stand a reach apart, joins them.
  pub bridge_between : (a b gap rest : List ℕ) → 0 < length a → 0 < length b → length gap ≡ S.reach
      → let all = a ++ (gap ++ (b ++ rest)) in
      take (length a) all ++ (bridge S (get_or all (length a - 1) 0) (get_or all (length a + S.reach) 0) ++ drop (length a + S.reach) all)
      ≡ joined S a b ++ rest
  bridge_between a b gap rest some more wide =
      let behind = gap ++ (b ++ rest) in
      let front = take-append_seam a behind in
      let back = drop-append-add a behind S.reach ∙ drop_at gap (b ++ rest) S.reach wide in
      let here = rw front at (last_of (length a) (a ++ behind) some (rw length-append (omega arith))) in
      let there = rw (back, first-append b rest more) at (first_from (length a + S.reach) (a ++ behind)) in
      rw (front, ← here, ← there, back, joined_bridged a b some more) (simp append_assoc)
