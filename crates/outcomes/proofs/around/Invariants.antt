-- `outcomes::around` meets its contract. The loop's invariant: the cells from the first that is shown to i are put, in at most 6 bytes each.
use Prim.Native.Nat.{◌-◌, ◌*◌, ◌≤◌}
use Rattle.text.specs.Writer.{Puts}
use Rattle.outcomes.specs.Outcomes.{first_shown}
use Rattle.outcomes.specs.CellsLaws.{shown_to}
use Rattle.outcomes.proofs.around.Given as goal

abbrev pub invariant-loop-i : goal.invariant-loop-i
invariant-loop-i l = let first = first_shown l.place in
    (l.i - first ≤ l.i-end - first) × (l.writer.at ≤ 6 * (l.i - first)) × Puts l.initial.writer (shown_to l.cells l.place l.i) l.writer
