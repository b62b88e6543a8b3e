-- `tables::rows::build` meets its contract. The loop's invariant: the count stands at the row before i, and the rows before i are written from the front.
use mathlib.Core.Path.{◌≡◌}
use Prim.Native.Nat.{◌+◌}
use Rattle.tables.specs.Counting.{Counted}
use Rattle.tables.specs.Rows.{front_rows}
use Rattle.tables.proofs.rows.build.Given as goal

abbrev pub invariant-loop-i : goal.invariant-loop-i
invariant-loop-i l = record {
  at : l.count.at.i + 1 ≡ l.i;
  counted : Counted l.p l.count.at l.count.fresh;
  written : l.out ≡ front_rows l.p l.i l.fn.out;
}
