-- `tables::check_table` meets its contract. The loop's invariant: the count stands at the row before i, and the rows up to it are right.
use mathlib.Core.Path.{◌≡◌}
use Prim.Native.Nat.{◌+◌}
use Rattle.tables.specs.Counting.{Counted}
use Rattle.tables.specs.Tables.{Belongs}
use Rattle.tables.proofs.check_table.Given as goal

abbrev pub invariant-loop-i : goal.invariant-loop-i
invariant-loop-i l = record {
  at : l.count.at.i + 1 ≡ l.i;
  counted : Counted l.p l.count.at l.count.fresh;
  right : Belongs l.p l.count.at.i l.table;
}
