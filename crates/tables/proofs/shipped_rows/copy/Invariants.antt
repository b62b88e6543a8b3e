-- `tables::shipped_rows::copy` meets its contract. The loop's invariant: the rows below i are written from the front.
use mathlib.Core.Path.{◌≡◌}
use Rattle.tables.specs.Rows.{front_rows}
use Rattle.tables.specs.Tables.{shipped_profile}
use Rattle.tables.proofs.shipped_rows.copy.Given as goal

abbrev pub invariant-loop-i : goal.invariant-loop-i
invariant-loop-i l = l.out ≡ front_rows (shipped_profile l.m) l.i l.fn.out
