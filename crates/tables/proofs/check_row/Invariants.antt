-- `tables::check_row` meets its contract. The loop's invariant: the first k limbs of the number and of the row are the same.
use mathlib.Core.Path.{◌≡◌}
use Prim.Native.Nat.{◌*◌}
use Rattle.limbs.specs.Limbs.{number_at}
use Rattle.tables.proofs.check_row.Given as goal

abbrev pub invariant-loop-k : goal.invariant-loop-k
invariant-loop-k l = number_at l.k l.number 0 ≡ number_at l.k l.table (10 * l.i)
