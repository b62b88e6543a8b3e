-- `tables::rows::store` meets its contract. The loop's invariant: the first k limbs of the row are written.
use Rattle.std.proofs.Common.{◌≡◌, ◌*◌, length}
use Rattle.std.proofs.Math.Seq.{paste}
use Rattle.tables.proofs.rows.store.Given as goal

abbrev pub invariant-loop-k : goal.invariant-loop-k
invariant-loop-k l = (l.out ≡ paste l.initial.out (10 * l.i) l.number l.k) × (length l.out ≡ length l.initial.out)
