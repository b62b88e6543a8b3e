-- `tables::rows::store` meets its contract: one limb more of the row.
use Rattle.std.proofs.Common.{arith, ◌*◌, length-set}
use Rattle.tables.specs.RowLaws.{stored}
use Rattle.tables.proofs.rows.store.Goals as goal

pub loop-k-preserved : goal.loop-k-preserved
loop-k-preserved c =
    let s = c.args in
    let l = c.loop-k.invariant in
    (stored s.out.now (10 * s.i) s.number.now c.loop-k.k l.0 (omega (arith, c.requires)) (omega (arith, c.requires)), simp length-set l.1)
