use Rattle.std.proofs.Common.{◌-◌, arith}
use Rattle.bits.specs.MovingLaws.{written_none, written_all}
use Rattle.bits.specs.LimbLaws.{written_limb}
use Rattle.bits.proofs.put_number.Goals as goal

pub loop-i-init : goal.loop-i-init
loop-i-init c = (omega (arith, c.div_ceil-i.ensures), written_none _ _ _ _)

pub loop-i-preserved : goal.loop-i-preserved
loop-i-preserved c =
    let limb = written_limb 10 c.args.number.now c.loop-i.invariant.1 (c.loop-i.i - 1) _ c.put.ensures in
    (omega (arith, c.div_ceil-i.ensures), limb (omega (arith, c.div_ceil-i.ensures)) (λ j. (c.type_inv.number j).fits) (omega arith) (omega (arith, c.div_ceil-i.ensures)) (omega arith) (omega (arith, c.div_ceil-i.ensures)) (omega arith))

pub returns : goal.returns
returns c = written_all c.loop-i.invariant.1 (omega arith)
