use Rattle.std.proofs.Common.{◌<◌, length, length-take, drop, take-append-drop, arith}
use Rattle.std.proofs.lemmas.List.{set-append_left}
use Rattle.bits.specs.LimbLaws.{limbs_read_none, limbs_read_more}
use Rattle.bits.proofs.number_at.Goals as goal

pub loop-limb-init : goal.loop-limb-init
loop-limb-init c = (omega arith, rw take-append-drop (limbs_read_none _ _ _ _))

pub loop-limb-preserved : goal.loop-limb-preserved
loop-limb-preserved c =
    let inside : c.loop-limb.limb-index < length c.loop-limb.limb-items = omega arith in
    (omega arith, rw (set-append_left c.loop-limb.limb-items (drop 10 c.args.out.now) _ _ inside) at (limbs_read_more c.loop-limb.invariant.1 (omega arith) c.gather.ensures (omega arith) (omega (arith, length-take 10 c.args.out.now))))
