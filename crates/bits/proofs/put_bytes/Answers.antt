use Rattle.std.proofs.Common.{refl, arith, rules}
use Rattle.std.proofs.Math.Nat.{sub_self}
use Rattle.bits.specs.MovingLaws.{bytes_written_none, bytes_written_more}
use Rattle.bits.proofs.put_bytes.Goals as goal

pub loop-place-init : goal.loop-place-init
loop-place-init c = (omega arith, rw sub_self (bytes_written_none _ _ _))

pub loop-place-preserved : goal.loop-place-preserved
loop-place-preserved c = (omega arith, bytes_written_more c.loop-place.invariant.1 (λ i. search rules) refl (omega arith) (omega arith) (omega arith))
