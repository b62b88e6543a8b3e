-- `bits::gather_bytes` meets its contract. The loop's invariant: the number of the bytes done so far stands behind `front`.
use Rattle.std.proofs.Common.{◌*◌}
use Rattle.bits.specs.MovingLaws.{Gathered}
use Rattle.bits.proofs.gather_bytes.Given as goal

abbrev pub invariant-loop-byte : goal.invariant-loop-byte
invariant-loop-byte l = Gathered l.front l.bytes (8 * l.first) (8 * l.byte-index) l.number
