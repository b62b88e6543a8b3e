-- `bits::put_bytes` meets its contract. The loop's invariant: the bytes from the place reached on are written, and `rest` is what stands above them.
use Rattle.std.proofs.Common.{◌+◌, ◌-◌, ◌≤◌}
use Rattle.bits.specs.MovingLaws.{BytesWritten}
use Rattle.bits.proofs.put_bytes.Given as goal

abbrev pub invariant-loop-place : goal.invariant-loop-place
invariant-loop-place l = (l.first ≤ l.place) × BytesWritten l.limb l.place (l.first + l.n - l.place) l.initial.out l.out l.rest
