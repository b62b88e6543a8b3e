-- `bits::put_number` meets its contract. The loop's invariant: the bits done so far, those above the i limbs that are left, are written.
use Rattle.std.proofs.Common.{◌≡◌, ◌-◌, ◌*◌}
use Rattle.limbs.specs.Limbs.{number_at}
use Rattle.bits.specs.MovingLaws.{Written}
use Rattle.bits.proofs.put_number.Given as goal

abbrev pub invariant-loop-i : goal.invariant-loop-i
invariant-loop-i l = (l.done ≡ l.s - 64 * l.i) × Written l.s (number_at 10 l.number 0) l.at l.done l.initial.out l.out
