-- `bits::number_at` meets its contract. The loop's invariant: the limbs so far hold the number, and what stands above them is the number of the bits left.
use Rattle.std.proofs.Common.{◌≤◌, ◌++◌, drop}
use Rattle.bits.specs.LimbLaws.{LimbsRead}
use Rattle.bits.proofs.number_at.Given as goal

abbrev pub invariant-loop-limb : goal.invariant-loop-limb
invariant-loop-limb l = (l.left ≤ l.s) × LimbsRead l.bytes l.at l.s l.limb-index l.left l.fn.out (l.limb-items ++ drop 10 l.fn.out)
