-- `names::standing` meets its contract. The loop's invariant: the reading of the character has come to the byte that is not passed.
use Prim.Native.Nat.{◌+◌, ◌-◌}
use lib.ListN.{drop}
use Rattle.names.specs.StandingLaws.{Reading}
use Rattle.names.proofs.standing.Given as goal

abbrev pub invariant-loop-byte : goal.invariant-loop-byte
invariant-loop-byte l = Reading l.first (drop 1 l.text) l.text (l.byte-index + 1) (l.first.size - 1 - l.byte-index) l.point
