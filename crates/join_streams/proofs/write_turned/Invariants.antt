-- `join_streams::write_turned` meets its contract. The loop's invariant: so many of the turned cells stand at the front.
use Rattle.std.proofs.Common.{length}
use Rattle.join_streams.specs.CopyLaws.{TurnedTo}
use Rattle.join_streams.proofs.write_turned.Given as goal

abbrev pub invariant-loop-i : goal.invariant-loop-i
invariant-loop-i l = TurnedTo l.cells l.initial.out (length l.yielded) l.out
