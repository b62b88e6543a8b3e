-- The loop of `calls::fill`: what is read so far has room.
use Rattle.std.proofs.Common.{◌≤◌, length}
use Rattle.files.proofs.calls.fill.Given as goal

abbrev pub invariant-loop : goal.invariant-loop
invariant-loop g l = l.count ≤ length l.buf
