-- `cells::quick::some_tops` meets its contract. The loop's invariant: while the flag is not set, no place before i has the two tops.
use Rattle.std.proofs.Common.{◌≡◌, false, ◌≤◌}
use Rattle.replies.specs.ReplyLaws.{Nowhere}
use Rattle.cells.specs.QuickLaws.{tops_at}
use Rattle.cells.proofs.quick.some_tops.Given as goal

abbrev pub invariant-loop-i : goal.invariant-loop-i
invariant-loop-i l = (l.k ≤ l.i) × (l.hit ≡ false → Nowhere (tops_at l.top l.k l.cells) l.k l.i)
