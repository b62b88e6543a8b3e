-- `cells::quick::some_cell` meets its contract. The loop's invariant: while the flag is not set, no cell before is at or above the level.
use Rattle.std.proofs.Common.{◌≡◌, false}
use Rattle.replies.specs.ReplyLaws.{Nowhere}
use Rattle.cells.specs.QuickLaws.{reaches_at}
use Rattle.cells.proofs.quick.some_cell.Given as goal

abbrev pub invariant-loop-cell : goal.invariant-loop-cell
invariant-loop-cell l = l.hit ≡ false → Nowhere (reaches_at l.level l.cells) 0 l.cell-index
