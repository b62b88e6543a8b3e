-- The walkers `index_of_word::stretch::open_stretch` and `guarded_stretch` meet their contracts: the number of cells left falls from call to call.
-- The invariant of the open one's loop: what is left to count behind the cells passed leads to the same weight.
use Prim.Native.Nat.{◌-◌}
use lib.ListN.{length, drop}
use Rattle.index_of_word.specs.Counts.{Leads}
use Rattle.index_of_word.proofs.stretch.+guarded_stretch_open_stretch.Given as goal

-- The number of cells left.
abbrev pub decreases-guarded_stretch : goal.decreases-guarded_stretch
decreases-guarded_stretch l = length l.cells.now - l.at

abbrev pub decreases-open_stretch : goal.decreases-open_stretch
decreases-open_stretch l = length l.cells.now - l.at

abbrev pub invariant-open_stretch-loop-i : goal.invariant-open_stretch-loop-i
invariant-open_stretch-loop-i l = Leads l.top l.x 0 (drop l.at l.cells) l.initial.counts 0 (drop l.i l.cells) l.counts
