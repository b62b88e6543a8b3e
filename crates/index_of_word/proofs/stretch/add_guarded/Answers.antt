-- `index_of_word::stretch::add_guarded` meets its contract.
use Prim.Native.Nat.{◌-◌}
use native.Mathlib.Omega.{arith}
use Rattle.index_of_word.specs.Levels.{times_within}
use Rattle.index_of_word.specs.Counts.{count_in_total}
use Rattle.index_of_word.proofs.stretch.add_guarded.Goals as goal

pub overflow_add-counts : goal.overflow_add-counts
overflow_add-counts c =
    let pre = c.requires in
    let a = c.args in
    omega (arith, times_within pre.bounded pre.small, count_in_total (a.left - a.x - 1) a.counts.now)

pub overflow_add-counts-else-x-left : goal.overflow_add-counts-else-x-left
overflow_add-counts-else-x-left c = omega (arith, count_in_total 0 c.args.counts.now)
