use native.Mathlib.Omega.{arith}
use lib.ListN.{length-set}
use Rattle.word_of_index.specs.TaskLaws.{weighs_some}
use Rattle.word_of_index.specs.SmallTaskLaws.{at_zero, level_inside, small_next}
use Rattle.word_of_index.specs.CellLaws.{nothing_left, cell_written}
use Rattle.word_of_index.proofs.+settle_small.Goals as goal

pub returns-then-left-eq0 : goal.returns-then-left-eq0
returns-then-left-eq0 t c = nothing_left c.args.p c.args.guard c.args.rest c.args.at c.args.out.now c.if-left-eq0.true

pub small_weight-weight-requires : goal.small_weight-weight-requires
small_weight-weight-requires t c = (at_zero c.requires.0, omega arith)

pub goes_in-level-requires : goal.goes_in-level-requires
goes_in-level-requires t c = weighs_some c.requires.0 c.small_weight-weight.ensures

-- What the settled level leaves.
pub overflow_cast-out : goal.overflow_cast-out
overflow_cast-out t c =
    let next = small_next c.requires.0 (omega arith) c.small_weight-weight.ensures c.goes_in-level.ensures in
    omega (arith, next.most)

pub guard_behind-behind-requires : goal.guard_behind-behind-requires
guard_behind-behind-requires t c =
    let next = small_next c.requires.0 (omega arith) c.small_weight-weight.ensures c.goes_in-level.ensures in
    (omega arith, omega arith, next.most)

-- The weight goes into the index as often as the level says.
pub overflow_mul-level : goal.overflow_mul-level
overflow_mul-level t c =
    let inside = level_inside c.requires.0 (omega arith) c.small_weight-weight.ensures c.goes_in-level.ensures in
    omega (arith, inside)

pub overflow_sub-rest : goal.overflow_sub-rest
overflow_sub-rest t c = level_inside c.requires.0 (omega arith) c.small_weight-weight.ensures c.goes_in-level.ensures

pub settle_small-requires : goal.settle_small-requires
settle_small-requires t c =
    let next = small_next c.requires.0 (omega arith) c.small_weight-weight.ensures c.goes_in-level.ensures in
    (omega arith, (rw c.guard_behind-behind.ensures next.task, rw length-set (omega arith)))

pub returns : goal.returns
returns t c =
    let next = small_next c.requires.0 (omega arith) c.small_weight-weight.ensures c.goes_in-level.ensures in
    let spelt = rw (← c.guard_behind-behind.ensures) at next.spelt in
    cell_written _ _ c.args.out.now c.requires.1 c.if-left-eq0.false spelt c.settle_small.ensures
