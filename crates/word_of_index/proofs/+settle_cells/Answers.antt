use native.Mathlib.Omega.{arith}
use borrow.Author.Rules.{rules}
use lib.ListN.{length-set}
use Rattle.limbs.specs.Limbs.{AllLimbs, number_at}
use Rattle.word_of_index.specs.TaskLaws.{narrowed, cell_settled}
use Rattle.word_of_index.specs.SmallTaskLaws.{small_task}
use Rattle.word_of_index.specs.CellLaws.{nothing_left, cell_written}
use Rattle.word_of_index.proofs.+settle_cells.Goals as goal

pub returns-then-left-eq0 : goal.returns-then-left-eq0
returns-then-left-eq0 t c =
    let a = c.args in
    nothing_left a.p a.guard (number_at a.n a.rest.now 0) a.at a.out.now c.if-left-eq0.true

pub limbs_used-used-requires : goal.limbs_used-used-requires
limbs_used-used-requires t c = omega arith

-- Where one limb is in use, the task is one by that limb.
pub bounds-rest-0 : goal.bounds-rest-0
bounds-rest-0 t c =
    let all : AllLimbs c.args.table.now = λ k. search rules in
    (small_task c.requires.0 all c.limbs_used-used.ensures c.if-used-le1.true).room

pub settle_small-requires : goal.settle_small-requires
settle_small-requires t c =
    let all : AllLimbs c.args.table.now = λ k. search rules in
    ((small_task c.requires.0 all c.limbs_used-used.ensures c.if-used-le1.true).task, omega arith)

pub returns-then-used-le1 : goal.returns-then-used-le1
returns-then-used-le1 t c =
    let all : AllLimbs c.args.table.now = λ k. search rules in
    rw (small_task c.requires.0 all c.limbs_used-used.ensures c.if-used-le1.true).same at c.settle_small.ensures

pub settle_level-level-requires : goal.settle_level-level-requires
settle_level-level-requires t c =
    let all : AllLimbs c.args.table.now = λ k. search rules in
    ((narrowed c.requires.0 all c.limbs_used-used.ensures).task, omega arith)

-- What the settled level leaves.
pub overflow_cast-out : goal.overflow_cast-out
overflow_cast-out t c =
    let all : AllLimbs c.args.table.now = λ k. search rules in
    let level = c.settle_level-level.ensures in
    let next = cell_settled c.requires.0 (omega arith) all c.limbs_used-used.ensures level.value level.rest_after in
    omega (arith, next.most)

pub guard_behind-requires : goal.guard_behind-requires
guard_behind-requires t c =
    let all : AllLimbs c.args.table.now = λ k. search rules in
    let level = c.settle_level-level.ensures in
    let next = cell_settled c.requires.0 (omega arith) all c.limbs_used-used.ensures level.value level.rest_after in
    (omega arith, omega arith, next.most)

pub settle_cells-requires : goal.settle_cells-requires
settle_cells-requires t c =
    let all : AllLimbs c.args.table.now = λ k. search rules in
    let level = c.settle_level-level.ensures in
    let next = cell_settled c.requires.0 (omega arith) all c.limbs_used-used.ensures level.value level.rest_after in
    (omega arith, (rw c.guard_behind.ensures next.task, rw length-set (omega arith)))

pub returns : goal.returns
returns t c =
    let all : AllLimbs c.args.table.now = λ k. search rules in
    let level = c.settle_level-level.ensures in
    let next = cell_settled c.requires.0 (omega arith) all c.limbs_used-used.ensures level.value level.rest_after in
    let spelt = rw (← c.guard_behind.ensures) at next.spelt in
    cell_written _ _ c.args.out.now c.requires.1 c.if-left-eq0.false spelt c.settle_cells.ensures
