-- `word_of_index::spell` meets its contract.
use borrow.Author.Rules.{rules}
use Rattle.limbs.specs.Limbs.{AllLimbs}
use Rattle.word_of_index.specs.TaskLaws.{first_task, open_word}
use Rattle.word_of_index.proofs.spell.Goals as goal

pub settle_cells-requires : goal.settle_cells-requires
settle_cells-requires c =
    let all : AllLimbs c.args.table.now = λ k. search rules in
    let pre = c.requires in
    (first_task _ _ _ pre.0 pre.1 all pre.2 pre.4, pre.3)

pub returns : goal.returns
returns c = rw (open_word c.args.p _ c.requires.0.levels.least) at c.settle_cells.ensures
