-- `word_of_index::word` meets its contract: what is not refused has its word written.
use native.Mathlib.Omega.{arith}
use borrow.Author.Rules.{rules}
use Rattle.word_of_index.specs.SpellingLaws.{whole_index, accepted, spelling_done}
use Rattle.word_of_index.proofs.word.Goals as goal

pub spell-requires : goal.spell-requires
spell-requires c =
    let a = accepted _ _ _ _ c.in_ok-check_index.ensures in
    (a.range, a.belongs, omega arith, omega arith, rw (whole_index c.args.i.0 (search rules)) a.below)

pub returns-clause-value : goal.returns-clause-value
returns-clause-value c = (spelling_done _ _ _ _ c.in_ok-check_index.ensures (search rules) c.spell.ensures).0

pub returns-clause-out_after : goal.returns-clause-out_after
returns-clause-out_after c = (spelling_done _ _ _ _ c.in_ok-check_index.ensures (search rules) c.spell.ensures).1
