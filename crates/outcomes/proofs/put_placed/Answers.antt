-- `outcomes::put_placed` meets its contract: the parts are put one behind another.
use borrow.Author.Rules.{rules}
use Rattle.text.specs.WriterLaws.{puts_more}
use Rattle.outcomes.specs.Outcomes.{placed_text}
use Rattle.outcomes.proofs.put_placed.Goals as goal

pub returns : goal.returns
unfolding placed_text
returns c = search (rules, puts_more)
