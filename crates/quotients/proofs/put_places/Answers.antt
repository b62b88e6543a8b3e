-- `quotients::put_places` meets its contract: the parts of the text are put one behind another.
use borrow.Author.Rules.{rules}
use Rattle.text.specs.WriterLaws.{puts_more}
use Rattle.quotients.specs.Quotients.{places_text}
use Rattle.quotients.proofs.put_places.Goals as goal

pub returns : goal.returns
unfolding places_text
returns c = search (rules, puts_more)
