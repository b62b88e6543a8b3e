-- `text::Writer::put_profile` meets its contract: the parts of the text are put one behind another.
use borrow.Author.Rules.{rules}
use Rattle.text.specs.Line.{profile_text}
use Rattle.text.specs.WriterLaws.{puts_more}
use Rattle.text.proofs.Writer.put_profile.Goals as goal

pub returns : goal.returns
unfolding profile_text
returns c = search (rules, puts_more)
