-- `code_as_text::too_many` meets its contract: row m of the table is compared with the most words that are listed.
use mathlib.Core.Path.{refl, ◌∙◌}
use Rattle.code_as_text.specs.CodeLaws.{words_compared}
use Rattle.code_as_text.proofs.too_many.Goals as goal

pub returns : goal.returns
returns c = c.is_lt.ensures ∙ words_compared c.requires.0 c.compare.ensures refl
