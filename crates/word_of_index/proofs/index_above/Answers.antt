-- `word_of_index::index_above` meets its contract.
use mathlib.Core.Path.{◌∙◌}
use Rattle.word_of_index.specs.SpellingLaws.{index_compared}
use Rattle.word_of_index.proofs.index_above.Goals as goal

pub returns : goal.returns
returns c = c.is_ge.ensures ∙ index_compared _ c.requires.0 c.requires.1 c.compare.ensures
