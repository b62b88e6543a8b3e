-- `code_as_text::index_of` meets its contract: the lowest limb is the number, and the others are 0.
use mathlib.Core.Path.{refl}
use Rattle.code_as_text.specs.IndexLaws.{one_limb}
use Rattle.code_as_text.proofs.index_of.Goals as goal

pub returns : goal.returns
returns c = (one_limb _, refl)
