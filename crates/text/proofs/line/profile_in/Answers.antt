-- `text::line::profile_in` meets its contract: each number is read from what stands behind the one before.
use mathlib.Core.Path.{◌∙◌}
use Rattle.text.specs.ReadingLaws.{numbers_read}
use Rattle.text.proofs.line.profile_in.Goals as goal

pub returns : goal.returns
returns c =
    let q = c.number-q.ensures in
    let m = c.number-m.ensures in
    c.profile_of.ensures ∙ numbers_read _ _ _ q.value q.behind m.value m.behind c.number-x.ensures.value
