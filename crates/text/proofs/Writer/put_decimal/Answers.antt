-- `text::Writer::put_decimal` meets its contract: the fewest digits that hold a number are its decimal.
use mathlib.Core.Path.{◌∙◌}
use native.Mathlib.Omega.{arith}
use Rattle.text.specs.DecimalLaws.{fewest_decimal}
use Rattle.text.proofs.Writer.put_decimal.Goals as goal

pub put-requires : goal.put-requires
put-requires c =
    let spelled = c.decimal-k.ensures.digits ∙ fewest_decimal c.decimal-k.result c.args.n c.decimal-k.ensures.len in
    rw spelled (omega arith)

pub returns : goal.returns
returns c =
    let spelled = c.decimal-k.ensures.digits ∙ fewest_decimal c.decimal-k.result c.args.n c.decimal-k.ensures.len in
    rw spelled at c.put.ensures
