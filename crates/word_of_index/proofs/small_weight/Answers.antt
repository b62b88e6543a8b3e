-- `word_of_index::small_weight` meets its contract: in a guarded stretch the product is the weight.
use native.Mathlib.Omega.{arith}
use Rattle.word_of_index.specs.SmallTaskLaws.{limb_weighs, product_weighs, weight_fits}
use Rattle.word_of_index.proofs.small_weight.Goals as goal

pub overflow_mul-result-then-guard-gt1 : goal.overflow_mul-result-then-guard-gt1
overflow_mul-result-then-guard-gt1 c =
    let weighs = product_weighs c.requires.0 c.requires.1 c.low_cells-k.ensures c.power.ensures in
    omega (arith, weighs, weight_fits c.requires.0 c.requires.1)

pub returns-then-guard-gt1 : goal.returns-then-guard-gt1
returns-then-guard-gt1 c = product_weighs c.requires.0 c.requires.1 c.low_cells-k.ensures c.power.ensures

pub returns : goal.returns
returns c = limb_weighs c.requires.0 c.requires.1 c.if-guard-gt1.false
