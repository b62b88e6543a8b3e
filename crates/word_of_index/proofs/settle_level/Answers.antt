-- `word_of_index::settle_level` meets its contract: in an open stretch the row is the weight.
use native.Mathlib.Omega.{arith}
use Rattle.word_of_index.specs.TaskLaws.{row_weighs, weighs_some, settled_by}
use Rattle.word_of_index.proofs.settle_level.Goals as goal

pub divide-requires : goal.divide-requires
divide-requires c =
    let weighs = row_weighs c.requires.0 c.requires.1 c.if-guard-gt1.false in
    (omega arith, omega arith, weighs_some c.requires.0 weighs)

pub returns : goal.returns
returns c =
    let weighs = row_weighs c.requires.0 c.requires.1 c.if-guard-gt1.false in
    let settled = settled_by c.requires.0 _ weighs (c.divide.ensures.value, c.divide.ensures.acc_after) in
    record { value = settled.0; rest_after = settled.1 }
