-- `word_of_index::settle_guarded` meets its contract: the limbs that were made hold the weight.
use borrow.Author.Rules.{rules}
use Rattle.word_of_index.specs.TaskLaws.{weight_made, weighs_some, settled_by}
use Rattle.word_of_index.proofs.settle_guarded.Goals as goal

pub divide-requires : goal.divide-requires
divide-requires c =
    let weighs = weight_made c.requires.0 c.requires.1 c.low_cells-k.ensures c.power.ensures c.add_multiple.ensures.acc_after in
    (search rules, search rules, weighs_some c.requires.0 weighs)

pub returns : goal.returns
returns c =
    let weighs = weight_made c.requires.0 c.requires.1 c.low_cells-k.ensures c.power.ensures c.add_multiple.ensures.acc_after in
    let settled = settled_by c.requires.0 _ weighs (c.divide.ensures.value, c.divide.ensures.acc_after) in
    record { value = settled.0; rest_after = settled.1 }
