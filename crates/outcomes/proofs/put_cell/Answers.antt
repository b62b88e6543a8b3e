-- `outcomes::put_cell` meets its contract: the parts of a cell, marked or not, are put one behind another.
use Rattle.text.specs.WriterLaws.{puts_more}
use Rattle.outcomes.proofs.put_cell.Goals as goal

pub returns-then-marked : goal.returns-then-marked
returns-then-marked c =
    let level = rw c.from.ensures at c.put_decimal.ensures in
    rw c.if-marked.true (puts_more c.put.ensures (puts_more level c.put-then-marked.ensures))

pub returns-else-marked : goal.returns-else-marked
returns-else-marked c =
    let level = rw c.from-else-marked.ensures at c.put_decimal-else-marked.ensures in
    rw c.if-marked.false (puts_more c.put-else-marked.ensures level)
