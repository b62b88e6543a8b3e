-- `text::line::number` meets its contract. The loop's invariant: reading has come to index i with the value, which has at most four digits.
use Rattle.std.proofs.Common.{◌<◌}
use Rattle.text.specs.NumberLaws.{ReadTo}
use Rattle.text.proofs.line.number.Given as goal

abbrev pub invariant-loop-i : goal.invariant-loop-i
invariant-loop-i l = (l.value < 10000) × ReadTo l.line 0 l.i l.value
