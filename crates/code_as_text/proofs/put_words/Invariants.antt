-- `code_as_text::put_words` meets its contract. The loop's invariant: the lines of the first i indices are put.
use Rattle.text.specs.Writer.{Puts}
use Rattle.code_as_text.specs.Printed.{word_lines}
use Rattle.code_as_text.proofs.put_words.Given as goal

abbrev pub invariant-loop-i : goal.invariant-loop-i
invariant-loop-i l = Puts l.initial.out (word_lines l.p l.i) l.out
