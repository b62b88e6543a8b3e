-- `code_as_text::put_printed` meets its contract: the bytes are the line of the numbers in them, or they are refused.
use Rattle.code_as_text.specs.AnswerLaws.{printed_answer, printed_refused}
use Rattle.code_as_text.proofs.put_printed.Goals as goal

pub put_answer-requires : goal.put_answer-requires
put_answer-requires c = rw (printed_answer _ c.profile_in-p.ensures c.is_line_of.ensures c.if-is_line_of.true) at c.requires

pub returns-then-is_line_of : goal.returns-then-is_line_of
returns-then-is_line_of c = rw (printed_answer _ c.profile_in-p.ensures c.is_line_of.ensures c.if-is_line_of.true) c.put_answer.ensures

pub put-requires : goal.put-requires
put-requires c = rw (printed_refused _ c.profile_in-p.ensures c.is_line_of.ensures c.if-is_line_of.false) at c.requires

pub returns : goal.returns
returns c = rw (printed_refused _ c.profile_in-p.ensures c.is_line_of.ensures c.if-is_line_of.false) c.put.ensures
