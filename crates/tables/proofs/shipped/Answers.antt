-- `tables::shipped` meets its contract: what is not refused is the table of q = 4 and x = 1.
use Rattle.replies.specs.AnswerLaws.{passed_leaves}
use Rattle.tables.specs.Tables.{shipped_profile, handing_out}
use Rattle.tables.specs.WritingLaws.{table_answer, table_lent}
use Rattle.tables.proofs.shipped.Goals as goal

pub returns-clause-value : goal.returns-clause-value
unfolding handing_out
returns-clause-value c = table_answer (shipped_profile c.args.m) c.args.out.now (passed_leaves c.in_ok-check_length.ensures c.in_ok-check_room.ensures)

pub returns-clause-out_after : goal.returns-clause-out_after
unfolding handing_out
returns-clause-out_after c =
    table_lent (shipped_profile c.args.m) c.args.out.now (passed_leaves c.in_ok-check_length.ensures c.in_ok-check_room.ensures) c.copy.ensures
