-- Laws that stood in specs/WritingLaws, which no proof rests on now.
use Rattle.std.specs.Prelude.{◌≡◌, List, ℕ, ◌+◌, ◌≤◌, length}
use Rattle.std.proofs.Common.{sym, ◌∙◌, eq-eqb}
use Rattle.replies.specs.declared.Profile.{Profile}
use Rattle.replies.specs.declared.Reply.{Reply}
use Rattle.replies.specs.Replies.{done, or_else, room_refusal, Outcome, writing, Comes}
use Rattle.replies.specs.ReplyLaws.{BothDone, both_done, has_room, room_enough}
use Rattle.replies.specs.WritingLaws.{writing_refused, writing_done}
use Rattle.tables.specs.Tables.{table_length, table_of}
use Rattle.tables.specs.Rows.{front_rows}
use Rattle.tables.specs.RowLaws.{length_rows, table_front}

-- The outcome of a call that writes a table, where a test of what it is handed comes before that of the room.
abbrev pub table_writing : Profile → Reply → List ℕ → Outcome
table_writing p test lent = writing (or_else test (room_refusal (table_length p.m) (length lent))) (table_of p) lent

-- A call that tests what it is handed, then the room for the table: the first test that refuses decides, and else the table is written.
module _ (p : Profile) (lent : List ℕ) {reply handed test : Reply} (given : handed ≡ test)
    (tested : reply ≡ or_else handed (room_refusal (table_length p.m) (length lent))) where
  decided : reply ≡ or_else test (room_refusal (table_length p.m) (length lent))
  decided = tested ∙ rw given

  pub table_refused : (reply.number ≡ 0 → ⊥) → Comes (table_writing p test lent) (record { reply = reply; count = 0 }) lent
  table_refused n = writing_refused reply _ _ (table_of p) lent decided n

  module _ (taken : reply.number ≡ 0) where
    both : BothDone handed (room_refusal (table_length p.m) (length lent))
    both = both_done handed _ (rw tested at taken)

    pub handed_done : handed.number ≡ 0
    handed_done = both.first

    pub room_found : table_length p.m ≤ length lent
    room_found = has_room (table_length p.m) (length lent) both.second

    reply_done : reply ≡ done
    unfolding or_else
    reply_done = tested ∙ rw (eq-eqb handed.number 0 handed_done) (room_enough (table_length p.m) (length lent) room_found)

    pub table_written : {after : List ℕ} → after ≡ front_rows p (p.m + 1) lent
        → Comes (table_writing p test lent) (record { reply = reply; count = table_length p.m }) after
    table_written a =
        rw reply_done (writing_done reply _ _ (table_of p) lent decided taken (sym (length_rows p (p.m + 1))) (a ∙ table_front p lent))
