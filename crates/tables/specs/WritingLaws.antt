-- Laws of a call that writes: what it answers and leaves in the lent list where it is refused, and where it is done.
use Rattle.std.specs.Prelude.{◌≡◌, refl, List, ◌++◌, ℕ, Ok, Err, ◌+◌, ◌≤◌, length, drop}
use Rattle.std.proofs.Common.{sym, ap, ◌∙◌, true≢false, eq-eqb}
use Rattle.replies.specs.declared.Refusal.{Refusal}
use Rattle.replies.specs.declared.Reply.{Reply}
use Rattle.replies.specs.AnswerLaws.{not_done, refusal_decides, passed_leaves}
use Rattle.replies.specs.Answers.{number_of, refusal_reply, written_of}
use Rattle.replies.specs.Ranges.{InRange}
use Rattle.replies.specs.ReplyLaws.{profile_in_range, in_range_lem, has_room}
use Rattle.replies.specs.Replies.{done, profile_refusal, length_refusal, room_refusal, writing_counted, writing}
use Rattle.replies.specs.WritingLaws.{writing_refused, writing_done}
use Rattle.replies.specs.declared.Profile.{Profile}
use Rattle.tables.specs.Tables.{table_length, table_of}
use Rattle.tables.specs.Rows.{front_rows}
use Rattle.tables.specs.RowLaws.{length_rows, table_front}

-- No refusal has number 0.
pub refuses : (r : Refusal) → (refusal_reply r).number ≡ 0 → ⊥
refuses r none = true≢false (sym (eq-eqb (number_of r.why) 0 none) ∙ not_done r.why)

-- Refused: it counts nothing, and nothing is written.
pub refused_answer : (r : Refusal) {a : Reply} (count : ℕ) (content lent : List ℕ) → refusal_reply r ≡ a
    → written_of (Err r) ≡ (writing_counted a count content lent).answer
refused_answer r count content lent e = (writing_refused (refusal_reply r) _ count content lent e (refuses r)).0

pub refused_lent : (r : Refusal) {a : Reply} (count : ℕ) (content lent : List ℕ) → refusal_reply r ≡ a → lent ≡ (writing_counted a count content lent).lent
refused_lent r count content lent e = (writing_refused (refusal_reply r) _ count content lent e (refuses r)).1

-- Done: the count, and the content from the front.
pub done_answer : {a : Reply} (count : ℕ) (content lent : List ℕ) → done ≡ a → written_of (Ok count) ≡ (writing_counted a count content lent).answer
done_answer count content lent e = (writing_done done _ count content lent e refl refl refl).0

pub done_lent : {a : Reply} (count : ℕ) (content lent : List ℕ) → done ≡ a
    → content ++ drop (length content) lent ≡ (writing_counted a count content lent).lent
done_lent count content lent e = (writing_done done _ count content lent e refl refl refl).1

-- A profile and a length that are not refused lie in the ranges of document 01.
pub in_range : (p : Profile) → done ≡ profile_refusal p → InRange p
in_range p e = profile_in_range p e refl

pub length_in_range : (m : ℕ) → done ≡ length_refusal m → m ≤ 128
length_in_range m e = (in_range_lem 1 128 m 1 e refl).most

-- An output that is not refused has room.
pub room_found : (needed lent : ℕ) → done ≡ room_refusal needed lent → needed ≤ lent
room_found needed lent e = has_room needed lent (ap (λ (r : Reply). r.number) (sym e))

-- A table that is written: ten limbs a row, and the rows from the front.
pub table_answer : (p : Profile) (lent : List ℕ) {a : Reply} → done ≡ a → written_of (Ok (table_length p.m)) ≡ (writing a (table_of p) lent).answer
table_answer p lent e = rw (← length_rows p (p.m + 1)) (done_answer (length (table_of p)) (table_of p) lent e)

pub table_lent : (p : Profile) (lent : List ℕ) {a : Reply} {after : List ℕ} → done ≡ a → after ≡ front_rows p (p.m + 1) lent
    → after ≡ (writing a (table_of p) lent).lent
table_lent p lent e rows = rows ∙ table_front p lent ∙ done_lent (length (table_of p)) (table_of p) lent e

-- What the calls that write a table go by.
pub ruleset table_calls = (refusal_decides, passed_leaves, in_range, length_in_range, room_found, refused_answer, refused_lent, table_answer, table_lent)
