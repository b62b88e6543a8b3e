-- When a call is done, and what a call that is done wrote.
use Rattle.std.specs.Prelude.{◌≡◌, refl, Bool, true, false, cond, List, ℕ, length}
use Rattle.std.proofs.Math.Seq.{take-append_seam}
use Rattle.std.proofs.Common.{eqb-true, eq-eqb}
use Rattle.replies.specs.declared.Profile.{Profile}
use Rattle.replies.specs.declared.Reply.{Reply}
use Rattle.replies.specs.Replies.{done, is_done, or_else, Outcome, writing_counted}
use Rattle.replies.specs.Ranges.{InRange}
use Rattle.streams.specs.Streams.{Stream}
use Rattle.streams.specs.JoinedLaws.{stream_free}
use Rattle.demands.specs.Outcomes.{Done, done_with, cells_written, WroteStream}

-- A call that makes four tests in turn is done where none of them refuses.
pub four_tests_done : (a : Reply) {b c d : Reply} {count : ℕ} (content lent : List ℕ) → a.number ≡ 0 → b ≡ done → c ≡ done → d ≡ done
    → writing_counted (or_else a (or_else b (or_else c d))) count content lent ≡ done_with count content lent
unfolding writing_counted or_else
four_tests_done a content lent none e f g = rw (eq-eqb a.number 0 none, e, f, g)

-- A call that is done is not refused.
pub not_refused : (refusal : Reply) (count : ℕ) (content lent : List ℕ) → Done (writing_counted refusal count content lent) → refusal.number ≡ 0
unfolding writing_counted
not_refused refusal count content lent = go (is_done refusal) refl
  where
    go : (b : Bool) → is_done refusal ≡ b
        → Done (cond b (done_with count content lent) (record { answer = record { reply = refusal; count = 0 }; lent = lent })) → refusal.number ≡ 0
    go true e z = eqb-true refusal.number 0 e
    go false e z = z

-- What a call that is done with some cells wrote are these cells.
pub written_cells : (cells lent : List ℕ) {outcome : Outcome} → outcome ≡ done_with (length cells) cells lent → cells_written outcome ≡ cells
written_cells cells lent e = rw e (take-append_seam cells _)

-- Where they are a stream, it wrote that stream.
pub wrote_stream : (p : Profile) → InRange p → {words : List (List ℕ)} {cells : List ℕ} → Stream p words cells → (lent : List ℕ) {outcome : Outcome}
    → outcome ≡ done_with (length cells) cells lent → WroteStream p words lent outcome
wrote_stream p range {words} {cells} s lent e =
    let found = written_cells cells lent e in record { wrote = rw found e; stream = rw found s; free = rw found (stream_free p range s) }
