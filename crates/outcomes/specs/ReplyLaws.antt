-- Laws of what is told of a reply: its parts, how long it is, and what telling it answers and leaves.
use Rattle.std.specs.Prelude.{◌≡◌, List, [], ◌∷◌, ℕ, ◌^◌, ◌≤◌, ◌<◌, length}
use Rattle.std.proofs.Common.{sym, true≢false, ◌∙◌, append-nil, arith, length-append, eq-eqb, ne_eqb}
use Rattle.std.proofs.Math.Nat.{zero-add}
use Rattle.replies.specs.declared.Reply.{Reply}
use Rattle.replies.specs.declared.Refusal.{Refusal}
use Rattle.replies.specs.declared.Written.{Written}
use Rattle.replies.specs.declared.Why.{Why}
use Rattle.replies.specs.Answers.{number_of, refusal_reply}
use Rattle.replies.specs.AnswerLaws.{not_done}
use Rattle.replies.specs.Replies.{done, is_done, room_refusal, Comes}
use Rattle.replies.specs.NumberLaws.{picked}
use Rattle.replies.specs.ReplyLaws.{has_room, room_enough}
use Rattle.replies.specs.WritingLaws.{writing_refused, writing_done}
use Rattle.text.specs.Text.{bytes, decimal}
use Rattle.text.specs.DecimalLaws.{decimal-length}
use Rattle.text.specs.Put.{Put}
use Rattle.text.specs.PartLaws.{in_row}
use Rattle.outcomes.specs.Outcomes.{words_text, reply_text, reply_bytes, telling_reply}
use Rattle.outcomes.specs.WordsLaws.{words-length}

-- What is told of a reply that is done are the words on number 0.
pub done_told : (r : Reply) → r.number ≡ 0 → reply_text r ≡ words_text r.number r.place
unfolding reply_text
done_told r none = rw (eq-eqb r.number 0 none)

-- The parts of what is told of a refusal.
abbrev pub refusal_parts : Reply → List (List ℕ)
refusal_parts r = bytes "refused " ∷ decimal r.number ∷ bytes " at " ∷ decimal r.place ∷ bytes ": " ∷ words_text r.number r.place ∷ []

-- It has these parts.
pub refusal_told : (r : Reply) → (r.number ≡ 0 → ⊥) → reply_text r ≡ in_row (refusal_parts r)
unfolding reply_text
refusal_told r some = rw (ne_eqb r.number 0 some, append-nil)

-- What is told of a reply takes no more bytes than the most.
pub reply-length : (r : Reply) → r.number < 2 ^ 8 → r.place < 2 ^ 64 → length (reply_text r) ≤ reply_bytes
unfolding reply_text
reply-length r byte small =
    let number = decimal-length 2 r.number (omega arith) in
    let digits = decimal-length 19 r.place (omega arith) in
    let long = words-length r.number r.place small in
    picked (λ (text : List ℕ). length text ≤ reply_bytes) (is_done r) (λ e. omega arith) (λ e. simp length-append (omega arith))

module _ (r : Reply) (lent : List ℕ) {room : Reply} (tested : room ≡ room_refusal reply_bytes (length lent)) where
  -- A lent text of too few bytes is refused, and nothing is written.
  pub telling_refused : (room.number ≡ 0 → ⊥) → Comes (telling_reply r lent) (record { reply = room; count = 0 }) lent
  unfolding telling_reply
  telling_refused some = writing_refused _ _ _ _ lent tested some

  module _ (none : room.number ≡ 0) where
    -- One that is not refused has room for whatever is told, ..
    pub room_for_all : reply_bytes ≤ length lent
    room_for_all = has_room reply_bytes (length lent) (rw tested at none)

    -- .. and what is told is written.
    pub telling_done : {after : List ℕ} {count : ℕ} → Put lent 0 (reply_text r) after count
        → Comes (telling_reply r lent) (record { reply = room; count = count }) after
    unfolding telling_reply
    telling_done put =
        let accepted : room ≡ done = tested ∙ room_enough reply_bytes (length lent) room_for_all in
        rw accepted (writing_done _ _ _ _ lent tested none (rw zero-add at put.behind) (rw zero-add at put.left))

-- A call that is refused answers the refusal and leaves the lent text, ..
pub refused_answer : (f : Refusal) (r : Reply) (lent : List ℕ) → refusal_reply f ≡ room_refusal reply_bytes (length lent)
    → ◌≡◌ {A = Written} (record { reply = refusal_reply f; count = 0 }) (telling_reply r lent).answer
refused_answer f r lent e = (telling_refused r lent e (λ z. some f.why z)).0
  where
    some : (why : Why) → number_of why ≡ 0 → ⊥
    some why z = true≢false (sym (eq-eqb (number_of why) 0 z) ∙ not_done why)

pub refused_lent : (f : Refusal) (r : Reply) (lent : List ℕ) → refusal_reply f ≡ room_refusal reply_bytes (length lent)
    → lent ≡ (telling_reply r lent).lent
refused_lent f r lent e = (telling_refused r lent e (λ z. some f.why z)).1
  where
    some : (why : Why) → number_of why ≡ 0 → ⊥
    some why z = true≢false (sym (eq-eqb (number_of why) 0 z) ∙ not_done why)
