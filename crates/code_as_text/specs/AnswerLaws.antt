-- Laws of what is printed, one for each way out: refused, too many, listed, no line; and of what listing answers and leaves.
use Rattle.std.specs.Prelude.{◌≡◌, Bool, true, false, List, [], ◌∷◌, ◌++◌, ℕ, ◌≤◌, ltb, length}
use Rattle.std.proofs.Common.{sym, true≢false, ◌∙◌, arith}
use Rattle.std.proofs.Math.Nat.{zero-add}
use borrow.Author.Tests.{ltb-false, eq-eqb, ne_eqb}
use Rattle.replies.specs.declared.Reply.{Reply}
use Rattle.replies.specs.declared.Profile.{Profile}
use Rattle.replies.specs.declared.Refusal.{Refusal}
use Rattle.replies.specs.declared.Written.{Written}
use Rattle.replies.specs.declared.Why.{Why}
use Rattle.replies.specs.Answers.{number_of, refusal_reply}
use Rattle.replies.specs.AnswerLaws.{not_done}
use Rattle.replies.specs.Replies.{done, profile_refusal, room_refusal, Comes}
use Rattle.replies.specs.ReplyLaws.{has_room, room_enough}
use Rattle.replies.specs.WritingLaws.{writing_refused, writing_done}
use Rattle.profiles.specs.Profiles.{word_count}
use Rattle.text.specs.Text.{bytes, decimal}
use Rattle.text.specs.Line.{profile_in, is_line_of}
use Rattle.text.specs.Put.{Put}
use Rattle.text.specs.PartLaws.{in_row, Begun, none_put}
use Rattle.code_as_text.specs.Printed.{header, word_lines, answer_text, printed, most_bytes, listing}
use Rattle.code_as_text.specs.FitLaws.{answer_fits}

-- The parts of what is printed for a refusal: its number stands between the others.
abbrev pub refused_parts : Reply → List (List ℕ)
refused_parts r = bytes "refused " ∷ decimal r.number ∷ bytes "\n" ∷ []

-- What is printed for a profile that is refused has these parts.
pub refused_parts_lem : (p : Profile) {r : Reply} → r ≡ profile_refusal p → (r.number ≡ 0 → ⊥) → answer_text p ≡ in_row (refused_parts r)
unfolding answer_text
refused_parts_lem p {r} e some = rw (← e, ne_eqb r.number 0 some)

-- It fits where the most bytes do, and no part of it is put yet.
pub answer_refused : (p : Profile) {r : Reply} → r ≡ profile_refusal p → (r.number ≡ 0 → ⊥) → (lent : List ℕ) → most_bytes ≤ length lent
    → Begun lent 0 (answer_text p) lent 0 (refused_parts r)
answer_refused p {r} e some lent room =
    none_put (refused_parts r) (refused_parts_lem p e some) (let most = answer_fits p in omega arith)

module _ (p : Profile) {r : Reply} (e : r ≡ profile_refusal p) (none : r.number ≡ 0) {many : Bool} (tested : many ≡ ltb 4096 (word_count p)) where
  -- What is printed for a code of more words than are listed is that there are too many.
  pub answer_too_many : many ≡ true → answer_text p ≡ bytes "too many\n"
  unfolding answer_text
  answer_too_many more = rw (← e, eq-eqb r.number 0 none, ← tested, more)

  -- What is printed for any other is the whole code, ..
  pub answer_listed : many ≡ false → answer_text p ≡ header p ++ word_lines p (word_count p)
  unfolding answer_text
  answer_listed few = rw (← e, eq-eqb r.number 0 none, ← tested, few)

  -- .. which has at most 4,096 words.
  pub few_words : many ≡ false → word_count p ≤ 4096
  few_words few = ltb-false 4096 (word_count p) (rw tested at few)

module _ (line : List ℕ) {p : Profile} {is : Bool} (found : p ≡ profile_in line) (tested : is ≡ is_line_of line p) where
  -- What is printed for the line of a profile is what is printed for the profile.
  pub printed_answer : is ≡ true → printed line ≡ answer_text p
  unfolding printed
  printed_answer right = rw (← found, ← tested, right)

  -- What is printed for any other bytes is that the line is refused.
  pub printed_refused : is ≡ false → printed line ≡ bytes "refused line\n"
  unfolding printed
  printed_refused wrong = rw (← found, ← tested, wrong)

module _ (line lent : List ℕ) {reply : Reply} (tested : reply ≡ room_refusal most_bytes (length lent)) where
  -- A lent text of too few bytes is refused, and nothing is written.
  pub listing_refused : (reply.number ≡ 0 → ⊥) → Comes (listing line lent) (record { reply = reply; count = 0 }) lent
  unfolding listing
  listing_refused some = writing_refused _ _ _ _ lent tested some

  module _ (none : reply.number ≡ 0) where
    -- One that is not refused has room for whatever is printed, ..
    pub room_for_all : most_bytes ≤ length lent
    room_for_all = has_room most_bytes (length lent) (rw tested at none)

    -- .. and what is printed is written.
    pub listing_done : {after : List ℕ} {count : ℕ} → Put lent 0 (printed line) after count
        → Comes (listing line lent) (record { reply = reply; count = count }) after
    unfolding listing
    listing_done put =
        let accepted : reply ≡ done = tested ∙ room_enough most_bytes (length lent) room_for_all in
        rw accepted (writing_done _ _ _ _ lent tested none (rw zero-add at put.behind) (rw zero-add at put.left))

-- A call that is refused answers the refusal and leaves the lent text.
pub number_some : (why : Why) → number_of why ≡ 0 → ⊥
number_some why none = true≢false (sym (eq-eqb (number_of why) 0 none) ∙ not_done why)

pub refused_answer : (f : Refusal) (line lent : List ℕ) → refusal_reply f ≡ room_refusal most_bytes (length lent)
    → ◌≡◌ {A = Written} (record { reply = refusal_reply f; count = 0 }) (listing line lent).answer
refused_answer f line lent e = (listing_refused line lent e (number_some f.why)).0

pub refused_lent : (f : Refusal) (line lent : List ℕ) → refusal_reply f ≡ room_refusal most_bytes (length lent)
    → lent ≡ (listing line lent).lent
refused_lent f line lent e = (listing_refused line lent e (number_some f.why)).1
