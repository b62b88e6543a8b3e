-- Laws of calls on streams: what a test that is passed lets through, and what a call that writes answers and leaves.
use Rattle.std.specs.Prelude.{◌≡◌, refl, List, ◌++◌, ℕ, Ok, Err, ◌≤◌, length, drop}
use Rattle.std.proofs.Common.{sym, ap, ◌∙◌, true≢false, eq-eqb}
use Rattle.replies.specs.declared.Profile.{Profile}
use Rattle.replies.specs.declared.Refusal.{Refusal}
use Rattle.replies.specs.declared.Reply.{Reply}
use Rattle.replies.specs.AnswerLaws.{not_done, refusal_decides, passed_leaves}
use Rattle.replies.specs.Answers.{number_of, refusal_reply, written_of}
use Rattle.replies.specs.Ranges.{InRange}
use Rattle.replies.specs.ReplyLaws.{profile_in_range, has_room}
use Rattle.replies.specs.Replies.{done, profile_refusal, room_refusal, writing_counted}
use Rattle.replies.specs.WritingLaws.{writing_refused, writing_done}
use Rattle.profiles.specs.Profiles.{stream_length}
use Rattle.streams.specs.Streams.{words_in, fit_refusal}
use Rattle.streams.specs.FitLaws.{Fits, not_refused_fits}

refuses : (r : Refusal) → (refusal_reply r).number ≡ 0 → ⊥
refuses r none = true≢false (sym (eq-eqb (number_of r.why) 0 none) ∙ not_done r.why)

-- Refused: it counts nothing, and nothing is written.
pub refused_answer : (r : Refusal) {a : Reply} (count : ℕ) (content lent : List ℕ) → refusal_reply r ≡ a
    → written_of (Err r) ≡ (writing_counted a count content lent).answer
refused_answer r count content lent e = (writing_refused (refusal_reply r) _ count content lent e (refuses r)).0

pub refused_lent : (r : Refusal) {a : Reply} (count : ℕ) (content lent : List ℕ) → refusal_reply r ≡ a → lent ≡ (writing_counted a count content lent).lent
refused_lent r count content lent e = (writing_refused (refusal_reply r) _ count content lent e (refuses r)).1

-- Done: the count, and the content from the front.
pub done_answer : {a : Reply} (count : ℕ) (content lent : List ℕ) → done ≡ a → written_of (Ok count) ≡ (writing_counted a count content lent).answer
done_answer count content lent e = (writing_done done _ count content lent e refl refl refl).0

pub done_lent : {a : Reply} (count : ℕ) (content lent : List ℕ) → done ≡ a
    → content ++ drop (length content) lent ≡ (writing_counted a count content lent).lent
done_lent count content lent e = (writing_done done _ count content lent e refl refl refl).1

-- A profile that is not refused lies in the ranges of document 01, ..
pub in_range : (p : Profile) → done ≡ profile_refusal p → InRange p
in_range p e = profile_in_range p e refl

-- .. cells that are not refused fit a stream of at most 256 words, ..
pub fits : (p : Profile) (cells : ℕ) → done ≡ fit_refusal p cells → Fits p cells
fits p cells e = not_refused_fits p cells e refl

pub fits_exact : (p : Profile) (cells : ℕ) → done ≡ fit_refusal p cells → cells ≡ stream_length p (words_in p cells)
fits_exact p cells e = (fits p cells e).exact

pub fits_few : (p : Profile) (cells : ℕ) → done ≡ fit_refusal p cells → words_in p cells ≤ 256
fits_few p cells e = (fits p cells e).few

-- .. and an output that is not refused has room.
pub room_found : (needed lent : ℕ) → done ≡ room_refusal needed lent → needed ≤ lent
room_found needed lent e = has_room needed lent (ap (λ (r : Reply). r.number) (sym e))

-- What a call on streams goes by.
pub ruleset stream_calls = (refusal_decides, passed_leaves, in_range, fits_exact, fits_few, room_found, refused_answer, refused_lent, done_answer, done_lent)
