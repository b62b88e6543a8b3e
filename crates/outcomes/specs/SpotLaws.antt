-- Laws of where a place lies: in no stream, in a word, in a bridge.
use Rattle.std.specs.Prelude.{◌≡◌, refl, Result, Ok, Err, Bool, true, false, not, ◌||◌, ℕ, ◌+◌, ◌-◌, ◌/◌, ◌%◌, ◌<◌, ltb, leb}
use Rattle.std.proofs.Common.{true≢false, leb-false, eqb-true}
use Rattle.replies.specs.declared.Profile.{Profile}
use Rattle.replies.specs.declared.Reply.{Reply}
use Rattle.replies.specs.Replies.{is_done, profile_refusal}
use Rattle.std.specs.Result.{is_err}
use Rattle.replies.specs.declared.Refusal.{Refusal}
use Rattle.replies.specs.Answers.{reply_of}
use Rattle.replies.specs.AnswerLaws.{not_done}
use Rattle.replies.specs.ReplyLaws.{profile_in_range}
use Rattle.replies.specs.Ranges.{InRange, most_cells}
use Rattle.outcomes.specs.Outcomes.{spot_in, nowhere, spot_of}

-- An answer is a refusal exactly where its reply is not done.
pub refused_is : {A : Type 0} (answer : Result A Refusal) → is_err answer ≡ not (is_done (reply_of answer))
refused_is (Ok found) = refl
refused_is (Err r) = rw (not_done r.why)

-- So a profile that is not refused is in range.
pub accepted : (p : Profile) {A : Type 0} (answer : Result A Refusal) → reply_of answer ≡ profile_refusal p → is_err answer ≡ false → InRange p
accepted p (Ok found) e none = profile_in_range p e refl
accepted p (Err r) e none = absurd (true≢false none)

-- A profile and a place that some stream of it may reach.
pub record InStream (p : Profile) (place : ℕ) : Type 0 where
  pub range : InRange p
  pub reached : place < most_cells

module _ (p : Profile) (place : ℕ) {r : Reply} (e : r ≡ profile_refusal p) where
  -- A profile out of range and a place that no stream reaches are nowhere.
  pub spot_nowhere : (not (is_done r) || leb most_cells place) ≡ true → nowhere ≡ spot_of p place
  unfolding spot_of
  spot_nowhere t = rw (← e, t)

  -- All others lie in a stream, ..
  pub in_stream : (not (is_done r) || leb most_cells place) ≡ false → InStream p place
  in_stream = go (is_done r) (leb most_cells place) refl refl
    where
      go : (a b : Bool) → is_done r ≡ a → leb most_cells place ≡ b → (not a || b) ≡ false → InStream p place
      go true false s t f = record { range = profile_in_range p e (eqb-true _ 0 s); reached = leb-false most_cells place t }
      go true true s t f = absurd (true≢false f)
      go false b s t f = absurd (true≢false f)

  -- .. in a word or in its bridge.
  pub spot_found : {in_word : Bool} → (not (is_done r) || leb most_cells place) ≡ false → ltb (place % (p.m + p.x)) p.m ≡ in_word
      → let part = p.m + p.x in spot_in in_word p (place / part) (place - place % part) (place % part) ≡ spot_of p place
  unfolding spot_of
  spot_found t u = rw (← e, ← u, t)
