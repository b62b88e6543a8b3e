-- Laws of joining and turning: what the tests let through, and what is left where a call is done.
use Rattle.std.specs.Prelude.{◌≡◌, refl, List, ℕ, ◌+◌, ◌^◌, ◌≤◌, ◌<◌, length}
use Rattle.std.proofs.Common.{sym, ap, arith}
use Rattle.std.proofs.Math.ListN.{length-reverse}
use Rattle.replies.specs.declared.Reply.{Reply}
use Rattle.replies.specs.declared.Profile.{Profile}
use Rattle.replies.specs.Replies.{done, or_else, profile_refusal, room_refusal}
use Rattle.replies.specs.ReplyLaws.{both_done, profile_in_range, has_room}
use Rattle.replies.specs.Ranges.{InRange}
use Rattle.patterns.specs.Stream.{joined, turned}
use Rattle.profiles.specs.Profiles.{patterns_of}
use Rattle.streams.specs.CallLaws.{stream_calls, in_range}
use Rattle.streams.specs.Streams.{both_fit_refusal, stream_refusal}
use Rattle.streams.specs.FitLaws.{Fits, not_refused_both_fit, few_cells}
use Rattle.streams.proofs.PartLaws.{stream_place}
use Rattle.join_streams.specs.JoinedLaws.{between_most, joined_length}
use Rattle.join_streams.specs.Joining.{join_refusal, turn_refusal}

-- What the test of two lengths lets through.
record Tested (p : Profile) (a b : ℕ) : Type 0 where
  pub first : Fits p a
  pub second : Fits p b

both_tested : (p : Profile) (a b : ℕ) → done ≡ both_fit_refusal p a b → Tested p a b
both_tested p a b e =
    let both = not_refused_both_fit p a b e refl in
    let few = both.few in
    record {
      first = record { exact = both.first; few = omega arith };
      second = record { exact = both.second; few = omega arith };
    }

pub first_fits : (p : Profile) (a b : ℕ) → done ≡ both_fit_refusal p a b → Fits p a
first_fits p a b e = (both_tested p a b e).first

pub second_fits : (p : Profile) (a b : ℕ) → done ≡ both_fit_refusal p a b → Fits p b
second_fits p a b e = (both_tested p a b e).second

-- So the joined stream has few cells, ..
pub count_few : (p : Profile) (a b : List ℕ) → done ≡ profile_refusal p → done ≡ both_fit_refusal p (length a) (length b)
    → length (joined (patterns_of p) a b) < 2 ^ 64
count_few p a b e f =
    let range = in_range p e in
    let t = both_tested p (length a) (length b) f in
    let reach = range.reach.most in
    let most = between_most p.x (length a) (length b) in
    omega (arith, joined_length (patterns_of p) a b, few_cells p (length a) range t.first, few_cells p (length b) range t.second)

-- .. and a refusal of the second lies few cells in, counted on from the first's length.
pub place_few : (p : Profile) (a b : List ℕ) → done ≡ profile_refusal p → done ≡ both_fit_refusal p (length a) (length b)
    → (stream_refusal p b).place + length a < 2 ^ 64
place_few p a b e f =
    let range = in_range p e in
    let t = both_tested p (length a) (length b) f in
    omega (arith, few_cells p (length a) range t.first, stream_place p b range t.second.few)

-- What holds where nothing is refused: the profile is in range, and the output has room.
pub record Accepted (p : Profile) (needed lent : ℕ) : Type 0 where
  pub range : InRange p
  pub room : needed ≤ lent

all_done : (p : Profile) (fit cells : Reply) (needed lent : ℕ)
    → done ≡ or_else (profile_refusal p) (or_else fit (or_else (room_refusal needed lent) cells)) → Accepted p needed lent
all_done p fit cells needed lent e =
    let profile = both_done _ _ (sym (ap (λ (r : Reply). r.number) e)) in
    let fits = both_done _ _ profile.second in
    let room = both_done _ _ fits.second in
    record { range = profile_in_range p refl profile.first; room = has_room _ _ room.first }

module _ (p : Profile) (a b lent : List ℕ) (e : done ≡ join_refusal p a b lent) where
  -- Where joining is not refused.
  pub join_accepted : InRange p × (length (joined (patterns_of p) a b) ≤ length lent)
  unfolding join_refusal
  join_accepted = let all = all_done _ _ _ _ _ e in (all.range, all.room)

module _ (p : Profile) (cells lent : List ℕ) (e : done ≡ turn_refusal p cells lent) where
  -- Where turning is not refused.
  pub turn_accepted : length cells ≤ length lent
  unfolding turn_refusal
  turn_accepted = (all_done _ _ _ _ _ e).room

-- A turned stream has as many cells.
pub turned_length : (cells : List ℕ) → length (turned cells) ≡ length cells
turned_length cells = length-reverse cells

-- What joining and turning go by.
pub ruleset join_calls = (stream_calls, first_fits, second_fits, count_few, place_few, join_accepted)

pub ruleset turn_calls = (stream_calls, turn_accepted, turned_length)
