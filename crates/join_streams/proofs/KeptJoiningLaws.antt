-- Laws that stood in specs/JoiningLaws, which no proof rests on now.
use Rattle.std.specs.Prelude.{◌≡◌, refl, List, ◌++◌, ℕ, ◌+◌, ◌≤◌, length, drop}
use Rattle.std.proofs.Common.{sym, ap, ◌∙◌, arith}
use Rattle.std.proofs.Math.ListN.{length-reverse}
use Rattle.replies.specs.declared.Reply.{Reply}
use Rattle.replies.specs.declared.Profile.{Profile}
use Rattle.replies.specs.Replies.{done, or_else, profile_refusal, room_refusal, Comes}
use Rattle.replies.specs.ReplyLaws.{both_done, profile_in_range, has_room}
use Rattle.replies.specs.WritingLaws.{writing_refused, writing_done}
use Rattle.replies.specs.Ranges.{InRange}
use Rattle.patterns.specs.Stream.{joined, turned}
use Rattle.profiles.specs.Profiles.{patterns_of}
use Rattle.streams.specs.Streams.{both_fit_refusal, stream_refusal}
use Rattle.streams.specs.FitLaws.{Fits, not_refused_both_fit, few_cells}
use Rattle.streams.proofs.PartLaws.{stream_place}
use Rattle.join_streams.specs.JoinedLaws.{cells_between, between_most}
use Rattle.join_streams.specs.Joining.{join_refusal, joining_streams, turn_refusal, turning_stream}
use Rattle.join_streams.specs.JoiningLaws.{Accepted}

-- What the tests of the profile and of the lengths let through.
pub record Tested (p : Profile) (a b : ℕ) : Type 0 where
  pub range : InRange p
  pub first : Fits p a
  pub second : Fits p b

pub both_tested : (p : Profile) (a b : ℕ) {profile fit : Reply} → profile ≡ profile_refusal p → profile.number ≡ 0 → fit ≡ both_fit_refusal p a b
    → fit.number ≡ 0 → Tested p a b
both_tested p a b e z f w =
    let both = not_refused_both_fit p a b f w in
    let few = both.few in
    record {
      range = profile_in_range p e z;
      first = record { exact = both.first; few = omega arith };
      second = record { exact = both.second; few = omega arith };
    }

-- So the joined stream has few cells, ..
pub count_few : (p : Profile) (a b : ℕ) {between : ℕ} → Tested p a b → between ≡ cells_between p.x a b → a + between + b ≤ 69640
count_few p a b t e =
    let reach = t.range.reach.most in
    let most = between_most p.x a b in
    omega (arith, few_cells p a t.range t.first, few_cells p b t.range t.second)

-- .. and a refusal of the second lies few cells in, counted on from the first's length.
pub place_few : (p : Profile) (a : ℕ) (b : List ℕ) {r : Reply} → Tested p a (length b) → r ≡ stream_refusal p b → r.place + a ≤ 69632
place_few p a b t e = rw e (omega (arith, few_cells p a t.range t.first, stream_place p b t.range t.second.few))

all_done : (p : Profile) (fit cells : Reply) (needed lent : ℕ) {reply : Reply}
    → reply ≡ or_else (profile_refusal p) (or_else fit (or_else (room_refusal needed lent) cells)) → reply.number ≡ 0 → Accepted p needed lent
all_done p fit cells needed lent e z =
    let profile = both_done _ _ (sym (ap (λ (r : Reply). r.number) e) ∙ z) in
    let fits = both_done _ _ profile.second in
    let room = both_done _ _ fits.second in
    record { range = profile_in_range p refl profile.first; room = has_room _ _ room.first }

module _ (p : Profile) (a b lent : List ℕ) {reply : Reply} (e : reply ≡ join_refusal p a b lent) where
  -- Where joining is not refused.
  pub join_accepted : reply.number ≡ 0 → Accepted p (length (joined (patterns_of p) a b)) (length lent)
  unfolding join_refusal
  join_accepted z = all_done _ _ _ _ _ e z

  -- A refusal writes nothing.
  pub join_refused : (reply.number ≡ 0 → ⊥) → Comes (joining_streams p a b lent) (record { reply = reply; count = 0 }) lent
  unfolding joining_streams
  join_refused n = writing_refused _ _ _ _ lent e n

  -- Done writes the joined stream from the front.
  pub join_done : reply.number ≡ 0 → {count : ℕ} {after : List ℕ} → count ≡ length (joined (patterns_of p) a b)
      → after ≡ joined (patterns_of p) a b ++ drop (length (joined (patterns_of p) a b)) lent
      → Comes (joining_streams p a b lent) (record { reply = done; count = count }) after
  unfolding joining_streams
  join_done z c f = writing_done _ _ _ _ lent e z c f

module _ (p : Profile) (cells lent : List ℕ) {reply : Reply} (e : reply ≡ turn_refusal p cells lent) where
  -- Where turning is not refused.
  pub turn_accepted : reply.number ≡ 0 → Accepted p (length cells) (length lent)
  unfolding turn_refusal
  turn_accepted z = all_done _ _ _ _ _ e z

  -- A refusal writes nothing.
  pub turn_refused : (reply.number ≡ 0 → ⊥) → Comes (turning_stream p cells lent) (record { reply = reply; count = 0 }) lent
  unfolding turning_stream
  turn_refused n = writing_refused _ _ _ _ lent e n

  -- Done writes the same cells, last first, from the front.
  pub turn_done : reply.number ≡ 0 → {after : List ℕ} → after ≡ turned cells ++ drop (length cells) lent
      → Comes (turning_stream p cells lent) (record { reply = done; count = length cells }) after
  unfolding turning_stream
  turn_done z f =
      let same = length-reverse cells in
      writing_done _ _ _ (turned cells) lent e z (sym same) (rw same f)
