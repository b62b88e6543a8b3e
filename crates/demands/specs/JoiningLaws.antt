-- Joining two streams and turning one are done, with room.
use Rattle.std.specs.Prelude.{◌≡◌, refl, List, ℕ, ◌+◌, ◌≤◌, length}
use Rattle.std.proofs.Common.{ap, ◌∙◌, length-append}
use Rattle.replies.specs.declared.Profile.{Profile}
use Rattle.replies.specs.Replies.{profile_refusal}
use Rattle.replies.specs.ReplyLaws.{profile_in_range, room_enough}
use Rattle.replies.specs.LowestLaws.{lowest_of_done, moved_of_done}
use Rattle.replies.specs.Ranges.{InRange, most_words}
use Rattle.patterns.specs.Stream.{joined, turned}
use Rattle.profiles.specs.Profiles.{patterns_of, stream_length}
use Rattle.streams.specs.Streams.{Stream}
use Rattle.streams.specs.FitLaws.{both_fit_not_refused, fits_not_refused}
use Rattle.streams.specs.AcceptedLaws.{stream_exact}
use Rattle.streams.proofs.AcceptedLaws.{stream_accepted}
use Rattle.streams.specs.JoinedLaws.{joined_stream, stream_fits, both_fit}
use Rattle.join_streams.specs.Joining.{join_refusal, joining_streams, turn_refusal, turning_stream}
use Rattle.demands.specs.Outcomes.{done_with}
use Rattle.demands.specs.OutcomeLaws.{four_tests_done}

module _ (p : Profile) (profile : (profile_refusal p).number ≡ 0) where
  range : InRange p
  range = profile_in_range p refl profile

  -- The cells of two streams joined are those of so many words.
  joined_length : {u v : List (List ℕ)} {a b : List ℕ} → Stream p u a → Stream p v b
      → length (joined (patterns_of p) a b) ≡ stream_length p (length u + length v)
  joined_length {u} {v} s t = stream_exact p range _ _ (joined_stream p range s t) ∙ ap (stream_length p) (length-append u v)

  -- Two streams of at most 256 words together are joined where there is room for so many words.
  pub joining_done : {u v : List (List ℕ)} {a b : List ℕ} → Stream p u a → Stream p v b → length u + length v ≤ most_words → (lent : List ℕ)
      → stream_length p (length u + length v) ≤ length lent
      → joining_streams p a b lent ≡ done_with (length (joined (patterns_of p) a b)) (joined (patterns_of p) a b) lent
  unfolding joining_streams join_refusal
  joining_done {u} {v} {a} {b} s t few lent room =
      let fit = both_fit_not_refused p (length a) (length b) (both_fit p range s t few) in
      let enough = room_enough (length (joined (patterns_of p) a b)) (length lent) (rw (joined_length s t) room) in
      let second = moved_of_done (length a) _ (stream_accepted p range v b t) in
      four_tests_done _ _ lent profile fit enough (lowest_of_done _ _ (stream_accepted p range u a s) second)

  -- A stream of at most 256 words is turned where there is room for it.
  pub turning_done : {u : List (List ℕ)} {a : List ℕ} → Stream p u a → length u ≤ most_words → (lent : List ℕ) → stream_length p (length u) ≤ length lent
      → turning_stream p a lent ≡ done_with (length (turned a)) (turned a) lent
  unfolding turning_stream turn_refusal
  turning_done {u} {a} s few lent room =
      let fit = fits_not_refused p (length a) (stream_fits p range s few) in
      let enough = room_enough (length a) (length lent) (rw (stream_exact p range u a s) room) in
      four_tests_done _ _ lent profile fit enough (stream_accepted p range u a s)
