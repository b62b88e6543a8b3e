-- The outcomes of joining two streams and of turning one.
use Rattle.std.specs.Prelude.{List, ℕ, length}
use Rattle.replies.specs.declared.Reply.{Reply}
use Rattle.replies.specs.declared.Profile.{Profile}
use Rattle.replies.specs.Replies.{or_else, moved_by, lowest, profile_refusal, room_refusal, Outcome, writing}
use Rattle.patterns.specs.Stream.{joined, turned}
use Rattle.profiles.specs.Profiles.{patterns_of}
use Rattle.streams.specs.Streams.{fit_refusal, both_fit_refusal, stream_refusal}

-- The tests, in the order of their numbers: profile, lengths, room, cells. Places in the second stream count on from the first's length.
unfoldable pub join_refusal : Profile → List ℕ → List ℕ → List ℕ → Reply
join_refusal p a b lent =
    or_else (profile_refusal p)
    (or_else (both_fit_refusal p (length a) (length b))
    (or_else (room_refusal (length (joined (patterns_of p) a b)) (length lent)) (lowest (stream_refusal p a) (moved_by (length a) (stream_refusal p b)))))

unfoldable pub joining_streams : Profile → List ℕ → List ℕ → List ℕ → Outcome
joining_streams p a b lent = writing (join_refusal p a b lent) (joined (patterns_of p) a b) lent

-- One stream: profile, length, room, cells.
unfoldable pub turn_refusal : Profile → List ℕ → List ℕ → Reply
turn_refusal p cells lent =
    or_else (profile_refusal p) (or_else (fit_refusal p (length cells)) (or_else (room_refusal (length cells) (length lent)) (stream_refusal p cells)))

unfoldable pub turning_stream : Profile → List ℕ → List ℕ → Outcome
turning_stream p cells lent = writing (turn_refusal p cells lent) (turned cells) lent
