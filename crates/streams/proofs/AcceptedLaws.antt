-- A stream is accepted exactly if it is legal words and right bridges.
use Rattle.std.specs.Prelude.{◌≡◌, List, ℕ}
use Rattle.std.proofs.Math.ListN.{length}
use Rattle.replies.specs.declared.Profile.{Profile}
use Rattle.replies.specs.Replies.{done}
use Rattle.replies.specs.Ranges.{InRange}
use Rattle.profiles.specs.Profiles.{stream_length}
use Rattle.streams.specs.Streams.{Stream, words_in, words_of, part_refusal, stream_refusal}
use Rattle.streams.specs.EachLaws.{each_implies}
use Rattle.streams.specs.FromWords.{FromEach}
use Rattle.streams.specs.AcceptedLaws.{RightPart, part_right, right_done, parts_make_stream, stream_taken, stream_count}
use Rattle.streams.proofs.EachLaws.{each_done, throughout_done}

module _ (p : Profile) (range : InRange p) where
  -- Of a stream 10, 11, 13 refuse nothing, ..
  pub stream_accepted : (words : List (List ℕ)) (cells : List ℕ) → Stream p words cells → stream_refusal p cells ≡ done
  unfolding stream_refusal
  stream_accepted words cells s =
      let n = length words in
      let parts : FromEach p (RightPart p) n cells = rw (← s.bridged) (stream_taken p range words s.legal).parts in
      rw (stream_count p range words cells s) (throughout_done p (part_refusal p) n 0 cells (each_implies p (right_done p) n cells parts))

  -- .. and cells of the length of a stream of which they refuse nothing are a stream: its words, with the right bridges.
  pub accepted_stream : (cells : List ℕ) → length cells ≡ stream_length p (words_in p (length cells)) → (stream_refusal p cells).number ≡ 0
      → Stream p (words_of p cells) cells
  unfolding stream_refusal
  accepted_stream cells exact e =
      let n = words_in p (length cells) in
      parts_make_stream p range n cells exact (each_implies p (part_right p) n cells (each_done p (part_refusal p) n 0 cells e))
