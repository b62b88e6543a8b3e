-- Demand 3. For any streams of one profile made of pattern-free words and right bridges, at most 256 words together, with room: joining two
-- gives such a stream, pattern-free throughout; joining three gives the same cells whichever pair is joined first; an empty stream adds nothing;
-- turning a joined stream gives the two turned streams joined in the other order; where each word carries a message, the joined stream reads as
-- the first's bits, then the second's.
use Rattle.std.specs.Prelude.{◌≡◌, true, ℕ, ◌+◌, ◌≤◌, length}
use Rattle.std.proofs.Math.Path.{refl}
use Rattle.std.proofs.Common.{sym, ◌∙◌, arith, length-append}
use mathlib.Core.List.{List, [], ◌++◌, append-nil, append_assoc}
use Rattle.std.proofs.Math.Nat.{zero-add, add-zero}
use Rattle.messages.specs.Carrying.{carrying_refusal}
use Rattle.replies.specs.declared.Profile.{Profile}
use Rattle.replies.specs.Replies.{profile_refusal, Outcome}
use Rattle.replies.specs.ReplyLaws.{both_done, profile_in_range}
use Rattle.replies.specs.Ranges.{InRange, most_words}
use Rattle.listing.specs.Every.{every}
use Rattle.listing.specs.EveryLaws.{every_append}
use Rattle.patterns.specs.Stream.{stream_of}
use Rattle.streams.specs.Streams.{Stream, turned_words}
use Rattle.streams.specs.JoinedLaws.{length_turned_words, turned_words-append, joined_stream, turned_stream}
use Rattle.join_streams.specs.Joining.{joining_streams, turning_stream}
use Rattle.read_stream.specs.Reading.{bits_read, reading_stream}
use Rattle.demands.specs.Outcomes.{done_with, cells_written, carries_message, Room, WroteStream, BitRoom, ReadBits, SameStream, AddsNothing}
use Rattle.demands.specs.OutcomeLaws.{wrote_stream}
use Rattle.demands.specs.JoiningLaws.{joining_done, turning_done}
use Rattle.demands.specs.ReadingLaws.{read_count, read-append, reading_done}

module _ (p : Profile) (profile : (profile_refusal p).number ≡ 0) where
  range : InRange p
  range = profile_in_range p refl profile

  -- What is written is known by its words.
  by_words : {words : List (List ℕ)} {lent cells : List ℕ} {outcome : Outcome} → WroteStream p words lent outcome → Stream p words cells
      → outcome ≡ done_with (length cells) cells lent
  by_words w s = rw (sym w.stream.bridged ∙ s.bridged) at w.wrote

  same_stream : {words : List (List ℕ)} {lent : List ℕ} {first second : Outcome} → WroteStream p words lent first → WroteStream p words lent second
      → SameStream p words lent first second
  same_stream f s = record { same = by_words f s.stream ∙ sym s.wrote; wrote = f }

  -- Joining two gives such a stream, pattern-free throughout.
  pub joining_two : {u v : List (List ℕ)} {a b : List ℕ} → Stream p u a → Stream p v b → length u + length v ≤ most_words → (lent : List ℕ)
      → Room p (length u + length v) lent → WroteStream p (u ++ v) lent (joining_streams p a b lent)
  joining_two s t few lent room = wrote_stream p range (joined_stream p range s t) lent (joining_done p profile s t few lent room)

  -- Joining three gives the same cells whichever pair is joined first.
  pub joining_three : {u v w : List (List ℕ)} {a b c : List ℕ} → Stream p u a → Stream p v b → Stream p w c
      → length u + (length v + length w) ≤ most_words → (one two lent : List ℕ) → Room p (length u + length v) one → Room p (length v + length w) two
      → Room p (length u + (length v + length w)) lent
      → SameStream p (u ++ (v ++ w)) lent (joining_streams p (cells_written (joining_streams p a b one)) c lent)
      (joining_streams p a (cells_written (joining_streams p b c two)) lent)
  joining_three {u} {v} {w} s t r few one two lent room_one room_two room =
      let ab = (joining_two s t (omega arith) one room_one).stream in
      let bc = (joining_two t r (omega arith) two room_two).stream in
      let regrouped : length (u ++ v) + length w ≡ length u + (length v + length w) = omega (arith, length-append u v) in
      let grouped : length u + length (v ++ w) ≡ length u + (length v + length w) = omega (arith, length-append v w) in
      same_stream (rw append_assoc at (joining_two ab r (rw regrouped few) lent (rw regrouped room)))
      (joining_two s bc (rw grouped few) lent (rw grouped room))

  -- An empty stream adds nothing.
  pub joining_empty : {u : List (List ℕ)} {a : List ℕ} → Stream p u a → length u ≤ most_words → (lent : List ℕ) → Room p (length u) lent
      → AddsNothing p a lent
  joining_empty {u} s few lent room =
      let empty : Stream p [] [] = record { legal = refl; bridged = unfold stream_of in refl } in
      record {
        before = by_words (joining_two empty s (rw zero-add few) lent (rw zero-add room)) s;
        behind = by_words (rw append-nil at (joining_two s empty (rw add-zero few) lent (rw add-zero room))) s;
      }

  -- A stream turned is the stream of its words, turned, the last first.
  pub turning_one : {u : List (List ℕ)} {a : List ℕ} → Stream p u a → length u ≤ most_words → (lent : List ℕ) → Room p (length u) lent
      → WroteStream p (turned_words u) lent (turning_stream p a lent)
  turning_one s few lent room = wrote_stream p range (turned_stream p range s) lent (turning_done p profile s few lent room)

  -- Turning a joined stream gives the two turned streams joined in the other order.
  pub turning_joined : {u v : List (List ℕ)} {a b : List ℕ} → Stream p u a → Stream p v b → length u + length v ≤ most_words
      → (one two three lent : List ℕ) → Room p (length u + length v) one → Room p (length v) two → Room p (length u) three
      → Room p (length u + length v) lent
      → SameStream p (turned_words (u ++ v)) lent (turning_stream p (cells_written (joining_streams p a b one)) lent)
      (joining_streams p (cells_written (turning_stream p b two)) (cells_written (turning_stream p a three)) lent)
  turning_joined {u} {v} s t few one two three lent room_one room_two room_three room =
      let ab = (joining_two s t few one room_one).stream in
      let turned_b = (turning_one t (omega arith) two room_two).stream in
      let turned_a = (turning_one s (omega arith) three room_three).stream in
      let words = length-append u v in
      let first_turned = length_turned_words u in
      let second_turned = length_turned_words v in
      let swapped : length (turned_words v) + length (turned_words u) ≡ length u + length v = omega arith in
      same_stream (turning_one ab (rw words few) lent (rw words room))
      (rw (← (turned_words-append u v)) at (joining_two turned_b turned_a (rw swapped few) lent (rw swapped room)))

module _ (p : Profile) (table : List ℕ) (ready : (carrying_refusal p table).number ≡ 0) where
  in_order : (profile_refusal p).number ≡ 0
  unfolding carrying_refusal
  in_order = (both_done _ _ ready).first

  -- A stream whose words carry messages reads as its bits, ..
  pub reading_one : {u : List (List ℕ)} {a : List ℕ} → Stream p u a → every (carries_message p) u ≡ true → length u ≤ most_words → (lent : List ℕ)
      → BitRoom p (length u) lent → ReadBits p (length u) (bits_read p a) lent (reading_stream p table a lent)
  reading_one s carry few lent room =
      record { read = reading_done p table ready s carry few lent room; count = read_count p (range p in_order) s }

  -- .. and two of them joined as the first's bits, then the second's.
  pub reading_joined : {u v : List (List ℕ)} {a b : List ℕ} → Stream p u a → Stream p v b → every (carries_message p) u ≡ true
      → every (carries_message p) v ≡ true → length u + length v ≤ most_words → (one lent : List ℕ) → Room p (length u + length v) one
      → BitRoom p (length u + length v) lent
      → ReadBits p (length u + length v) (bits_read p a ++ bits_read p b) lent (reading_stream p table (cells_written (joining_streams p a b one)) lent)
  reading_joined {u} {v} s t carry carry_too few one lent room bit_room =
      let ab = (joining_two p in_order s t few one room).stream in
      let words = length-append u v in
      let both : every (carries_message p) (u ++ v) ≡ true = rw (every_append, carry) carry_too in
      rw (words, read-append p (range p in_order) s t ab) at (reading_one ab both (rw words few) lent (rw words bit_room))
