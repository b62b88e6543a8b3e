-- The words in which the demands speak: what a refusal leaves, what a call that is done wrote and left, and which words carry a message.
use Rattle.std.specs.Prelude.{◌≡◌, Bool, true, List, [], ◌++◌, map, ℕ, ◌*◌, ◌≤◌, length, take, drop, get_or}
use Rattle.replies.specs.declared.Profile.{Profile}
use Rattle.replies.specs.declared.Reply.{Reply}
use Rattle.replies.specs.Replies.{done, is_done, Outcome}
use Rattle.numbers.specs.Step.{message_of, index_of}
use Rattle.listing.specs.Every.{every}
use Rattle.profiles.specs.Profiles.{length_of, stream_length, is_legal, index_for, OneFor}
use Rattle.bits.specs.Bits.{bytes_for, packed}
use Rattle.streams.specs.Streams.{Stream, words_of}
use Rattle.write_stream.specs.Writing.{messages_held, messages_of, carrier}
use Rattle.read_stream.specs.Reading.{silent_refusal, bits_read}
use Rattle.join_streams.specs.Joining.{joining_streams}

-- A call is done: its reply is number 0.
abbrev pub Done : Outcome → Type 0
Done outcome = outcome.answer.reply.number ≡ 0

-- Refused: nothing is counted, and the lent list is as it was.
abbrev pub nothing : Reply → List ℕ → Outcome
nothing reply lent = record { answer = record { reply = reply; count = 0 }; lent = lent }

-- Done: so much is counted, the content stands in the lent list from the front, and behind it the list is as it was.
abbrev pub done_with : ℕ → List ℕ → List ℕ → Outcome
done_with count content lent = record { answer = record { reply = done; count = count }; lent = content ++ drop (length content) lent }

-- The cells that a call wrote: as many as it counts, from the front of the lent list as it left it.
abbrev pub cells_written : Outcome → List ℕ
cells_written outcome = take outcome.answer.count outcome.lent

-- A word carries a message: it gets none of 14, 15, 16.
abbrev pub carries_message : Profile → List ℕ → Bool
carries_message p w = is_done (silent_refusal p w)

-- The message that it carries: its index less one.
abbrev pub message_carried : Profile → List ℕ → ℕ
message_carried p w = message_of (index_for p w)

-- Room for the cells of n words with their bridges.
abbrev pub Room : Profile → ℕ → List ℕ → Type 0
Room p n lent = stream_length p n ≤ length lent

-- A call is done: it wrote the stream of these words, pattern-free throughout, and left the rest of what was lent as it was.
pub record WroteStream (p : Profile) (words : List (List ℕ)) (lent : List ℕ) (outcome : Outcome) : Type 0 where
  pub wrote : outcome ≡ done_with (length (cells_written outcome)) (cells_written outcome) lent
  pub stream : Stream p words (cells_written outcome)
  pub free : is_legal p (cells_written outcome) ≡ true

-- Room for the bits of n messages.
abbrev pub BitRoom : Profile → ℕ → List ℕ → Type 0
BitRoom p n lent = bytes_for (n * length_of p) ≤ length lent

-- A call is done: it read n messages, which are these bits, packed from the front, and left the rest of what was lent as it was.
pub record ReadBits (p : Profile) (n : ℕ) (bits lent : List ℕ) (outcome : Outcome) : Type 0 where
  pub read : outcome ≡ done_with (length bits) (packed bits) lent
  pub count : length bits ≡ n * length_of p

-- The messages are written: the stream of the words that carry them, each the one legal word of its message's index. For n messages of s bits these
-- are n words with their bridges.
pub record WroteMessages (p : Profile) (bytes : List ℕ) (bits : ℕ) (lent : List ℕ) (outcome : Outcome) : Type 0 where
  pub wrote : WroteStream p (map (carrier p) (messages_of p bytes bits)) lent outcome
  pub each : (i : ℕ) → OneFor p (index_of (get_or (messages_of p bytes bits) i 0))
  pub carry : every (carries_message p) (map (carrier p) (messages_of p bytes bits)) ≡ true
  pub bits_counted : bits ≡ messages_held p bits * length_of p
  pub cells_counted : outcome.answer.count ≡ stream_length p (messages_held p bits)

-- A stream is read: its words carry messages, and for n words these are n s bits.
pub record ReadMessages (p : Profile) (cells lent : List ℕ) (outcome : Outcome) : Type 0 where
  pub stream : Stream p (words_of p cells) cells
  pub carry : every (carries_message p) (words_of p cells) ≡ true
  pub read : ReadBits p (length (words_of p cells)) (bits_read p cells) lent outcome

-- Two calls have the same outcome, and it is that the stream of these words is written.
pub record SameStream (p : Profile) (words : List (List ℕ)) (lent : List ℕ) (first second : Outcome) : Type 0 where
  pub same : first ≡ second
  pub wrote : WroteStream p words lent first

-- A stream joined with an empty one before it, and behind it, is the stream itself.
pub record AddsNothing (p : Profile) (cells lent : List ℕ) : Type 0 where
  pub before : joining_streams p [] cells lent ≡ done_with (length cells) cells lent
  pub behind : joining_streams p cells [] lent ≡ done_with (length cells) cells lent
