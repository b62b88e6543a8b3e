-- What the functions under `write` find and leave: the tests of the bits, message k, and the stream of the first k messages.
use Rattle.std.specs.Prelude.{List, ◌++◌, map, ◌≡◌, ℕ, ◌*◌, ◌≤◌, take, drop}
use Rattle.messages.specs.Carrying.{CarriesMessages}
use Rattle.replies.specs.declared.Reply.{Reply}
use Rattle.replies.specs.declared.Profile.{Profile}
use Rattle.replies.specs.Replies.{or_else, room_refusal}
use Rattle.patterns.specs.Stream.{stream_of}
use Rattle.profiles.specs.Profiles.{patterns_of, length_of, stream_length}
use Rattle.bits.specs.Bits.{bits_of_bytes, messages_in, number_of}
use Rattle.write_stream.specs.Writing.{count_refusal, behind_refusal, messages_held, carrier}

-- 7, 8 and 9, for a lent output of so many cells.
abbrev pub bits_refusal : Profile → List ℕ → ℕ → ℕ → Reply
bits_refusal p bytes bits lent =
    or_else (count_refusal p bytes bits) (or_else (behind_refusal bytes bits) (room_refusal (stream_length p (messages_held p bits)) lent))

-- Message k of messages of s bits.
abbrev pub message_at : ℕ → List ℕ → ℕ → ℕ
message_at s bytes k = number_of (take s (drop (k * s) (bits_of_bytes bytes)))

-- The words that carry the first n messages of s bits.
abbrev pub carriers : Profile → ℕ → List ℕ → ℕ → List (List ℕ)
carriers p s bytes n = map (carrier p) (messages_in s n (bits_of_bytes bytes))

-- A lent list with the stream of the first n messages written from the front.
abbrev pub with_stream : Profile → ℕ → List ℕ → ℕ → List ℕ → List ℕ
with_stream p s bytes n lent = stream_of (patterns_of p) (carriers p s bytes n) ++ drop (stream_length p n) lent

-- What is known once numbers 1 to 6 do not apply: the profile carries messages of s bits, and the table belongs to it.
pub record Ready (p : Profile) (table : List ℕ) (s : ℕ) : Type 0 where
  pub carrying : CarriesMessages p table
  pub length : s ≡ length_of p

-- What is known once 7 and 9 do not apply: the bytes hold n messages of s bits, at most 256, and there is room for so many cells.
pub record Fitting (p : Profile) (s n bytes lent : ℕ) : Type 0 where
  pub few : n ≤ 256
  pub held : n * s ≤ 8 * bytes
  pub room : stream_length p n ≤ lent
