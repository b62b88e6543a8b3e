-- The outcome of writing message bits as a stream.
use Rattle.std.specs.Prelude.{not, ◌&&◌, ◌||◌, List, map, ℕ, ◌*◌, ◌/◌, ◌%◌, ltb, leb, eqb, length, take, get_or}
use Rattle.messages.specs.Carrying.{carrying_refusal}
use Rattle.replies.specs.declared.Reply.{Reply}
use Rattle.replies.specs.declared.Profile.{Profile}
use Rattle.replies.specs.Replies.{refused_if, refused_at_first, or_else, room_refusal, Outcome, writing}
use Rattle.replies.specs.Ranges.{most_words}
use Rattle.numbers.specs.Step.{index_of}
use Rattle.patterns.specs.Stream.{stream_of}
use Rattle.profiles.specs.Profiles.{patterns_of, length_of, stream_length, word_for}
use Rattle.bits.specs.Bits.{bits_of_bytes, bytes_for, messages_in}

-- 7: a bit count that is no multiple of s, that is over 256 words, or whose bytes are not all there.
unfoldable pub count_refusal : Profile → List ℕ → ℕ → Reply
count_refusal p bytes bits =
    refused_if (not (eqb (bits % length_of p) 0) || (ltb (most_words * length_of p) bits || ltb (length bytes) (bytes_for bits))) 7

-- 8: a bit after the last message bit, in the same byte, is 1, at its bit place.
unfoldable pub behind_refusal : List ℕ → ℕ → Reply
behind_refusal bytes bits = refused_at_first (λ i. leb bits i && eqb (get_or (bits_of_bytes bytes) i 0) 1) (8 * bytes_for bits) 8

-- How many messages the bits hold, and the messages, each a number of s bits.
abbrev pub messages_held : Profile → ℕ → ℕ
messages_held p bits = bits / length_of p

abbrev pub messages_of : Profile → List ℕ → ℕ → List ℕ
messages_of p bytes bits = messages_in (length_of p) (messages_held p bits) (take bits (bits_of_bytes bytes))

-- The tests, in the order of their numbers: profile, message length, table, bit count, bits behind the last, room for the stream.
unfoldable pub write_refusal : Profile → List ℕ → List ℕ → ℕ → List ℕ → Reply
write_refusal p table bytes bits lent =
    or_else (carrying_refusal p table)
    (or_else (count_refusal p bytes bits) (or_else (behind_refusal bytes bits) (room_refusal (stream_length p (messages_held p bits)) (length lent))))

-- The word that carries a message: that of the message's index.
abbrev pub carrier : Profile → ℕ → List ℕ
carrier p message = word_for p (index_of message)

-- The stream of the words that carry the messages, with the published bridges.
unfoldable pub stream_written : Profile → List ℕ → ℕ → List ℕ
stream_written p bytes bits = stream_of (patterns_of p) (map (carrier p) (messages_of p bytes bits))

unfoldable pub writing_stream : Profile → List ℕ → List ℕ → ℕ → List ℕ → Outcome
writing_stream p table bytes bits lent = writing (write_refusal p table bytes bits lent) (stream_written p bytes bits) lent
