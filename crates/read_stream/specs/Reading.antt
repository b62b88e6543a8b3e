-- The outcome of reading a stream back to bits.
use Rattle.std.specs.Prelude.{List, map, ℕ, ◌-◌, ◌*◌, ◌^◌, ltb, eqb, length, take}
use Rattle.messages.specs.Carrying.{carrying_refusal}
use Rattle.replies.specs.declared.Reply.{Reply}
use Rattle.replies.specs.declared.Profile.{Profile}
use Rattle.replies.specs.Replies.{refused_if, or_else, room_refusal, Outcome, writing_counted}
use Rattle.numbers.specs.Step.{message_of}
use Rattle.listing.specs.Every.{every}
use Rattle.profiles.specs.Profiles.{length_of, index_for}
use Rattle.bits.specs.Bits.{bytes_for, packed, bits_of_messages}
use Rattle.streams.specs.Streams.{words_in, fit_refusal, words_of, throughout, stream_refusal}

-- 14: a word of all 0. 15: an index above 2^s. 16: a word of all top. Each at the word's first cell.
unfoldable pub silent_refusal : Profile → List ℕ → Reply
silent_refusal p w =
    or_else (refused_if (every (λ c. eqb c 0) w) 14)
    (or_else (refused_if (ltb (2 ^ length_of p) (index_for p w)) 15) (refused_if (every (λ c. eqb c (p.q - 1)) w) 16))

-- 14, 15, 16 of the word that a part of a stream begins with, and of all words of a stream.
abbrev pub silent_first : Profile → List ℕ → Reply
silent_first p part = silent_refusal p (take p.m part)

unfoldable pub silence_refusal : Profile → List ℕ → Reply
silence_refusal p cells = throughout p (silent_first p) (words_in p (length cells)) 0 cells

-- How many bits a stream of so many cells reads as.
abbrev pub bits_in : Profile → ℕ → ℕ
bits_in p cells = words_in p cells * length_of p

-- The tests, in the order of their numbers: profile, message length, table, length, room for the bytes, cells and bridges, silent words.
unfoldable pub read_refusal : Profile → List ℕ → List ℕ → List ℕ → Reply
read_refusal p table cells lent =
    or_else (carrying_refusal p table)
    (or_else (fit_refusal p (length cells))
    (or_else (room_refusal (bytes_for (bits_in p (length cells))) (length lent)) (or_else (stream_refusal p cells) (silence_refusal p cells))))

-- The bits of the messages that the words carry: the message of a word is its index less one.
unfoldable pub bits_read : Profile → List ℕ → List ℕ
bits_read p cells = bits_of_messages (length_of p) (map (λ w. message_of (index_for p w)) (words_of p cells))

-- They are packed into bytes, with zero bits to the end of the last byte, and counted.
unfoldable pub reading_stream : Profile → List ℕ → List ℕ → List ℕ → Outcome
reading_stream p table cells lent =
    writing_counted (read_refusal p table cells lent) (bits_in p (length cells)) (packed (bits_read p cells)) lent
