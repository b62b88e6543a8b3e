-- Worked examples of the outcome: examples 7 and 9 of document 01, no bits, and the refusals.
use Rattle.std.specs.Prelude.{◌≡◌, refl, List, [], ◌∷◌, ℕ, replicate}
use Rattle.limbs.specs.Limbs.{value, limbs_of, number_at}
use Rattle.messages.specs.Carrying.{message_refusal, carrying_refusal}
use Rattle.replies.specs.declared.Reply.{Reply}
use Rattle.replies.specs.Replies.{done, refused, refused_at_first, or_else, outside_refusal, profile_refusal, room_refusal, Outcome, writing_counted, profile_of}
use Rattle.patterns.specs.Pattern.{pattern_free}
use Rattle.patterns.specs.Stream.{bridge, stream_of}
use Rattle.listing.specs.Listing.{all_words, listed, count_of, word_of}
use Rattle.code.specs.Code.{legal, N, word}
use Rattle.code.specs.Messages.{message_length}
use Rattle.tables.specs.Tables.{table_refusal, table_of, rows_below}
use Rattle.bits.specs.Bits.{bits_of, number_of, bits_of_bytes, messages_in}
use Rattle.write_stream.specs.Writing.{count_refusal, behind_refusal, write_refusal, stream_written, writing_stream}

-- Bits written at reach 1 to so many cells of 9.
abbrev asked : ℕ → ℕ → List ℕ → ℕ → ℕ → Outcome
asked q m bytes bits cells = writing_stream (profile_of q m 1) (table_of (profile_of q m 1)) bytes bits (replicate cells 9)

abbrev answered : Reply → ℕ → List ℕ → Outcome
answered reply count lent = record { answer = record { reply = reply; count = count }; lent = lent }

pub record Outcomes : Type 0 where
  -- Messages 107 and 415 of nine bits are 001101011 and 110011111.
  pub seven : asked 4 5 (53 ∷ 231 ∷ 192 ∷ []) 18 11 ≡ answered done 11 (0 ∷ 1 ∷ 2 ∷ 3 ∷ 3 ∷ 0 ∷ 1 ∷ 3 ∷ 0 ∷ 0 ∷ 1 ∷ [])
  -- Messages 0 and 3 of two bits are 00 and 11.
  pub nine : asked 2 3 (48 ∷ []) 4 8 ≡ answered done 7 (0 ∷ 0 ∷ 1 ∷ 1 ∷ 1 ∷ 0 ∷ 0 ∷ 9 ∷ [])
  pub no_bits : asked 2 3 [] 0 2 ≡ answered done 0 (9 ∷ 9 ∷ [])
  -- A byte behind that of the last message bit is ignored.
  pub bytes_behind : asked 2 3 (0 ∷ 255 ∷ []) 2 3 ≡ answered done 3 (0 ∷ 0 ∷ 1 ∷ [])
  pub no_message : asked 3 1 [] 0 0 ≡ answered (refused 4 0) 0 []
  pub half_a_message : asked 2 3 (48 ∷ []) 3 8 ≡ answered (refused 7 0) 0 (replicate 8 9)
  pub byte_missing : asked 2 3 (48 ∷ []) 10 20 ≡ answered (refused 7 0) 0 (replicate 20 9)
  pub too_many_words : asked 2 3 (replicate 65 0) 514 0 ≡ answered (refused 7 0) 0 []
  -- 0011 0101, of which four bits are messages: the first 1 behind them decides, and not the room.
  pub bit_behind : asked 2 3 (53 ∷ []) 4 6 ≡ answered (refused 8 5) 0 (replicate 6 9)
  pub no_room : asked 2 3 (48 ∷ []) 4 6 ≡ answered (refused 9 0) 0 (replicate 6 9)

pub outcomes : Outcomes
unfolding writing_stream write_refusal stream_written count_refusal behind_refusal writing_counted or_else refused_at_first profile_refusal outside_refusal
    room_refusal carrying_refusal message_refusal table_refusal rows_below message_length word word_of N legal count_of listed all_words pattern_free
    stream_of bridge bits_of number_of bits_of_bytes messages_in value limbs_of number_at
outcomes = record {
  seven = refl;
  nine = refl;
  no_bits = refl;
  bytes_behind = refl;
  no_message = refl;
  half_a_message = refl;
  byte_missing = refl;
  too_many_words = refl;
  bit_behind = refl;
  no_room = refl;
}
