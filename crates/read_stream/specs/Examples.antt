-- Worked examples of the outcome of reading a stream.
use Rattle.std.specs.Prelude.{◌≡◌, refl, List, [], ◌∷◌, ℕ}
use Rattle.limbs.specs.Limbs.{value, limbs_of, number_at}
use Rattle.messages.specs.Carrying.{message_refusal, carrying_refusal}
use Rattle.replies.specs.declared.Reply.{Reply}
use Rattle.replies.specs.Replies.{done, refused, refused_at_first, or_else, moved_by, lowest, outside_refusal, profile_refusal, room_refusal, Outcome, writing_counted, profile_of}
use Rattle.patterns.specs.Pattern.{pattern_free}
use Rattle.patterns.specs.Stream.{bridge}
use Rattle.listing.specs.Listing.{all_words, listed, count_of, before, index_in}
use Rattle.code.specs.Code.{legal, N, index}
use Rattle.code.specs.Messages.{message_length}
use Rattle.cells.specs.Finding.{cell_refusal, pattern_refusal}
use Rattle.tables.specs.Tables.{table_refusal, table_of, rows_below}
use Rattle.bits.specs.Bits.{bits_of, number_of, packed_into, bits_of_messages}
use Rattle.streams.specs.Streams.{words_in, fit_refusal, first_words, bridge_refusal, part_refusal, throughout, stream_refusal}
use Rattle.read_stream.specs.Reading.{silent_refusal, silence_refusal, read_refusal, bits_read, reading_stream}

-- Reading where q = 2, m = 3 and x = 1. There are seven words, and messages have two bits.
abbrev asked : List ℕ → List ℕ → Outcome
asked cells lent = reading_stream (profile_of 2 3 1) (table_of (profile_of 2 3 1)) cells lent

abbrev answered : Reply → ℕ → List ℕ → Outcome
answered reply count lent = record { answer = record { reply = reply; count = count }; lent = lent }

pub record Outcomes : Type 0 where
  -- Messages 0 and 3 are the bits 0011, with zero bits to the end of the byte.
  pub two_messages : asked (0 ∷ 0 ∷ 1 ∷ 1 ∷ 1 ∷ 0 ∷ 0 ∷ []) (9 ∷ 9 ∷ []) ≡ answered done 4 (48 ∷ 9 ∷ [])
  pub no_word : asked [] [] ≡ answered done 0 []
  -- The first word is above 2^s, but 14 applies further on.
  pub lowest_number : asked (1 ∷ 1 ∷ 0 ∷ 0 ∷ 0 ∷ 0 ∷ 0 ∷ []) (9 ∷ []) ≡ answered (refused 14 4) 0 (9 ∷ [])
  -- The word of all top is above 2^s, so 16 is never given.
  pub all_top : asked (1 ∷ 1 ∷ 1 ∷ []) (9 ∷ []) ≡ answered (refused 15 0) 0 (9 ∷ [])
  pub wrong_bridge : asked (0 ∷ 0 ∷ 1 ∷ 0 ∷ 1 ∷ 0 ∷ 0 ∷ []) (9 ∷ []) ≡ answered (refused 13 3) 0 (9 ∷ [])
  pub no_room : asked (0 ∷ 0 ∷ 0 ∷ []) [] ≡ answered (refused 9 0) 0 []
  pub no_stream : asked (0 ∷ 0 ∷ 1 ∷ 1 ∷ []) [] ≡ answered (refused 7 0) 0 []
  -- A table of another reach: rows 0 to 3 agree, row 4 does not.
  pub other_reach :
      reading_stream (profile_of 2 4 1) (table_of (profile_of 2 4 2)) (0 ∷ 0 ∷ 0 ∷ 1 ∷ []) (9 ∷ []) ≡ answered (refused 6 4) 0 (9 ∷ [])

pub outcomes : Outcomes
unfolding reading_stream read_refusal stream_refusal silence_refusal silent_refusal bits_read writing_counted or_else moved_by lowest profile_refusal outside_refusal room_refusal
    carrying_refusal message_refusal table_refusal refused_at_first rows_below fit_refusal words_in first_words throughout part_refusal bridge_refusal bridge
    cell_refusal pattern_refusal message_length index index_in N legal count_of listed all_words before pattern_free value limbs_of number_at bits_of number_of
    packed_into bits_of_messages
outcomes = record {
  two_messages = refl;
  no_word = refl;
  lowest_number = refl;
  all_top = refl;
  wrong_bridge = refl;
  no_room = refl;
  no_stream = refl;
  other_reach = refl;
}
