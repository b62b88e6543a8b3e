-- The twelve marked examples of document 01, as one table over the outcomes of the calls.
use Rattle.std.specs.Prelude.{◌≡◌, refl, List, [], ◌∷◌, ℕ, ◌*◌, replicate}
use Rattle.limbs.specs.Limbs.{value, limbs_of, number_at}
use Rattle.messages.specs.Carrying.{message_refusal, carrying_refusal}
use Rattle.replies.specs.declared.Reply.{Reply}
use Rattle.replies.specs.Replies.{done, refused, refused_at_first, or_else, outside_refusal, profile_refusal, room_refusal, Outcome, writing_counted, profile_of}
use Rattle.patterns.specs.Pattern.{pattern_free}
use Rattle.patterns.specs.Stream.{bridge, stream_of}
use Rattle.listing.specs.Listing.{all_words, listed, count_of, before, index_in, word_of}
use Rattle.code.specs.Code.{legal, N, index, word}
use Rattle.code.specs.Messages.{message_length}
use Rattle.cells.specs.Finding.{cell_refusal, pattern_refusal, cells_refusal}
use Rattle.tables.specs.Tables.{table_refusal, table_of, building, rows_below}
use Rattle.index_of_word.specs.declared.Indexed.{Indexed}
use Rattle.index_of_word.specs.Indexing.{word_refusal, indexing}
use Rattle.catalogue.specs.declared.Rated.{Rated}
use Rattle.catalogue.specs.Rating.{rate_refusal, rating}
use Rattle.bits.specs.Bits.{bits_of, number_of, bits_of_bytes, messages_in}
use Rattle.write_stream.specs.Writing.{count_refusal, behind_refusal, write_refusal, stream_written, writing_stream}
use Rattle.read_stream.specs.Reading.{read_refusal, reading_stream}

-- Row i of the table that is built.
abbrev row : ℕ → ℕ → ℕ → ℕ → ℕ
row q m x i = number_at 10 (building (profile_of q m x) (replicate 70 0)).lent (10 * i)

-- The index of a word, with the built table.
abbrev indexed : ℕ → ℕ → ℕ → List ℕ → Indexed
indexed q m x cells = indexing (profile_of q m x) (table_of (profile_of q m x)) cells

abbrev at : ℕ → Indexed
at i = record { reply = done; index = record { 0 = limbs_of 10 i } }

abbrev not_indexed : Reply → Indexed
not_indexed reply = record { reply = reply; index = record { 0 = limbs_of 10 0 } }

-- The rate of one word: s bits.
abbrev rated : ℕ → ℕ → ℕ → Rated
rated q m x = rating (profile_of q m x) (table_of (profile_of q m x)) 1

-- Bytes written as a stream, to as many cells as it has.
abbrev written : ℕ → ℕ → ℕ → List ℕ → ℕ → List ℕ → Outcome
written q m x bytes bits lent = writing_stream (profile_of q m x) (table_of (profile_of q m x)) bytes bits lent

abbrev answered : Reply → ℕ → List ℕ → Outcome
answered reply count lent = record { answer = record { reply = reply; count = count }; lent = lent }

pub record MarkedExamples : Type 0 where
  pub one : row 4 6 1 6 ≡ 3409
  pub two : row 4 6 2 6 ≡ 3031
  pub three : indexed 4 6 2 (0 ∷ 1 ∷ 1 ∷ 3 ∷ 0 ∷ 2 ∷ []) ≡ at 334
  pub four : indexed 4 6 2 (2 ∷ 0 ∷ 3 ∷ 3 ∷ 2 ∷ 0 ∷ []) ≡ at 1850
  pub five : indexed 4 5 1 (0 ∷ 1 ∷ 2 ∷ 3 ∷ 3 ∷ []) ≡ at 108
  pub six : indexed 4 5 1 (1 ∷ 3 ∷ 0 ∷ 0 ∷ 1 ∷ []) ≡ at 416
  -- 107 and 415 in nine bits each: 001101011 110011111.
  pub seven :
      written 4 5 1 (53 ∷ 231 ∷ 192 ∷ []) 18 (replicate 11 9) ≡ answered done 11 (0 ∷ 1 ∷ 2 ∷ 3 ∷ 3 ∷ 0 ∷ 1 ∷ 3 ∷ 0 ∷ 0 ∷ 1 ∷ [])
  pub eight_count : row 2 3 1 3 ≡ 7
  pub eight-length : rated 2 3 1 ≡ record { reply = done; bits = 2; cells = 4 }
  -- 0 and 3 in two bits each: 0011.
  pub nine : written 2 3 1 (48 ∷ []) 4 (replicate 7 9) ≡ answered done 7 (0 ∷ 0 ∷ 1 ∷ 1 ∷ 1 ∷ 0 ∷ 0 ∷ [])
  pub ten : indexed 4 3 1 (3 ∷ 2 ∷ 3 ∷ []) ≡ not_indexed (refused 11 0)
  pub eleven_reach_1 : (indexed 4 4 1 (3 ∷ 2 ∷ 2 ∷ 3 ∷ [])).reply ≡ done
  pub eleven_reach_2 : indexed 4 4 2 (3 ∷ 2 ∷ 2 ∷ 3 ∷ []) ≡ not_indexed (refused 11 0)
  pub twelve_three_levels : reading_stream (profile_of 3 1 1) (table_of (profile_of 3 1 1)) (1 ∷ []) (9 ∷ []) ≡ answered (refused 4 0) 0 (9 ∷ [])
  pub twelve_four_levels : rated 4 1 1 ≡ record { reply = done; bits = 1; cells = 2 }

pub marked_examples : MarkedExamples
unfolding building indexing word_refusal rating rate_refusal carrying_refusal message_refusal table_refusal rows_below writing_counted or_else refused_at_first profile_refusal
    outside_refusal room_refusal cells_refusal cell_refusal pattern_refusal writing_stream write_refusal count_refusal behind_refusal stream_written reading_stream read_refusal
    stream_of bridge bits_of number_of bits_of_bytes messages_in N index word legal message_length word_of index_in count_of listed all_words before pattern_free value limbs_of number_at
marked_examples = record {
  one = refl;
  two = refl;
  three = refl;
  four = refl;
  five = refl;
  six = refl;
  seven = refl;
  eight_count = refl;
  eight-length = refl;
  nine = refl;
  ten = refl;
  eleven_reach_1 = refl;
  eleven_reach_2 = refl;
  twelve_three_levels = refl;
  twelve_four_levels = refl;
}
