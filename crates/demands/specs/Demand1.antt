-- Demand 1 over streams: each refusal is given exactly when document 01 says, and changes nothing that was lent. The definitions of the outcomes
-- put the tests in the order of their numbers; what the cells of a stream are refused for is said by `lowest_first` of the crate `streams`.
use Rattle.std.specs.Prelude.{◌≡◌, refl, ◌↔◌, List, ◌++◌, ℕ, ◌+◌, ◌≤◌, ◌<◌}
use Rattle.std.proofs.Common.{sym, ◌∙◌, arith}
use borrow.Author.Tests.{ne_eqb}
use Rattle.limbs.specs.Limbs.{limbs_of}
use Rattle.messages.specs.Carrying.{message_refusal, carrying_refusal}
use Rattle.messages.specs.LengthLaws.{number_four}
use Rattle.numbers.specs.declared.Index.{Index}
use Rattle.replies.specs.declared.Reply.{Reply}
use Rattle.replies.specs.declared.Profile.{Profile}
use Rattle.replies.specs.Replies.{profile_of, done, refused, or_else, writing_counted, profile_refusal}
use Rattle.replies.specs.ReplyLaws.{range_not_refused}
use Rattle.replies.specs.Ranges.{Between, InRange, most_words}
use Rattle.profiles.specs.Profiles.{stream_length}
use Rattle.tables.specs.Tables.{table_of, table_refusal}
use Rattle.tables.specs.OtherReach.{longer_reach_refused, shorter_reach_refused}
use Rattle.index_of_word.specs.Indexing.{indexing, word_refusal}
use Rattle.word_of_index.specs.Spelling.{spelling, index_refusal}
use Rattle.catalogue.specs.Rating.{rating, rate_refusal}
use Rattle.streams.specs.Streams.{words_in, fit_refusal, both_fit_refusal}
use Rattle.streams.specs.FitLaws.{words_of-length, not_refused_fits, not_refused_both_fit, fits_not_refused, both_fit_not_refused, length_fits}
use Rattle.write_stream.specs.Writing.{write_refusal, writing_stream}
use Rattle.read_stream.specs.Reading.{read_refusal, reading_stream}
use Rattle.join_streams.specs.Joining.{join_refusal, joining_streams, turn_refusal, turning_stream}
use Rattle.demands.specs.Outcomes.{nothing}

nothing_written : (refusal : Reply) (count : ℕ) (content lent : List ℕ) → (refusal.number ≡ 0 → ⊥) → writing_counted refusal count content lent ≡ nothing refusal lent
unfolding writing_counted
nothing_written refusal count content lent some = rw (ne_eqb refusal.number 0 some)

-- A refusal of writing, reading, joining or turning writes nothing.
pub refused_write : (p : Profile) (table bytes : List ℕ) (bits : ℕ) (lent : List ℕ) → ((write_refusal p table bytes bits lent).number ≡ 0 → ⊥)
    → writing_stream p table bytes bits lent ≡ nothing (write_refusal p table bytes bits lent) lent
unfolding writing_stream
refused_write p table bytes bits lent = nothing_written _ _ _ lent

pub refused_read : (p : Profile) (table cells lent : List ℕ) → ((read_refusal p table cells lent).number ≡ 0 → ⊥)
    → reading_stream p table cells lent ≡ nothing (read_refusal p table cells lent) lent
unfolding reading_stream
refused_read p table cells lent = nothing_written _ _ _ lent

pub refused_join : (p : Profile) (a b lent : List ℕ) → ((join_refusal p a b lent).number ≡ 0 → ⊥)
    → joining_streams p a b lent ≡ nothing (join_refusal p a b lent) lent
unfolding joining_streams
refused_join p a b lent = nothing_written _ _ _ lent

pub refused_turn : (p : Profile) (cells lent : List ℕ) → ((turn_refusal p cells lent).number ≡ 0 → ⊥)
    → turning_stream p cells lent ≡ nothing (turn_refusal p cells lent) lent
unfolding turning_stream
refused_turn p cells lent = nothing_written _ _ _ lent

-- 7 is not given exactly where some number of words, at most 256, has that many cells; for two streams, at most 256 together.
pub fits_exactly : (p : Profile) → InRange p → (cells : ℕ) → (fit_refusal p cells ≡ done) ↔ ((n : ℕ) × (n ≤ most_words) × (cells ≡ stream_length p n))
fits_exactly p range cells = (
  λ e. let f = not_refused_fits p cells (sym e) refl in (words_in p cells, f.few, f.exact),
  λ s. rw s.2 (fits_not_refused p _ (length_fits p s.0 range s.1)),
)

pub both_fit_exactly : (p : Profile) → InRange p → (a b : ℕ)
    → (both_fit_refusal p a b ≡ done) ↔ ((n : ℕ) × (k : ℕ) × (n + k ≤ most_words) × (a ≡ stream_length p n) × (b ≡ stream_length p k))
both_fit_exactly p range a b = (
  λ e. let f = not_refused_both_fit p a b (sym e) refl in (words_in p a, words_in p b, f.few, f.first, f.second),
  λ s. let e = words_of-length p s.0 range in
      let f = words_of-length p s.1 range in
      rw (s.3, s.4) (both_fit_not_refused p _ _ (record { first = rw e refl; second = rw f refl; few = rw (e, f) s.2 })),
)

-- A table that is refused, with 5 or 6, is refused before a cell is read or written with it, whatever is handed in beside it: by index and word of an
-- index for every profile in range, by writing, reading and rate for every one that has messages.
module _ (p : Profile) (range : InRange p) (table : List ℕ) {refusal : Reply} (wrong : table_refusal p table ≡ refusal) (some : refusal.number ≡ 0 → ⊥) where
  in_order : profile_refusal p ≡ done
  in_order = range_not_refused p range

  pub wrong_table_not_indexed : (cells : List ℕ) → indexing p table cells ≡ record { reply = refusal; index = record { 0 = limbs_of 10 0 } }
  unfolding indexing word_refusal or_else
  wrong_table_not_indexed cells = rw (in_order, wrong, ne_eqb refusal.number 0 some, ne_eqb refusal.number 0 some)

  pub wrong_table_not_spelt : (i : Index) (lent : List ℕ) → spelling p table i lent ≡ nothing refusal lent
  unfolding spelling index_refusal writing_counted or_else
  wrong_table_not_spelt i lent = rw (in_order, wrong, ne_eqb refusal.number 0 some, ne_eqb refusal.number 0 some)

  module _ (messages : message_refusal p ≡ done) where
    table_decides : carrying_refusal p table ≡ refusal
    unfolding carrying_refusal or_else
    table_decides = rw (in_order, messages, wrong)

    pub wrong_table_not_written : (bytes : List ℕ) (bits : ℕ) (lent : List ℕ) → writing_stream p table bytes bits lent ≡ nothing refusal lent
    unfolding writing_stream write_refusal writing_counted or_else
    wrong_table_not_written bytes bits lent = rw (table_decides, ne_eqb refusal.number 0 some, ne_eqb refusal.number 0 some)

    pub wrong_table_not_read : (cells lent : List ℕ) → reading_stream p table cells lent ≡ nothing refusal lent
    unfolding reading_stream read_refusal writing_counted or_else
    wrong_table_not_read cells lent = rw (table_decides, ne_eqb refusal.number 0 some, ne_eqb refusal.number 0 some)

    pub wrong_table_not_rated : (n : ℕ) → rating p table n ≡ record { reply = refusal; bits = 0; cells = 0 }
    unfolding rating rate_refusal or_else
    wrong_table_not_rated n = rw (table_decides, ne_eqb refusal.number 0 some, ne_eqb refusal.number 0 some)

-- Words of two cells or more carry messages.
messages_in_lem : (p : Profile) → InRange p → 1 < p.m → message_refusal p ≡ done
messages_in_lem p range long = number_four p range ∙ rw (ne_eqb p.m 1 (λ one. omega arith))

-- So the table of another reach, with anything behind it, is refused three rows behind the lesser reach, and not a bit is given.
module _ (p : Profile) (range : InRange p) (y : ℕ) (reach : Between 1 8 y) (rest cells lent : List ℕ) where
  pub longer_reach_not_read : p.x < y → p.x + 3 ≤ p.m
      → reading_stream p (table_of (profile_of p.q p.m y) ++ rest) cells lent ≡ nothing (refused 6 (p.x + 3)) lent
  longer_reach_not_read other long =
      wrong_table_not_read p range _ (longer_reach_refused p range y reach rest other long) (λ e. omega arith) (messages_in_lem p range (omega arith)) cells lent

  pub shorter_reach_not_read : y < p.x → y + 3 ≤ p.m
      → reading_stream p (table_of (profile_of p.q p.m y) ++ rest) cells lent ≡ nothing (refused 6 (y + 3)) lent
  shorter_reach_not_read other long =
      wrong_table_not_read p range _ (shorter_reach_refused p range y reach rest other long) (λ e. omega arith) (messages_in_lem p range (omega arith)) cells lent
