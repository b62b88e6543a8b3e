-- Worked examples of the index of a word: examples 5, 6, 10 and 11 of document 01, and which number is given where several apply.
use Rattle.std.specs.Prelude.{◌≡◌, refl, List, [], ◌∷◌, ℕ}
use Rattle.limbs.specs.Limbs.{value, limbs_of, number_at}
use Rattle.replies.specs.declared.Reply.{Reply}
use Rattle.replies.specs.Replies.{done, refused, refused_at_first, or_else, outside_refusal, profile_refusal, profile_of}
use Rattle.patterns.specs.Pattern.{pattern_free}
use Rattle.listing.specs.Listing.{all_words, listed, count_of, before, index_in}
use Rattle.code.specs.Code.{legal, N, index}
use Rattle.cells.specs.Finding.{cell_refusal, pattern_refusal, cells_refusal}
use Rattle.tables.specs.Tables.{table_refusal, table_of, rows_below}
use Rattle.index_of_word.specs.declared.Indexed.{Indexed}
use Rattle.index_of_word.specs.Indexing.{word_refusal, indexing}

-- The index of a word of four levels, asked with the table of a reach.
abbrev asked : ℕ → ℕ → ℕ → List ℕ → Indexed
asked m x reach cells = indexing (profile_of 4 m x) (table_of (profile_of 4 m reach)) cells

abbrev answered : Reply → ℕ → Indexed
answered reply i = record { reply = reply; index = record { 0 = i ∷ 0 ∷ 0 ∷ 0 ∷ 0 ∷ 0 ∷ 0 ∷ 0 ∷ 0 ∷ 0 ∷ [] } }

pub record Examples : Type 0 where
  pub five : asked 5 1 1 (0 ∷ 1 ∷ 2 ∷ 3 ∷ 3 ∷ []) ≡ answered done 108
  pub six : asked 5 1 1 (1 ∷ 3 ∷ 0 ∷ 0 ∷ 1 ∷ []) ≡ answered done 416
  pub ten : asked 3 1 1 (3 ∷ 2 ∷ 3 ∷ []) ≡ answered (refused 11 0) 0
  pub eleven_reach_2 : asked 4 2 2 (3 ∷ 2 ∷ 2 ∷ 3 ∷ []) ≡ answered (refused 11 0) 0
  pub other_reach : asked 4 1 2 (9 ∷ []) ≡ answered (refused 6 4) 0
  pub too_short : asked 3 1 1 (9 ∷ 9 ∷ []) ≡ answered (refused 7 0) 0
  pub cell_before_pattern : asked 4 1 1 (3 ∷ 2 ∷ 3 ∷ 4 ∷ []) ≡ answered (refused 10 3) 0

pub examples : Examples
unfolding indexing word_refusal or_else refused_at_first profile_refusal outside_refusal table_refusal rows_below cells_refusal cell_refusal pattern_refusal
    N index legal index_in before count_of listed all_words pattern_free value limbs_of number_at
examples = record {
  five = refl;
  six = refl;
  ten = refl;
  eleven_reach_2 = refl;
  other_reach = refl;
  too_short = refl;
  cell_before_pattern = refl;
}
