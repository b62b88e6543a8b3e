-- Worked examples of the definitions.
use Rattle.std.specs.Prelude.{◌≡◌, refl, List, [], ◌∷◌, ℕ}
use Rattle.limbs.specs.Limbs.{value, limbs_of, number_at}
use Rattle.replies.specs.declared.Reply.{Reply}
use Rattle.replies.specs.Replies.{done, refused, refused_at_first, or_else, outside_refusal, profile_refusal, room_refusal, Outcome, writing_counted, profile_of}
use Rattle.patterns.specs.Pattern.{pattern_free}
use Rattle.patterns.specs.Walk.{walk}
use Rattle.listing.specs.Listing.{all_words, listed, count_of, word_of}
use Rattle.code.specs.Code.{legal, N, word}
use Rattle.code.specs.Stretches.{following}
use Rattle.division.specs.Division.{times_in, left_over}
use Rattle.tables.specs.Tables.{table_refusal, table_of, rows_below}
use Rattle.word_of_index.specs.Spelling.{index_refusal, spelling}
use Rattle.word_of_index.specs.Tasks.{word_behind, weight_behind, level_of, left_by}

-- The word of an index where q = 2, m = 3 and x = 1. There are seven words.
abbrev asked : ℕ → List ℕ → Outcome
asked i lent = spelling (profile_of 2 3 1) (table_of (profile_of 2 3 1)) (record { 0 = limbs_of 10 i }) lent

abbrev answered : Reply → ℕ → List ℕ → Outcome
answered reply count lent = record { answer = record { reply = reply; count = count }; lent = lent }

pub record Outcomes : Type 0 where
  pub first : asked 0 (9 ∷ 9 ∷ 9 ∷ 9 ∷ []) ≡ answered done 3 (0 ∷ 0 ∷ 0 ∷ 9 ∷ [])
  pub last : asked 6 (9 ∷ 9 ∷ 9 ∷ 9 ∷ []) ≡ answered done 3 (1 ∷ 1 ∷ 1 ∷ 9 ∷ [])
  pub no_eighth : asked 7 (9 ∷ 9 ∷ 9 ∷ []) ≡ answered (refused 12 0) 0 (9 ∷ 9 ∷ 9 ∷ [])
  pub no_room : asked 7 (9 ∷ 9 ∷ []) ≡ answered (refused 9 0) 0 (9 ∷ 9 ∷ [])

pub outcomes : Outcomes
unfolding spelling index_refusal writing_counted or_else profile_refusal outside_refusal room_refusal table_refusal refused_at_first rows_below
    word word_of N legal count_of listed all_words pattern_free value limbs_of number_at
outcomes = record { first = refl; last = refl; no_eighth = refl; no_room = refl }

pub record Cells : Type 0 where
  -- With three cells on its right a cell of four levels weighs 61, not 64, even in an open stretch.
  pub open_weight : weight_behind (profile_of 4 5 1) 0 3 ≡ 61
  -- Right behind a top, where a cell is below top, so is the one on its right.
  pub guarded_weight : weight_behind (profile_of 4 5 1) 2 1 ≡ 3
  -- There the weight can go in q times, and the level is still at most top.
  pub level_at_most_top : level_of (profile_of 2 3 1) 2 2 2 ≡ 1
  pub left_by_top : left_by (profile_of 2 3 1) 2 2 2 ≡ 1
  pub behind_a_top : word_behind (profile_of 2 3 1) 2 2 1 ≡ 1 ∷ 0 ∷ []

pub cells : Cells
unfolding weight_behind word_behind following walk word_of count_of listed all_words times_in left_over
cells = record { open_weight = refl; guarded_weight = refl; level_at_most_top = refl; left_by_top = refl; behind_a_top = refl }
