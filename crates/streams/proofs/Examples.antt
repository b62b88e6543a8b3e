-- Worked examples of the definitions.
use Rattle.std.specs.Prelude.{◌≡◌, refl, List, [], ◌∷◌, ℕ}
use Rattle.replies.specs.declared.Reply.{Reply}
use Rattle.replies.specs.Replies.{done, refused, refused_at_first, or_else, moved_by, lowest, profile_of}
use Rattle.patterns.specs.Stream.{bridge}
use Rattle.profiles.specs.Profiles.{stream_length}
use Rattle.cells.specs.Finding.{cell_refusal, pattern_refusal}
use Rattle.streams.specs.Streams.{words_in, fit_refusal, both_fit_refusal, bridge_refusal, part_refusal, throughout, stream_refusal}

-- Words of three cells of two levels with reach 1; words of one cell, of two levels and of four.
abbrev threes : List ℕ → Reply
threes = stream_refusal (profile_of 2 3 1)

abbrev ones : List ℕ → Reply
ones = stream_refusal (profile_of 2 1 1)

abbrev fours : List ℕ → Reply
fours = stream_refusal (profile_of 4 1 1)

pub record Examples : Type 0 where
  pub no_words : stream_length (profile_of 2 3 1) 0 ≡ 0
  pub two_words : stream_length (profile_of 2 3 1) 2 ≡ 7
  pub words_of_seven_cells : words_in (profile_of 2 3 1) 7 ≡ 2
  pub no_cells_fit : fit_refusal (profile_of 2 3 1) 0 ≡ done
  pub seven_cells_fit : fit_refusal (profile_of 2 3 1) 7 ≡ done
  pub bridge_after_the_last_word : fit_refusal (profile_of 2 3 1) 8 ≡ refused 7 0
  pub most_words_lem : fit_refusal (profile_of 2 3 1) 1023 ≡ done
  pub too_many_words : fit_refusal (profile_of 2 3 1) 1027 ≡ refused 7 0
  pub most_words_together : both_fit_refusal (profile_of 2 3 1) 511 511 ≡ done
  pub too_many_words_together : both_fit_refusal (profile_of 2 3 1) 511 515 ≡ refused 7 0
  pub no_cells : threes [] ≡ done
  pub bridge_of_top_between_tops : threes (0 ∷ 0 ∷ 1 ∷ 1 ∷ 1 ∷ 0 ∷ 0 ∷ []) ≡ done
  pub bridge_that_makes_a_pattern : bridge_refusal (profile_of 2 3 1) (0 ∷ 0 ∷ 1 ∷ 0 ∷ 1 ∷ 0 ∷ 0 ∷ []) ≡ refused 13 3
  pub pattern_before_its_bridge : part_refusal (profile_of 2 3 1) (1 ∷ 0 ∷ 1 ∷ 0 ∷ 1 ∷ 0 ∷ 0 ∷ []) ≡ refused 11 0
  pub top_beside_one_top : ones (1 ∷ 1 ∷ 0 ∷ []) ≡ refused 13 1
  pub zero_between_tops : ones (1 ∷ 0 ∷ 1 ∷ []) ≡ refused 13 1
  pub all_top : ones (1 ∷ 1 ∷ 1 ∷ []) ≡ done
  pub level_between_zeros : fours (0 ∷ 2 ∷ 0 ∷ []) ≡ refused 13 1
  pub level_between_tops : fours (3 ∷ 2 ∷ 3 ∷ []) ≡ refused 13 1
  pub bridge_as_one_thing : stream_refusal (profile_of 2 1 2) (1 ∷ 1 ∷ 0 ∷ 1 ∷ []) ≡ refused 13 2
  pub place_in_a_later_word : threes (0 ∷ 0 ∷ 0 ∷ 0 ∷ 1 ∷ 0 ∷ 1 ∷ []) ≡ refused 11 4
  pub later_pattern_before_a_bridge : threes (0 ∷ 0 ∷ 1 ∷ 0 ∷ 1 ∷ 0 ∷ 1 ∷ []) ≡ refused 11 4
  pub later_cell_before_a_pattern : threes (1 ∷ 0 ∷ 1 ∷ 0 ∷ 0 ∷ 0 ∷ 0 ∷ 2 ∷ 0 ∷ 0 ∷ 0 ∷ []) ≡ refused 10 7

pub examples : Examples
unfolding words_in fit_refusal both_fit_refusal bridge_refusal part_refusal throughout stream_refusal cell_refusal pattern_refusal bridge refused_at_first or_else moved_by lowest
examples = record {
  no_words = refl;
  two_words = refl;
  words_of_seven_cells = refl;
  no_cells_fit = refl;
  seven_cells_fit = refl;
  bridge_after_the_last_word = refl;
  most_words_lem = refl;
  too_many_words = refl;
  most_words_together = refl;
  too_many_words_together = refl;
  no_cells = refl;
  bridge_of_top_between_tops = refl;
  bridge_that_makes_a_pattern = refl;
  pattern_before_its_bridge = refl;
  top_beside_one_top = refl;
  zero_between_tops = refl;
  all_top = refl;
  level_between_zeros = refl;
  level_between_tops = refl;
  bridge_as_one_thing = refl;
  place_in_a_later_word = refl;
  later_pattern_before_a_bridge = refl;
  later_cell_before_a_pattern = refl;
}
