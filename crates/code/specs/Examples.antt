-- Figures of document 01 and of the source. Where nothing else is said, each is computed by listing words.
use Rattle.std.specs.Prelude.{◌≡◌, refl, [], ◌∷◌, ◌-◌}
use Rattle.patterns.specs.Pattern.{pattern_free}
use Rattle.listing.specs.Listing.{all_words, listed, count_of}
use Rattle.code.specs.Code.{legal, N}
use Rattle.code.specs.Formulas.{counts_down_from, count_by_recursion, weight, weighted_from, index_by_weights}
use Rattle.code.specs.Messages.{words_kept_out, largest_power, message_length}

pub record Figures : Type 0 where
  -- A place with three cells to its right weighs 61, not 64, even with no top before it.
  pub three_to_the_right : weight 4 1 0 3 ≡ 61
  -- The cell at distance x from a top is weighed with g = 1.
  pub at_distance_x : index_by_weights 4 1 (3 ∷ 2 ∷ 1 ∷ []) ≡ 55
  pub three_by_weights : index_by_weights 4 2 (0 ∷ 1 ∷ 1 ∷ 3 ∷ 0 ∷ 2 ∷ []) ≡ 334
  pub four_by_weights : index_by_weights 4 2 (2 ∷ 0 ∷ 3 ∷ 3 ∷ 2 ∷ 0 ∷ []) ≡ 1850
  -- The counts of the source's examples 1 and 2, and N(9) with its s, by the recursion.
  pub reach_1 : counts_down_from 4 1 6 ≡ 3409 ∷ 889 ∷ 232 ∷ 61 ∷ 16 ∷ 4 ∷ 1 ∷ []
  pub reach_2 : counts_down_from 4 2 5 ≡ 817 ∷ 223 ∷ 61 ∷ 16 ∷ 4 ∷ 1 ∷ []
  pub nine_cells : count_by_recursion 4 1 9 ≡ 191518
  -- With three levels and one cell no word is left to carry a message.
  pub none_left : message_length 3 1 1 ≡ 0
  pub seventeen_bits : largest_power 36 (191518 - words_kept_out) ≡ 17

pub figures : Figures
unfolding N legal message_length weighted_from counts_down_from count_by_recursion count_of listed all_words pattern_free
figures = record {
  three_to_the_right = refl;
  at_distance_x = refl;
  three_by_weights = refl;
  four_by_weights = refl;
  reach_1 = refl;
  reach_2 = refl;
  nine_cells = refl;
  none_left = refl;
  seventeen_bits = refl;
}
