-- Worked examples of the pattern finder: examples 10 and 11 of document 01, and which number is given where several apply.
use Rattle.std.specs.Prelude.{◌≡◌, refl, [], ◌∷◌}
use Rattle.replies.specs.Replies.{done, refused, refused_at_first, or_else, outside_refusal}
use Rattle.cells.specs.Finding.{cell_refusal, pattern_refusal, cells_refusal, finding}

pub record Examples : Type 0 where
  pub ten : finding 4 1 (3 ∷ 2 ∷ 3 ∷ []) ≡ refused 11 0
  pub eleven_reach_1 : finding 4 1 (3 ∷ 2 ∷ 2 ∷ 3 ∷ []) ≡ done
  pub eleven_reach_2 : finding 4 2 (3 ∷ 2 ∷ 2 ∷ 3 ∷ []) ≡ refused 11 0
  pub side_by_side : finding 4 1 (3 ∷ 3 ∷ []) ≡ done
  pub at_its_first_top : finding 4 1 (0 ∷ 3 ∷ 3 ∷ 1 ∷ 3 ∷ []) ≡ refused 11 2
  pub cell_right_of_a_pattern : finding 4 1 (3 ∷ 2 ∷ 3 ∷ 4 ∷ 5 ∷ []) ≡ refused 10 3
  pub reach_before_cells : finding 32 9 (32 ∷ []) ≡ refused 3 0
  pub levels_before_reach : finding 33 9 (32 ∷ []) ≡ refused 1 0
  pub no_cells : finding 2 8 [] ≡ done

pub examples : Examples
unfolding cell_refusal pattern_refusal cells_refusal finding refused_at_first or_else outside_refusal
examples = record {
  ten = refl;
  eleven_reach_1 = refl;
  eleven_reach_2 = refl;
  side_by_side = refl;
  at_its_first_top = refl;
  cell_right_of_a_pattern = refl;
  reach_before_cells = refl;
  levels_before_reach = refl;
  no_cells = refl;
}
