-- Worked examples of the definitions, at top 3 and reach 2 with every level below 3 in the middle set.
use Rattle.std.specs.Prelude.{◌≡◌, refl, true, false, [], ◌∷◌, ltb}
use Rattle.patterns.specs.Pattern.{Patterns, pattern_free}
use Rattle.patterns.specs.Walk.{walk}
use Rattle.patterns.specs.Stream.{bridge, stream_of, joined, turned}

abbrev four_levels : Patterns
four_levels = record { top = 3; middle = λ c. ltb c 3; reach = 2 }

pub record Examples : Type 0 where
  pub side_by_side : pattern_free four_levels (3 ∷ 3 ∷ []) ≡ true
  pub one_between : pattern_free four_levels (0 ∷ 3 ∷ 1 ∷ 3 ∷ []) ≡ false
  pub two_between : pattern_free four_levels (3 ∷ 1 ∷ 2 ∷ 3 ∷ []) ≡ false
  pub three_between : pattern_free four_levels (3 ∷ 1 ∷ 2 ∷ 0 ∷ 3 ∷ []) ≡ true
  pub walk_side_by_side : walk four_levels 0 (3 ∷ 3 ∷ []) ≡ true
  pub walk_two_between : walk four_levels 0 (3 ∷ 1 ∷ 2 ∷ 3 ∷ []) ≡ false
  pub walk_three_between : walk four_levels 0 (3 ∷ 1 ∷ 2 ∷ 0 ∷ 3 ∷ []) ≡ true
  pub bridged_free : pattern_free four_levels (stream_of four_levels ((0 ∷ 3 ∷ []) ∷ (3 ∷ 1 ∷ []) ∷ (2 ∷ 3 ∷ []) ∷ [])) ≡ true
  pub between_tops : stream_of four_levels ((0 ∷ 3 ∷ []) ∷ (3 ∷ 1 ∷ []) ∷ []) ≡ 0 ∷ 3 ∷ 3 ∷ 3 ∷ 3 ∷ 1 ∷ []
  pub beside_one_top : stream_of four_levels ((0 ∷ 3 ∷ []) ∷ (2 ∷ 3 ∷ []) ∷ []) ≡ 0 ∷ 3 ∷ 0 ∷ 0 ∷ 2 ∷ 3 ∷ []
  pub joins : joined four_levels (0 ∷ 3 ∷ []) (3 ∷ 1 ∷ []) ≡ 0 ∷ 3 ∷ 3 ∷ 3 ∷ 3 ∷ 1 ∷ []
  pub turns : turned (0 ∷ 3 ∷ 3 ∷ 3 ∷ 3 ∷ 1 ∷ []) ≡ 1 ∷ 3 ∷ 3 ∷ 3 ∷ 3 ∷ 0 ∷ []

pub examples : Examples
unfolding pattern_free walk bridge stream_of joined
examples = record {
  side_by_side = refl;
  one_between = refl;
  two_between = refl;
  three_between = refl;
  walk_side_by_side = refl;
  walk_two_between = refl;
  walk_three_between = refl;
  bridged_free = refl;
  between_tops = refl;
  beside_one_top = refl;
  joins = refl;
  turns = refl;
}
