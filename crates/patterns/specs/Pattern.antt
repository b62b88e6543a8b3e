-- Forbidden patterns: a top, then r cells of a middle set with r from 1 to the reach, then a top.
use Rattle.std.specs.Prelude.{Bool, true, false, not, ◌&&◌, ◌||◌, List, [], ◌∷◌, ℕ, zero, suc, eqb}

-- A set of forbidden patterns: the level that is top, which levels may stand between two tops to make a pattern, and the reach x.
pub record Patterns : Type 0 where
  pub top : ℕ
  pub middle : ℕ → Bool
  pub reach : ℕ

-- The cells begin with r cells of the middle set and then a top.
abbrev pub middle_then_top : Patterns → ℕ → List ℕ → Bool
middle_then_top S r [] = false
middle_then_top S zero (c ∷ w) = eqb c S.top
middle_then_top S (suc r) (c ∷ w) = S.middle c && middle_then_top S r w

-- The cells begin with a pattern that has r cells between its two tops.
abbrev pub pattern_of : Patterns → ℕ → List ℕ → Bool
pattern_of S r [] = false
pattern_of S r (c ∷ w) = eqb c S.top && middle_then_top S r w

-- The cells begin with a pattern that has from 1 to x cells between its two tops.
abbrev pub pattern_up_to : Patterns → ℕ → List ℕ → Bool
pattern_up_to S zero w = false
pattern_up_to S (suc x) w = pattern_up_to S x w || pattern_of S (suc x) w

-- No forbidden pattern begins at any of the cells.
unfoldable pub pattern_free : Patterns → List ℕ → Bool
pattern_free S [] = true
pattern_free S (c ∷ w) = not (pattern_up_to S S.reach (c ∷ w)) && pattern_free S w
