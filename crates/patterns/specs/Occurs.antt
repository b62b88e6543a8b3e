-- A pattern as a place among the cells.
use Rattle.std.specs.Prelude.{◌≡◌, true, List, ◌∷◌, ◌++◌, ℕ, ◌≤◌, length}
use Rattle.listing.specs.Every.{every}
use Rattle.patterns.specs.Pattern.{Patterns}

-- A forbidden pattern among the cells: what is left of it, the cells between its two tops, and what is right of it.
pub record Occurs (S : Patterns) (w : List ℕ) : Type 0 where
  pub left : List ℕ
  pub mids : List ℕ
  pub right : List ℕ
  pub splits : w ≡ left ++ (S.top ∷ (mids ++ (S.top ∷ right)))
  pub in_middle : every S.middle mids ≡ true
  pub at_least_one : 1 ≤ length mids
  pub within_reach : length mids ≤ S.reach
