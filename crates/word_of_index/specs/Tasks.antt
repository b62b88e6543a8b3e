-- The shorter tasks that a word is spelt by: some cells are settled, the others are still to be written.
use Rattle.std.specs.Prelude.{List, [], ◌∷◌, ℕ, ◌+◌, ◌-◌, ◌^◌, min, ◌≤◌, ◌<◌, length}
use Rattle.limbs.specs.Limbs.{base, number_at}
use Rattle.patterns.specs.Walk.{walk}
use Rattle.listing.specs.Listing.{word_of}
use Rattle.code.specs.Stretches.{following}
use Rattle.division.specs.Division.{times_in, left_over}
use Rattle.replies.specs.declared.Profile.{Profile}
use Rattle.replies.specs.Ranges.{Between}
use Rattle.profiles.specs.Profiles.{patterns_of, count_for}
use Rattle.tables.specs.Tables.{Belongs}

-- The cells still to be written where the guard is `guard`: the word of an index among those that may follow there.
unfoldable pub word_behind : Profile → ℕ → ℕ → ℕ → List ℕ
word_behind p guard left i = word_of p.q (walk (patterns_of p) guard) left i

-- The weight of a cell where the guard is `guard`, with i cells on its right: how many words may follow it where it is below top.
unfoldable pub weight_behind : Profile → ℕ → ℕ → ℕ
weight_behind p guard i = following (p.q - 1) p.x (guard - 1) i

-- How many of the i cells on the right of a cell below top have to be below top as well.
abbrev pub low_cells : ℕ → ℕ → ℕ
low_cells guard i = min (guard - 1) i

-- The level of the leftmost of `left` cells at the index i, and what it leaves of the index.
abbrev pub level_of : Profile → ℕ → ℕ → ℕ → ℕ
level_of p guard left i = times_in (p.q - 1) i (weight_behind p guard (left - 1))

abbrev pub left_by : Profile → ℕ → ℕ → ℕ → ℕ
left_by p guard left i = left_over (p.q - 1) i (weight_behind p guard (left - 1))

-- A task: `left` cells where the guard is `guard`, by a table that belongs, at the index in the n lowest limbs of `rest`.
-- The index is below the number of words that may follow, and all counts of the task fit n limbs.
pub record Task (p : Profile) (guard left : ℕ) (table : List ℕ) (n : ℕ) (rest : List ℕ) : Type 0 where
  pub levels : Between 2 32 p.q
  pub reach : Between 1 8 p.x
  pub within : guard ≤ p.x + 1
  pub belongs : Belongs p left table
  pub few : n ≤ 10
  pub room : n ≤ length rest
  pub fits : count_for p left < base ^ n
  pub below : number_at n rest 0 < following (p.q - 1) p.x guard left

-- A task whose counts all fit one limb, at the index i.
abbrev pub SmallTask : Profile → ℕ → ℕ → List ℕ → ℕ → Type 0
SmallTask p guard left table i = Task p guard left table 1 (i ∷ [])
