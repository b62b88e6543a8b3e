-- The walk: legality cell by cell, with one number for what lies behind.
use Rattle.std.specs.Prelude.{Bool, true, cond, not, ◌&&◌, ◌||◌, List, [], ◌∷◌, ℕ, suc, ◌-◌, eqb}
use Rattle.patterns.specs.Pattern.{Patterns}

-- The guard is the number of cells that must pass before the stretch is open: 0 in an open stretch, x + 1 just behind a top.
-- A top may stand in an open stretch, or just behind another top.
abbrev pub top_may_stand : Patterns → ℕ → Bool
top_may_stand S guard = eqb guard 0 || eqb guard (suc S.reach)

-- A cell that is no top may stand anywhere.
abbrev pub may_stand : Patterns → ℕ → ℕ → Bool
may_stand S guard c = not (eqb c S.top) || top_may_stand S guard

-- The guard behind a cell: whole behind a top, one less behind a cell of the middle set, none behind any other.
abbrev pub guard_after : Patterns → ℕ → ℕ → ℕ
guard_after S guard c = cond (eqb c S.top) (suc S.reach) (cond (S.middle c) (guard - 1) 0)

-- Each cell may stand where it stands.
unfoldable pub walk : Patterns → ℕ → List ℕ → Bool
walk S guard [] = true
walk S guard (c ∷ w) = may_stand S guard c && walk S (guard_after S guard c) w

-- The guard behind a run of cells.
unfoldable pub guard_behind : Patterns → ℕ → List ℕ → ℕ
guard_behind S guard [] = guard
guard_behind S guard (c ∷ w) = guard_behind S (guard_after S guard c) w
