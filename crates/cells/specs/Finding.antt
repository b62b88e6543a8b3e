-- The tests of cells, numbers 10 and 11, and the outcome of the pattern finder.
use Rattle.std.specs.Prelude.{Bool, List, ℕ, ltb, leb, length, drop, get_or}
use Rattle.replies.specs.declared.Reply.{Reply}
use Rattle.replies.specs.Replies.{refused_if, refused_at_first, or_else, levels_refusal, reach_refusal}
use Rattle.replies.specs.Ranges.{most_cells}
use Rattle.patterns.specs.Pattern.{Patterns, pattern_up_to}
use Rattle.code.specs.Code.{published}

-- 10: a cell at or above q, at its place.
unfoldable pub cell_refusal : ℕ → List ℕ → Reply
cell_refusal q cells = refused_at_first (λ i. leb q (get_or cells i 0)) (length cells) 10

-- A forbidden pattern has its first top at a place.
abbrev pub pattern_at : Patterns → List ℕ → ℕ → Bool
pattern_at S cells i = pattern_up_to S S.reach (drop i cells)

-- 11: a forbidden pattern, at its first top.
unfoldable pub pattern_refusal : Patterns → List ℕ → Reply
pattern_refusal S cells = refused_at_first (pattern_at S cells) (length cells) 11

-- 10, then 11, each sought in all the cells.
unfoldable pub cells_refusal : ℕ → Patterns → List ℕ → Reply
cells_refusal q S cells = or_else (cell_refusal q cells) (pattern_refusal S cells)

-- The pattern finder takes up to 65,536 cells, and answers 7 above that.
unfoldable pub finding : ℕ → ℕ → List ℕ → Reply
finding q x cells =
    or_else (levels_refusal q) (or_else (reach_refusal x) (or_else (refused_if (ltb most_cells (length cells)) 7) (cells_refusal q (published q x) cells)))
