-- The ranges of document 01: of q, m and x, of the words of a stream, and of the cells that the pattern finder takes.
use Rattle.std.specs.Prelude.{ℕ, ◌≤◌}
use Rattle.replies.specs.declared.Profile.{Profile}

-- A number from low to high.
pub record Between (low high n : ℕ) : Type 0 where
  pub least : low ≤ n
  pub most : n ≤ high

-- q from 2 to 32, m from 1 to 128, x from 1 to 8.
pub record InRange (p : Profile) : Type 0 where
  pub levels : Between 2 32 p.q
  pub length : Between 1 128 p.m
  pub reach : Between 1 8 p.x

-- A stream has at most 256 words.
abbrev pub most_words : ℕ
most_words = 256

-- The pattern finder takes at most 65,536 cells, and no stream has as many.
abbrev pub most_cells : ℕ
most_cells = 65536
