-- How many words may follow in an open or a guarded stretch.
use Rattle.std.specs.Prelude.{ℕ, suc}
use Rattle.patterns.specs.Walk.{walk}
use Rattle.listing.specs.Listing.{count_of}
use Rattle.code.specs.Code.{below_top}

-- The number of words of m cells, of the levels up to t, that may follow where the guard is g.
unfoldable pub following : ℕ → ℕ → ℕ → ℕ → ℕ
following t x g m = count_of (suc t) (walk (below_top t x) g) m
