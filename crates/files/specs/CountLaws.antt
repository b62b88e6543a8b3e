-- Bytes that are there can be counted.
use Rattle.std.proofs.Common.{sym, length-take-le}
use Rattle.std.specs.Prelude.{List, ℕ, ◌≤◌, length}
use Rattle.io.specs.Counts.{IsPrefixLen}

-- A number that is not above the length of a list counts bytes at its start.
pub counts : (n : ℕ) (l : List ℕ) → n ≤ length l → IsPrefixLen n l
counts _ _ inside = (inside, sym (length-take-le _ _ inside))
