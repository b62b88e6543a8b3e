-- Bridges, the stream of a list of words, joined and turned streams.
use Rattle.std.specs.Prelude.{Bool, true, false, cond, ◌&&◌, List, [], ◌∷◌, ◌++◌, reverse, ℕ, eqb, length, replicate}
use Rattle.patterns.specs.Pattern.{Patterns}

-- A bridge is all top if the cell before it and the cell after it are both top; otherwise all 0.
unfoldable pub bridge : Patterns → ℕ → ℕ → List ℕ
bridge S before after = replicate S.reach (cond (eqb before S.top && eqb after S.top) S.top 0)

-- The first and the last of some cells; 0 where there are none.
abbrev pub first_cell : List ℕ → ℕ
first_cell [] = 0
first_cell (c ∷ w) = c

abbrev pub last_cell : List ℕ → ℕ
last_cell [] = 0
last_cell (c ∷ []) = c
last_cell (c ∷ d ∷ w) = last_cell (d ∷ w)

-- A word with cells, and a word of m cells.
abbrev pub filled : List ℕ → Bool
filled [] = false
filled (c ∷ w) = true

abbrev pub has_length : ℕ → List ℕ → Bool
has_length m w = eqb (length w) m

-- The stream of a list of words: a bridge between neighbours, none after the last.
unfoldable pub stream_of : Patterns → List (List ℕ) → List ℕ
stream_of S [] = []
stream_of S (w ∷ []) = w
stream_of S (w ∷ v ∷ words) = w ++ (bridge S (last_cell w) (first_cell v) ++ stream_of S (v ∷ words))

-- Two streams joined: bridged anew where both have cells.
unfoldable pub joined : Patterns → List ℕ → List ℕ → List ℕ
joined S [] b = b
joined S (c ∷ a) [] = c ∷ a
joined S (c ∷ a) (d ∷ b) = (c ∷ a) ++ (bridge S (last_cell (c ∷ a)) d ++ (d ∷ b))

-- A turned stream: the same cells, last first.
abbrev pub turned : List ℕ → List ℕ
turned = reverse
