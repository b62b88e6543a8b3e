-- The printed formulas: theorem 1's recursion for the counts, and theorem 2's weights for the index.
use Rattle.std.specs.Prelude.{cond, ◌&&◌, List, [], ◌∷◌, ℕ, zero, suc, ◌+◌, ◌-◌, ◌*◌, ◌^◌, leb, eqb, length, get_or}
use Rattle.code.specs.Code.{N}

-- T of theorem 1 for the length m, where n is N(m - x - 2).
abbrev pub last_term : ℕ → ℕ → ℕ → ℕ → ℕ
last_term q x m n = cond (leb (x + 2) m) ((q - 1) ^ (x + 1) * n) ((q - 1) ^ (m - 1))

-- N(m) by theorem 1: q N(m - 1) - (q - 1) N(m - 2) + T, where a, b and n are N(m - 1), N(m - 2) and N(m - x - 2).
abbrev pub next_count : ℕ → ℕ → ℕ → ℕ → ℕ → ℕ → ℕ
next_count q x m a b n = q * a - (q - 1) * b + last_term q x m n

-- N(m + 1) before the counts N(m), N(m - 1), .., N(0): N(1) is q, and from N(2) on it is theorem 1's.
abbrev pub with_next : ℕ → ℕ → ℕ → List ℕ → List ℕ
with_next q x zero counts = q ∷ counts
with_next q x (suc m) counts = next_count q x (suc (suc m)) (get_or counts 0 0) (get_or counts 1 0) (get_or counts (x + 1) 0) ∷ counts

-- The counts N(m), N(m - 1), .., N(0).
unfoldable pub counts_down_from : ℕ → ℕ → ℕ → List ℕ
counts_down_from q x zero = 1 ∷ []
counts_down_from q x (suc m) = with_next q x m (counts_down_from q x m)

-- N(m) by theorem 1.
unfoldable pub count_by_recursion : ℕ → ℕ → ℕ → ℕ
count_by_recursion q x m = get_or (counts_down_from q x m) 0 0

-- The distance back to the nearest top among the cells on the left, the nearest cell first; 0 where there is none.
abbrev pub one_further : ℕ → ℕ
one_further zero = 0
one_further (suc k) = suc (suc k)

abbrev pub distance_back : ℕ → List ℕ → ℕ
distance_back top [] = 0
distance_back top (c ∷ left) = cond (eqb c top) 1 (one_further (distance_back top left))

-- If k is from 1 to x, g = x - k + 1; otherwise g = 0.
abbrev pub guard_of : ℕ → ℕ → ℕ
guard_of x k = cond (leb 1 k && leb k x) (x - k + 1) 0

-- The weight of a place with i cells to its right: (q - 1)^g N(i - g) if g is at most i, else (q - 1)^i.
abbrev pub weight : ℕ → ℕ → ℕ → ℕ → ℕ
weight q x g i = cond (leb g i) ((q - 1) ^ g * N q x (i - g)) ((q - 1) ^ i)

-- The sum over the places, from left to right, of the level times the weight; `left` has the cells on the left, the nearest first.
unfoldable pub weighted_from : ℕ → ℕ → List ℕ → List ℕ → ℕ
weighted_from q x left [] = 0
weighted_from q x left (a ∷ w) = a * weight q x (guard_of x (distance_back (q - 1) left)) (length w) + weighted_from q x (a ∷ left) w

-- The index by theorem 2.
abbrev pub index_by_weights : ℕ → ℕ → List ℕ → ℕ
index_by_weights q x w = weighted_from q x [] w
