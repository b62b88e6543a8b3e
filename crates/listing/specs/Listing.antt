-- Words in level order, the words that pass a test, their count, the index of a word and the word of an index.
-- The test is any test on words: a set of words is what passes it.
use Rattle.std.specs.Prelude.{Bool, true, false, cond, ◌&&◌, ◌||◌, List, [], ◌∷◌, ◌++◌, map, ◌≡◌, ℕ, zero, suc, ◌-◌, ltb, eqb, length}
use Rattle.listing.specs.Every.{every}

-- The levels c, c + 1, .., as many as n.
abbrev pub levels_from : ℕ → ℕ → List ℕ
levels_from c zero = []
levels_from c (suc n) = c ∷ levels_from (suc c) n

-- The levels 0, 1, .., q - 1.
abbrev pub levels : ℕ → List ℕ
levels q = levels_from 0 q

-- Each of the words behind each of the levels, level after level.
abbrev pub behind_each : List ℕ → List (List ℕ) → List (List ℕ)
behind_each [] words = []
behind_each (c ∷ cs) words = map (λ v. c ∷ v) words ++ behind_each cs words

-- All words of m cells, each below q, in level order.
unfoldable pub all_words : ℕ → ℕ → List (List ℕ)
all_words q zero = [] ∷ []
all_words q (suc m) = behind_each (levels q) (all_words q m)

-- The words that pass a test, in their order.
abbrev pub keep_if : Bool → List ℕ → List (List ℕ) → List (List ℕ)
keep_if true v words = v ∷ words
keep_if false v words = words

abbrev pub passing : (List ℕ → Bool) → List (List ℕ) → List (List ℕ)
passing p [] = []
passing p (v ∷ words) = keep_if (p v) v (passing p words)

-- The listing: the words of m cells that pass p, in level order.
unfoldable pub listed : ℕ → (List ℕ → Bool) → ℕ → List (List ℕ)
listed q p m = passing p (all_words q m)

-- How many there are.
unfoldable pub count_of : ℕ → (List ℕ → Bool) → ℕ → ℕ
count_of q p m = length (listed q p m)

-- Level order: the leftmost differing level decides.
unfoldable pub before : List ℕ → List ℕ → Bool
before [] w = false
before (a ∷ v) [] = false
before (a ∷ v) (b ∷ w) = ltb a b || (eqb a b && before v w)

-- The index of a word: how many words of the listing stand before it.
unfoldable pub index_in : ℕ → (List ℕ → Bool) → List ℕ → ℕ
index_in q p w = length (passing (λ v. before v w) (listed q p (length w)))

-- Each cell is below q.
abbrev pub all_below : ℕ → List ℕ → Bool
all_below q = every (λ c. ltb c q)

-- A word of the listing: m cells, each below q, that pass p.
pub record Word (q : ℕ) (p : List ℕ → Bool) (m : ℕ) (w : List ℕ) : Type 0 where
  pub cells : length w ≡ m
  pub levelled : all_below q w ≡ true
  pub passes : p w ≡ true

-- The test on what follows a first cell c.
abbrev pub behind : ℕ → (List ℕ → Bool) → List ℕ → Bool
behind c p v = p (c ∷ v)

-- The leftmost level is settled first: the levels in turn take as many indices as there are words that begin with them.
pub record Settled : Type 0 where
  pub level : ℕ
  pub left : ℕ

abbrev pub settle : (ℕ → ℕ) → List ℕ → ℕ → Settled
settle count [] i = record { level = 0; left = i }
settle count (c ∷ cs) i = cond (ltb i (count c)) (record { level = c; left = i }) (settle count cs (i - count c))

-- The word of an index: the leftmost level, and behind it the rest, which is a shorter task of the same kind.
unfoldable pub word_of : ℕ → (List ℕ → Bool) → ℕ → ℕ → List ℕ
word_of q p zero i = []
word_of q p (suc m) i =
    let first = settle (λ c. count_of q (behind c p) m) (levels q) i in
    first.level ∷ word_of q (behind first.level p) m first.left
