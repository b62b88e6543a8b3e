-- The code of q levels, word length m and reach x.
use Rattle.std.specs.Prelude.{◌≡◌, Bool, List, ℕ, ◌-◌, ltb}
use Rattle.patterns.specs.Pattern.{Patterns, pattern_free}
use Rattle.listing.specs.Listing.{Word, count_of, index_in, word_of}

-- The patterns whose cells between the two tops are any below top.
abbrev pub below_top : ℕ → ℕ → Patterns
below_top top x = record { top = top; middle = λ c. ltb c top; reach = x }

-- The published patterns: top is level q - 1.
abbrev pub published : ℕ → ℕ → Patterns
published q x = below_top (q - 1) x

-- No forbidden pattern.
unfoldable pub legal : ℕ → ℕ → List ℕ → Bool
legal q x = pattern_free (published q x)

-- A legal word has m cells, each below q, and no forbidden pattern.
abbrev pub LegalWord : ℕ → ℕ → ℕ → List ℕ → Type 0
LegalWord q x m w = Word q (legal q x) m w

-- N(m): the number of legal words of length m, by listing them.
unfoldable pub N : ℕ → ℕ → ℕ → ℕ
N q x m = count_of q (legal q x) m

-- The index of a word: the number of legal words of its length before it.
unfoldable pub index : ℕ → ℕ → List ℕ → ℕ
index q x w = index_in q (legal q x) w

-- The word of an index, the leftmost level settled first.
unfoldable pub word : ℕ → ℕ → ℕ → ℕ → List ℕ
word q x m i = word_of q (legal q x) m i

-- There is exactly one legal word with i legal words before it, and settling the leftmost level first finds it.
pub record OneWord (q x m i : ℕ) : Type 0 where
  pub found : LegalWord q x m (word q x m i)
  pub its_index : index q x (word q x m i) ≡ i
  pub only : (w : List ℕ) → LegalWord q x m w → index q x w ≡ i → w ≡ word q x m i
