-- What a profile means: its patterns, its words with their counts and indices, its messages and its streams. Every definition and contract that
-- speaks of a profile says it by these names, so that what a profile holds is taken apart here alone.
use Rattle.std.specs.Prelude.{Bool, ◌&&◌, List, ℕ, ◌+◌, ◌-◌, ◌*◌}
use Rattle.replies.specs.declared.Profile.{Profile}
use Rattle.listing.specs.Listing.{all_below}
use Rattle.patterns.specs.Pattern.{Patterns}
use Rattle.patterns.specs.Stream.{has_length}
use Rattle.code.specs.Code.{published, legal, LegalWord, N, index, word, OneWord}
use Rattle.code.specs.Messages.{message_length}

-- The forbidden patterns.
abbrev pub patterns_of : Profile → Patterns
patterns_of p = published p.q p.x

-- Cells without a forbidden pattern.
abbrev pub is_legal : Profile → List ℕ → Bool
is_legal p = legal p.q p.x

-- A legal word: m cells, each below q, and no forbidden pattern; and the test for one.
abbrev pub LegalFor : Profile → List ℕ → Type 0
LegalFor p = LegalWord p.q p.x p.m

abbrev pub is_word : Profile → List ℕ → Bool
is_word p w = has_length p.m w && (all_below p.q w && is_legal p w)

-- N(i), and N(m).
abbrev pub count_for : Profile → ℕ → ℕ
count_for p = N p.q p.x

abbrev pub word_count : Profile → ℕ
word_count p = count_for p p.m

-- The index of a word, and the word of an index.
abbrev pub index_for : Profile → List ℕ → ℕ
index_for p = index p.q p.x

abbrev pub word_for : Profile → ℕ → List ℕ
word_for p = word p.q p.x p.m

-- There is exactly one legal word with i legal words before it, and it is the word of the index i.
abbrev pub OneFor : Profile → ℕ → Type 0
OneFor p = OneWord p.q p.x p.m

-- The message length s.
abbrev pub length_of : Profile → ℕ
length_of p = message_length p.q p.x p.m

-- From the first cell of a word in a stream to that of the next.
abbrev pub stride : Profile → ℕ
stride p = p.m + p.x

-- n words with their bridges have nm + (n-1)x cells.
abbrev pub stream_length : Profile → ℕ → ℕ
stream_length p n = n * p.m + (n - 1) * p.x
