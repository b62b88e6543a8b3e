-- UTF-8: the bytes of a character, six bits of its code point in each byte behind the first.
use Rattle.std.specs.Prelude.{◌≡◌, true, cond, List, [], ◌∷◌, ◌++◌, ℕ, ◌+◌, ◌/◌, ◌%◌, ltb}
use Rattle.names.specs.Names.{is_code_point, stands_as_it_is, spelt}

-- A byte behind the first, of six bits.
abbrev pub six : ℕ → ℕ
six bits = 0x80 + bits % 64

-- The bytes of the character of a code point.
unfoldable pub utf8 : ℕ → List ℕ
utf8 c =
    cond (ltb c 0x80) (c ∷ [])
    (cond (ltb c 0x800) ((0xc0 + c / 64) ∷ six c ∷ [])
    (cond (ltb c 0x10000) ((0xe0 + c / 4096) ∷ six (c / 64) ∷ six c ∷ [])
    ((0xf0 + c / 262144) ∷ six (c / 4096) ∷ six (c / 64) ∷ six c ∷ [])))

-- Bytes, each spelt out.
unfoldable pub all_spelt : List ℕ → List ℕ
all_spelt [] = []
all_spelt (b ∷ l) = spelt b ++ all_spelt l

-- A name and what is printed of it, piece by piece: characters that stand as they are, and bytes that are spelt out.
pub data InPieces : List ℕ → List ℕ → Type 0 where
  none : InPieces [] []
  as_it_is : {l m : List ℕ} (c : ℕ) → is_code_point c ≡ true → stands_as_it_is c ≡ true → InPieces l m
      → InPieces (utf8 c ++ l) (utf8 c ++ m)
  spelt_out : {l m : List ℕ} (b : ℕ) → InPieces l m → InPieces (b ∷ l) (spelt b ++ m)
