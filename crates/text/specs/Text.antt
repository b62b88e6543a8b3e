-- Texts as bytes of ASCII: quoted texts, numbers in decimal, levels joined by commas.
use Rattle.std.specs.Prelude.{cond, List, [], ◌∷◌, ◌++◌, ℕ, zero, suc, ◌+◌, ◌/◌, ◌%◌, ltb}
use Prim.Native.Char.{Char, code}
use Prim.Native.String.{String, len, char_at}

-- The byte of a character.
abbrev pub byte : Char → ℕ
byte c = code c

-- The bytes of a quoted text.
abbrev pub bytes_from : String → ℕ → ℕ → List ℕ
bytes_from text i zero = []
bytes_from text i (suc n) = byte (char_at text i) ∷ bytes_from text (suc i) n

abbrev pub bytes : String → List ℕ
bytes text = bytes_from text 0 (len text)

-- The digit of a number below 10.
abbrev pub digit : ℕ → ℕ
digit n = byte "0" + n

-- A number of at most so many digits more than one: below 10 it is its digit; else its tenth part comes first, then its last digit.
abbrev pub decimal_within : ℕ → ℕ → List ℕ
decimal_within zero n = digit n ∷ []
decimal_within (suc more) n = cond (ltb n 10) (digit n ∷ []) (decimal_within more (n / 10) ++ (digit (n % 10) ∷ []))

-- A number in decimal: no leading zero, 0 itself excepted.
unfoldable pub decimal : ℕ → List ℕ
decimal n = decimal_within n n

-- Levels joined by commas: the first, and each further one behind a comma.
abbrev pub further_levels : List ℕ → List ℕ
further_levels [] = []
further_levels (c ∷ cells) = bytes "," ++ (decimal c ++ further_levels cells)

unfoldable pub levels_text : List ℕ → List ℕ
levels_text [] = []
levels_text (c ∷ cells) = decimal c ++ further_levels cells
