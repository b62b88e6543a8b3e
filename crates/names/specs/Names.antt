-- Names as they are printed. A name is read as UTF-8 characters. A character stands as it is unless it is a control
-- character (U+0000 to U+001F, U+007F to U+009F), a sign that begins a new line or turns the direction of writing
-- (U+061C, U+200E, U+200F, U+2028 to U+202E, U+2066 to U+2069), or a backslash. Every other byte, that is each byte of
-- such a character and each byte that is not part of a UTF-8 character in its shortest form (no surrogates, at most
-- U+10FFFF), stands as `\x` and two hexadecimal digits in lower case.
use Rattle.std.specs.Prelude.{Bool, true, false, not, cond, ◌&&◌, ◌||◌, List, [], ◌∷◌, ◌++◌, ℕ, zero, suc, ◌+◌, ◌-◌, ◌*◌, ◌/◌, ◌%◌, ltb, leb, eqb, length}
use Rattle.io.specs.Digits.{hex_digit_ascii}
use Rattle.text.specs.Text.{byte, bytes}
use Rattle.names.specs.declared.Lead.{Lead}

-- A number from low to high.
abbrev pub within : ℕ → ℕ → ℕ → Bool
within low high n = leb low n && leb n high

-- A control character: U+0000 to U+001F, U+007F to U+009F.
abbrev pub is_control : ℕ → Bool
is_control c = leb c 0x1f || within 0x7f 0x9f c

-- A sign that begins a new line or turns the direction of writing.
abbrev pub is_turn : ℕ → Bool
is_turn c = eqb c 0x61c || within 0x200e 0x200f c || within 0x2028 0x202e c || within 0x2066 0x2069 c

-- A character that stands as it is.
unfoldable pub stands_as_it_is : ℕ → Bool
stands_as_it_is c = not (is_control c || is_turn c || eqb c (byte "\\"))

-- The code point of a character: at most U+10FFFF, and no surrogate.
unfoldable pub is_code_point : ℕ → Bool
is_code_point c = leb c 0x10ffff && not (within 0xd800 0xdfff c)

-- How a character begins: how many bytes it has, what its first byte gives of its code point, and the least code point
-- that takes as many bytes.
abbrev pub lead_with : ℕ → ℕ → ℕ → Lead
lead_with size bits least = record { size = size; bits = bits; least = least }

-- The character that begins with a byte; one of no bytes where none does.
unfoldable pub lead_of : ℕ → Lead
lead_of b =
    cond (ltb b 0x80) (lead_with 1 b 0)
    (cond (ltb b 0xc0) (lead_with 0 0 0)
    (cond (ltb b 0xe0) (lead_with 2 (b - 0xc0) 0x80)
    (cond (ltb b 0xf0) (lead_with 3 (b - 0xe0) 0x800)
    (cond (ltb b 0xf8) (lead_with 4 (b - 0xf0) 0x10000) (lead_with 0 0 0)))))

-- The next n bytes go on a character: each is from 80 to BF.
unfoldable pub go_on : ℕ → List ℕ → Bool
go_on zero l = true
go_on (suc n) [] = false
go_on (suc n) (b ∷ l) = within 0x80 0xbf b && go_on n l

-- The code point of which the bytes before give c: each of the next n bytes gives six bits more.
unfoldable pub code_point : ℕ → ℕ → List ℕ → ℕ
code_point c zero l = c
code_point c (suc n) [] = c
code_point c (suc n) (b ∷ l) = code_point (64 * c + (b - 0x80)) n l

-- The code point is in its shortest form, is one of a character, and that character stands as it is.
abbrev pub is_standing : ℕ → ℕ → Bool
is_standing least c = leb least c && is_code_point c && stands_as_it_is c

-- How many bytes the character has that a list begins with, where it stands as it is; 0 where it does not, and where
-- the list begins with no character.
unfoldable pub standing : List ℕ → ℕ
standing [] = 0
standing (b ∷ l) =
    let first = lead_of b in
    let further = first.size - 1 in
    cond (go_on further l && is_standing first.least (code_point first.bits further l)) first.size 0

-- A byte spelt out: `\x` and two hexadecimal digits in lower case.
abbrev pub spelt : ℕ → List ℕ
spelt b = bytes "\\x" ++ (hex_digit_ascii (b / 16) ∷ hex_digit_ascii (b % 16) ∷ [])

-- A byte from which on n bytes stand as they are: itself, or spelt out where that is none.
abbrev pub printed : ℕ → ℕ → List ℕ
printed zero b = spelt b
printed (suc n) b = b ∷ []

-- Bytes as they are printed, of which the first k belong to a character that stands as it is.
unfoldable pub escaped_from : ℕ → List ℕ → List ℕ
escaped_from k [] = []
escaped_from zero (b ∷ l) = let n = standing (b ∷ l) in printed n b ++ escaped_from (n - 1) l
escaped_from (suc k) (b ∷ l) = b ∷ escaped_from k l

-- A name as it is printed.
abbrev pub escaped : List ℕ → List ℕ
escaped name = escaped_from 0 name

-- What is printed into so many bytes: nothing where there are fewer than four for each byte of the name.
abbrev pub escaped_in : List ℕ → ℕ → List ℕ
escaped_in name room = cond (leb (4 * length name) room) (escaped name) []
