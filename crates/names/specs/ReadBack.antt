-- What the laws of printed names speak of: tests on bytes, and names and texts read back from how they stand.
use Rattle.std.specs.Prelude.{Bool, true, false, not, cond, ◌&&◌, List, [], ◌∷◌, ℕ, zero, suc, ◌+◌, ◌-◌, ◌*◌, ltb, leb, eqb, get_or}
use Rattle.text.specs.Text.{byte}

-- A byte that is no control character of ASCII: it is at least 32 and not 127.
abbrev pub no_control : ℕ → Bool
no_control b = leb 32 b && not (eqb b 127)

-- A plain byte: one of ASCII from a space to a tilde, and no backslash.
abbrev pub is_plain : ℕ → Bool
is_plain b = leb (byte " ") b && leb b (byte "~") && not (eqb b (byte "\\"))

-- The number of a hexadecimal digit in lower case.
abbrev pub digit_of : ℕ → ℕ
digit_of g = cond (ltb g (byte "a")) (g - byte "0") (10 + (g - byte "a"))

-- What is read behind the next k bytes: a backslash, a letter and two digits are the byte that the digits spell,
-- any other byte is itself.
unfoldable pub read_behind : ℕ → List ℕ → List ℕ
read_behind k [] = []
read_behind zero (b ∷ l) =
    cond (eqb b (byte "\\")) ((16 * digit_of (get_or l 1 0) + digit_of (get_or l 2 0)) ∷ read_behind 3 l) (b ∷ read_behind 0 l)
read_behind (suc k) (b ∷ l) = read_behind k l

-- A name read back from how it is printed.
abbrev pub read_back : List ℕ → List ℕ
read_back = read_behind 0

-- A text read back from how it stands within quotes: a backslash takes in the byte behind it, as itself. The test says
-- that one stands before.
unfoldable pub taken_in : Bool → List ℕ → List ℕ
taken_in taken [] = []
taken_in true (b ∷ l) = b ∷ taken_in false l
taken_in false (b ∷ l) = cond (eqb b (byte "\\")) (taken_in true l) (b ∷ taken_in false l)

-- No quote ends a text and no backslash takes in the quote behind it: a backslash takes in each quote of the text.
unfoldable pub stays_within : Bool → List ℕ → Bool
stays_within taken [] = not taken
stays_within true (b ∷ l) = stays_within false l
stays_within false (b ∷ l) =
    cond (eqb b (byte "\\")) (stays_within true l) (not (eqb b (byte "\"")) && stays_within false l)
