-- Printed names, which have no control character, within the quotes of JSON: a backslash stands before each quote and
-- each backslash.
use Rattle.std.specs.Prelude.{cond, ◌||◌, List, [], ◌∷◌, ◌++◌, ℕ, ◌*◌, leb, eqb, length}
use Rattle.text.specs.Text.{byte}

-- A byte within quotes.
abbrev pub quoted_byte : ℕ → List ℕ
quoted_byte b = cond (eqb b (byte "\"") || eqb b (byte "\\")) (byte "\\" ∷ b ∷ []) (b ∷ [])

-- A text within quotes.
unfoldable pub quoted : List ℕ → List ℕ
quoted [] = []
quoted (b ∷ l) = quoted_byte b ++ quoted l

-- What is put into so many bytes: nothing where there are fewer than two for each byte of the text.
abbrev pub quoted_in : List ℕ → ℕ → List ℕ
quoted_in text room = cond (leb (2 * length text) room) (quoted text) []
