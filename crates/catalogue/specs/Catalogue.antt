-- The forty published profiles, and the outcome of asking for one.
use Rattle.std.specs.Prelude.{List, [], ◌∷◌, ℕ, zero, suc}
use Rattle.replies.specs.Replies.{done, refused}
use Rattle.catalogue.specs.declared.Published.{Published}

-- A row of the list: q, x, m and the message length s.
abbrev pub row : ℕ → ℕ → ℕ → ℕ → Published
row q x m s = record { reply = done; q = q; x = x; m = m; s = s }

-- All of x = 1 comes first, row by row.
abbrev pub published_rows : List Published
published_rows =
    row 4 1 14 27 ∷ row 4 1 26 50 ∷ row 4 1 49 95 ∷ row 4 1 77 149 ∷ row 4 1 97 188 ∷
    row 8 1 18 53 ∷ row 8 1 26 77 ∷ row 8 1 44 131 ∷ row 8 1 71 211 ∷ row 8 1 103 307 ∷
    row 16 1 18 71 ∷ row 16 1 27 107 ∷ row 16 1 45 179 ∷ row 16 1 66 263 ∷ row 16 1 111 443 ∷
    row 32 1 19 94 ∷ row 32 1 29 144 ∷ row 32 1 49 244 ∷ row 32 1 70 349 ∷ row 32 1 117 584 ∷
    row 4 2 20 38 ∷ row 4 2 38 72 ∷ row 4 2 57 108 ∷ row 4 2 76 144 ∷ row 4 2 96 182 ∷
    row 8 2 22 65 ∷ row 8 2 32 95 ∷ row 8 2 52 154 ∷ row 8 2 73 216 ∷ row 8 2 108 320 ∷
    row 16 2 24 95 ∷ row 16 2 34 135 ∷ row 16 2 51 203 ∷ row 16 2 73 291 ∷ row 16 2 100 399 ∷
    row 32 2 25 124 ∷ row 32 2 36 179 ∷ row 32 2 56 279 ∷ row 32 2 77 384 ∷ row 32 2 108 539 ∷ []

-- The row with a number; past the end it is refused.
abbrev pub row_at : List Published → ℕ → Published
row_at [] i = record { reply = refused 12 0; q = 0; x = 0; m = 0; s = 0 }
row_at (r ∷ rows) zero = r
row_at (r ∷ rows) (suc i) = row_at rows i

-- Row i of the list; 12 where there is none, at or above 40.
unfoldable pub publishing : ℕ → Published
publishing i = row_at published_rows i
