-- Laws that stood in specs/RowsRight, which no proof rests on now.
use Rattle.std.specs.Prelude.{◌≡◌, refl, List, [], ◌∷◌, map, ℕ, zero, suc, ◌<◌, get_or}
use Rattle.std.proofs.Common.{sym}
use Rattle.replies.specs.Replies.{done}
use Rattle.catalogue.specs.declared.Published.{Published}
use Rattle.catalogue.specs.Catalogue.{published_rows, row_at, publishing}
use Rattle.catalogue.proofs.RowsRight.{rows_right}

column : (f : Published → ℕ) → f (row_at [] 0) ≡ 0 → (rows : List Published) (i : ℕ) → get_or (map f rows) i 0 ≡ f (row_at rows i)
column f e [] i = sym e
column f e (r ∷ rows) zero = refl
column f e (r ∷ rows) (suc i) = column f e rows i

-- The four columns, read at the number of a row, are the row.
pub row_by_columns : (i : ℕ) → i < 40
    → record {
      reply = done;
      q = get_or (map (λ (r : Published). r.q) published_rows) i 0;
      x = get_or (map (λ (r : Published). r.x) published_rows) i 0;
      m = get_or (map (λ (r : Published). r.m) published_rows) i 0;
      s = get_or (map (λ (r : Published). r.s) published_rows) i 0;
    } ≡ publishing i
unfolding publishing
row_by_columns i l =
    rw (
      column (λ r. r.q) refl published_rows i,
      column (λ r. r.x) refl published_rows i,
      column (λ r. r.m) refl published_rows i,
      column (λ r. r.s) refl published_rows i,
      ← (rows_right i l).answered,
    )
