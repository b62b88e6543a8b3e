-- Rows of ten limbs in a lent list: one row written, and the rows of a table written from the front.
use Rattle.std.specs.Prelude.{List, ◌++◌, ℕ, ◌*◌, drop}
use Rattle.std.proofs.Math.Seq.{paste}
use Rattle.replies.specs.declared.Profile.{Profile}
use Rattle.tables.specs.Tables.{rows_below}

-- A list in which row i is now the ten limbs of a number; the others are as they were.
abbrev pub with_row : ℕ → List ℕ → List ℕ → List ℕ
with_row i number lent = paste lent (10 * i) number 10

-- A list whose first n rows are the table's; the rest is as it was.
unfoldable pub front_rows : Profile → ℕ → List ℕ → List ℕ
front_rows p n lent = rows_below p n ++ drop (10 * n) lent
