-- Laws that stood in specs/RowLaws, which no proof rests on now.
use Rattle.std.specs.Prelude.{◌≡◌, List, ◌++◌, ℕ, ◌+◌, ◌-◌, ◌*◌, ◌≤◌, ◌<◌, length, drop}
use Rattle.std.proofs.Math.Path.{refl}
use Rattle.std.proofs.Common.{sym, ap, ◌∙◌, le_refl, le_antisymm, arith, drop_at, drop-drop}
use Rattle.limbs.specs.Limbs.{limbs_of}
use Rattle.replies.specs.declared.Profile.{Profile}
use Rattle.replies.specs.Ranges.{InRange}
use Rattle.profiles.specs.Profiles.{count_for}
use Rattle.tables.specs.Tables.{rows_below}
use Rattle.tables.specs.Counting.{one}
use Rattle.tables.specs.Rows.{with_row, front_rows}
use Rattle.tables.specs.CountingLaws.{one_word}
use Rattle.tables.specs.RowLaws.{length_rows, front_none, front_next}

-- Rows written again from the front are the same.
pub front_again : (p : Profile) (k n : ℕ) (lent : List ℕ) → k ≤ n → front_rows p n (front_rows p k lent) ≡ front_rows p n lent
unfolding front_rows
front_again p k n lent l =
    let behind : 10 * n ≡ 10 * k + (10 * n - 10 * k) = omega arith in
    let rows = rows_below p k in
    ap (λ (rest : List ℕ). rows_below p n ++ rest)
    (rw (behind, ← drop-drop (10 * n - 10 * k) (10 * k) (rows ++ drop (10 * k) lent))
    (rw (drop_at rows (drop (10 * k) lent) (10 * k) (length_rows p k), drop-drop)))

-- Row 0 is 1; it may be written again.
module _ (p : Profile) (range : InRange p) (lent : List ℕ) {first : List ℕ} (written : first ≡ with_row 0 one lent) where
  row_0_written : first ≡ front_rows p 1 lent
  unfolding limbs_of
  row_0_written =
      let held : one ≡ limbs_of 10 (count_for p 0) = rw (one_word range) in
      front_next p 0 lent (front_none p lent) refl held written

  pub rows_begun : {i : ℕ} → i ≡ 0 → first ≡ front_rows p (i + 1) first
  rows_begun z =
      row_0_written ∙ sym (front_again p 1 1 lent (le_refl 1)) ∙ rw (← row_0_written, z)

  -- Where row m is reached the whole table is written.
  pub rows_built : {i : ℕ} {after : List ℕ} → i ≤ p.m → p.m ≤ i → after ≡ front_rows p (i + 1) first
      → after ≡ front_rows p (p.m + 1) lent
  rows_built {i} most least e =
      e ∙ rw (row_0_written, le_antisymm most least) (front_again p 1 (p.m + 1) lent (omega arith))
