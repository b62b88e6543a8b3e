-- A table of another reach: its first rows agree, and it is refused at its first wrong row, which is 3 behind the lesser reach.
use Rattle.std.specs.Prelude.{◌≡◌, List, ◌++◌, ℕ, zero, suc, ◌+◌, ◌-◌, ◌*◌, ◌^◌, ◌≤◌, ◌<◌}
use Rattle.std.proofs.Common.{sym, ◌∙◌, one-mul, suc-mul, add-one, sub-one, arith, ne_eqb}
use Rattle.std.proofs.Math.Nat.{pow-succ', one-le-pow, min-eq_left, min-eq_right}
use Rattle.replies.specs.declared.Profile.{Profile}
use Rattle.replies.specs.Replies.{done, refused, profile_of}
use Rattle.replies.specs.Ranges.{Between, InRange}
use Rattle.code.specs.Code.{N}
use Rattle.code.proofs.Stretches.{following_none}
use Rattle.code.proofs.Theorem1.{count_of_no_cells, count_of_one_cell}
use Rattle.profiles.specs.Profiles.{count_for}
use Rattle.tables.specs.Tables.{table_of, Belongs, table_refusal}
use Rattle.tables.specs.TableLaws.{table_wrong, table_right}
use Rattle.tables.specs.Counting.{after_top}
use Rattle.tables.specs.CountingLaws.{some_levels, count_next, after_top_next}
use Rattle.tables.specs.RowLaws.{built_belongs}

-- Up to x + 1 cells, a word that may follow a top is tops first and then cells below top: the reach has no part in it.
short_after_top : (q x i : ℕ) → 0 < q → i ≤ x → after_top q x (i + 1) ≡ after_top q x i + (q - 1) ^ (i + 1)
short_after_top q x i l h =
    let none : i - x ≡ 0 = omega arith in
    after_top_next q x i l ∙ rw (none, count_of_no_cells q x l, min-eq_left h, one-mul)

same_after_top : (q x y i : ℕ) → 0 < q → x ≤ y → i ≤ x + 1 → after_top q x i ≡ after_top q y i
same_after_top q x y zero l h k = following_none (q - 1) x (x + 1) ∙ sym (following_none (q - 1) y (y + 1))
same_after_top q x y (suc i) l h k =
    let inner = same_after_top q x y i l h (omega arith) in
    rw (← add-one i) (short_after_top q x i l (omega arith) ∙ rw inner (sym (short_after_top q y i l (omega arith))))

-- So the counts of two reaches agree up to row x + 2, x the lesser, ..
pub rows_agree : (q x y i : ℕ) → 0 < q → x ≤ y → i ≤ x + 2 → N q x i ≡ N q y i
rows_agree q x y zero l h k = count_of_no_cells q x l ∙ sym (count_of_no_cells q y l)
rows_agree q x y (suc i) l h k =
    let after = same_after_top q x y i l h (omega arith) in
    let row = rows_agree q x y i l h (omega arith) in
    rw (← add-one i) (count_next q x i l ∙ rw (after, row) (sym (count_next q y i l)))

one_level_more : (q p : ℕ) → 0 < q → q * p ≡ (q - 1) * p + p
one_level_more zero p l = absurd (omega arith)
one_level_more (suc t) p l = rw (sub-one, suc-mul)

more_after_top : (q x y : ℕ) → 1 < q → x < y → after_top q y (x + 2) < after_top q x (x + 2)
more_after_top q x y l h =
    let far : x + 1 - x ≡ 1 = omega arith in
    let two : x + 1 + 1 ≡ x + 2 = omega arith in
    let stopped = min-eq_right {n = x} {m = x + 1} (omega arith) in
    let shorter = rw (two, far, stopped, count_of_one_cell q x (omega arith)) at (after_top_next q x (x + 1) (omega arith)) in
    let longer = rw two at (short_after_top q y (x + 1) (omega arith) (omega arith)) in
    let same = same_after_top q x y (x + 1) (omega arith) (omega arith) (omega arith) in
    let some = one-le-pow (x + 1) (q - 1) (omega arith) in
    let levels = one_level_more q ((q - 1) ^ (x + 1)) (omega arith) in
    let power : (q - 1) ^ (x + 2) ≡ (q - 1) * (q - 1) ^ (x + 1) = rw (← two, add-one (x + 1), pow-succ' (q - 1) (x + 1)) in
    omega arith

-- .. and in row x + 3 the lesser reach has more words.
pub rows_part : (q x y : ℕ) → 1 < q → x < y → N q y (x + 3) < N q x (x + 3)
rows_part q x y l h =
    let three : x + 2 + 1 ≡ x + 3 = omega arith in
    let shorter = rw three at (count_next q x (x + 2) (omega arith)) in
    let longer = rw (three, ← rows_agree q x y (x + 2) (omega arith) (omega arith) (omega arith)) at (count_next q y (x + 2) (omega arith)) in
    let more = more_after_top q x y l h in
    omega arith

-- A profile, and the table of another reach, with anything behind it.
module _ (p : Profile) (range : InRange p) (y : ℕ) (reach : Between 1 8 y) (rest : List ℕ) where
  -- The profile of the other reach.
  abbrev other : Profile
  other = profile_of p.q p.m y

  other_rows : Belongs other p.m (table_of other ++ rest)
  other_rows =
      built_belongs other (record { levels = range.levels; length = range.length; reach = reach }) rest

  first_parted : (i : ℕ) → i ≤ p.m → ((k : ℕ) → k < i → count_for other k ≡ count_for p k) → (count_for other i ≡ count_for p i → ⊥)
      → table_refusal p (table_of other ++ rest) ≡ refused 6 i
  first_parted i l agree part =
      table_wrong p (table_of other ++ rest) other_rows.long i l (λ k h. other_rows.rows k (omega arith) ∙ agree k h)
      (ne_eqb _ _ (λ e. part (sym (other_rows.rows i l) ∙ e)))

  -- It is refused 3 rows behind the lesser reach, ..
  pub longer_reach_refused : p.x < y → p.x + 3 ≤ p.m → table_refusal p (table_of other ++ rest) ≡ refused 6 (p.x + 3)
  longer_reach_refused h l =
      let parts = rows_part _ _ y range.levels.least h in
      first_parted (p.x + 3) l (λ k j. sym (rows_agree _ _ y k (some_levels range) (omega arith) (omega arith))) (λ e. omega arith)

  pub shorter_reach_refused : y < p.x → y + 3 ≤ p.m → table_refusal p (table_of other ++ rest) ≡ refused 6 (y + 3)
  shorter_reach_refused h l =
      let parts = rows_part p.q y p.x range.levels.least h in
      first_parted (y + 3) l (λ k j. rows_agree p.q y p.x k (some_levels range) (omega arith) (omega arith)) (λ e. omega arith)

  -- .. and taken where it has no such row: every row that it needs is right.
  pub longer_reach_taken : p.x < y → p.m ≤ p.x + 2 → table_refusal p (table_of other ++ rest) ≡ done
  longer_reach_taken h l =
      table_right p (table_of other ++ rest) other_rows.long
      (λ i j. other_rows.rows i j ∙ sym (rows_agree _ _ y i (some_levels range) (omega arith) (omega arith)))

  pub shorter_reach_taken : y < p.x → p.m ≤ y + 2 → table_refusal p (table_of other ++ rest) ≡ done
  shorter_reach_taken h l =
      table_right p (table_of other ++ rest) other_rows.long
      (λ i j. other_rows.rows i j ∙ rows_agree p.q y p.x i (some_levels range) (omega arith) (omega arith))
