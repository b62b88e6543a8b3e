-- Laws of tables: one that is not refused belongs, and its rows may be read over the limbs in use alone.
use Rattle.std.specs.Prelude.{◌≡◌, refl, Bool, true, false, not, List, ℕ, zero, suc, ◌+◌, ◌*◌, ◌^◌, ◌≤◌, ◌<◌, length}
use Rattle.std.proofs.Common.{◌∙◌, true≢false, ⊎_elim, eq-or-lt_of_le, lt_of_le_of_lt, arith, ltb-false, lt-ltb, le-ltb, eqb-true, eq-eqb}
use Rattle.limbs.specs.Limbs.{base, number_at}
use Rattle.limbs.specs.ValueLaws.{lowest_limbs}
use Rattle.replies.specs.declared.Profile.{Profile}
use Rattle.replies.specs.Replies.{done, refused, refused_at_first, or_else}
use Rattle.replies.specs.ReplyLaws.{both_done, test_failed, holds_nowhere, first_refused, none_refused}
use Rattle.code.proofs.Sizes.{counts_rise}
use Rattle.profiles.specs.Profiles.{count_for}
use Rattle.tables.specs.Tables.{table_length, row_right, Belongs, table_refusal}

-- A row that is not wrong is right.
pub not_wrong : (right : Bool) → not right ≡ false → right ≡ true
not_wrong true e = refl
not_wrong false e = absurd (true≢false e)

-- A table that is not refused belongs.
pub table_belongs : (p : Profile) (table : List ℕ) → (table_refusal p table).number ≡ 0 → Belongs p p.m table
unfolding table_refusal
table_belongs p table e =
    let b = both_done _ _ e in
    let none = holds_nowhere (λ i. not (row_right p table i)) (p.m + 1) 5 b.second in
    record {
      long = ltb-false _ _ (test_failed _ 4 b.first);
      rows = λ i l. eqb-true _ _ (not_wrong _ (none i (omega arith) (omega arith)));
    }

-- A table with a wrong row, one that is too short, and one that belongs.
pub table_short : (p : Profile) (table : List ℕ) → length table < table_length p.m → table_refusal p table ≡ refused 5 0
unfolding table_refusal or_else
table_short p table l = rw (lt-ltb (length table) (table_length p.m) l)

module _ (p : Profile) (table : List ℕ) (long : table_length p.m ≤ length table) where
  rows_decide : table_refusal p table ≡ refused_at_first (λ i. not (row_right p table i)) (p.m + 1) 6
  unfolding table_refusal or_else
  rows_decide = rw (le-ltb (length table) (table_length p.m) long)

  pub table_wrong : (i : ℕ) → i ≤ p.m → ((k : ℕ) → k < i → number_at 10 table (10 * k) ≡ count_for p k) → row_right p table i ≡ false
      → table_refusal p table ≡ refused 6 i
  table_wrong i l before wrong =
      rows_decide ∙ first_refused _ (p.m + 1) 6 i (λ k _ h. rw (eq-eqb _ _ (before k h))) (rw wrong) (omega arith)

  pub table_right : ((i : ℕ) → i ≤ p.m → number_at 10 table (10 * i) ≡ count_for p i) → table_refusal p table ≡ done
  table_right rows = rows_decide ∙ none_refused _ (p.m + 1) 6 (λ k _ h. rw (eq-eqb _ _ (rows k (omega arith))))

-- A table belongs row by row.
pub belongs_first : (p : Profile) (table : List ℕ) → table_length 0 ≤ length table → number_at 10 table 0 ≡ count_for p 0 → Belongs p 0 table
belongs_first p table long e = record { long = long; rows = go }
  where
    go : (i : ℕ) → i ≤ 0 → number_at 10 table (10 * i) ≡ count_for p i
    go zero l = e
    go (suc i) l = absurd (omega arith)

pub belongs_more : (p : Profile) (i : ℕ) (table : List ℕ) → Belongs p i table → table_length (i + 1) ≤ length table
    → number_at 10 table (10 * (i + 1)) ≡ count_for p (i + 1) → Belongs p (i + 1) table
belongs_more p i table b long e =
    record { long = long; rows = λ k l. ⊎_elim (λ (s : k ≡ i + 1). rw s e) (λ (s : k < i + 1). b.rows k (omega arith)) (eq-or-lt_of_le l) }

-- A table that belongs to m cells belongs to fewer.
pub belongs_fewer : (p : Profile) (i m : ℕ) (table : List ℕ) → i ≤ m → Belongs p m table → Belongs p i table
belongs_fewer p i m table l b = record { long = let g = b.long in omega arith; rows = λ j h. b.rows j (omega arith) }

-- A row stands in as many limbs as the last one fits.
pub row_stands : (p : Profile) (m n : ℕ) (table : List ℕ) → 1 < p.q → Belongs p m table → n ≤ 10 → count_for p m < base ^ n
    → (i : ℕ) → i ≤ m → number_at n table (10 * i) ≡ count_for p i
row_stands p m n table l b few fits i h =
    let right = b.rows i h in
    lowest_limbs n 10 table (10 * i) few (rw right (lt_of_le_of_lt (counts_rise _ _ i m l h) fits)) ∙ right
