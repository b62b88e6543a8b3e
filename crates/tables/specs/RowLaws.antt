-- Laws of rows: what writing one more does, and that rows written from the front belong.
use Rattle.std.specs.Prelude.{◌≡◌, List, ◌++◌, ℕ, zero, suc, ◌+◌, ◌*◌, ◌≤◌, ◌<◌, length, get_or, set, take, drop}
use Rattle.std.proofs.Math.Path.{refl}
use Rattle.std.proofs.Common.{sym, ap, ◌∙◌, append_assoc, ⊎_elim, eq-or-lt_of_le, mul-suc, le_refl, le_of_eq, add-one, arith, length-append, take_all, take_at, drop_at, drop-drop}
use Rattle.std.proofs.Math.Seq.{paste, paste-suc}
use Rattle.limbs.specs.Limbs.{value, limbs_of, number_at}
use Rattle.limbs.specs.ValueLaws.{length-limbs_of, value-limbs_of_below}
use Rattle.replies.specs.declared.Profile.{Profile}
use Rattle.replies.specs.Ranges.{InRange}
use Rattle.profiles.specs.Profiles.{count_for}
use Rattle.tables.specs.Tables.{table_of, Belongs, rows_below}
use Rattle.tables.specs.Counting.{one}
use Rattle.tables.specs.Rows.{with_row, front_rows}
use Rattle.tables.specs.CountingLaws.{one_word, count_in_ten}

-- One limb more of a row.
pub stored : (before : List ℕ) (at : ℕ) (number : List ℕ) (k : ℕ) {out : List ℕ} → out ≡ paste before at number k
    → at + k < length before → k < length number → set out (at + k) (get_or number k 0) ≡ paste before at number (k + 1)
stored before at number k o inside some = rw (o, add-one) (paste-suc before at number k 0 inside some)

-- Ten limbs a row.
pub length_rows : (p : Profile) (n : ℕ) → length (rows_below p n) ≡ 10 * n
unfolding rows_below
length_rows p zero = refl
length_rows p (suc n) = rw (length-append, length_rows p n, length-limbs_of, mul-suc)

-- Before any row is written the list is as it was.
pub front_none : (p : Profile) (lent : List ℕ) → lent ≡ front_rows p 0 lent
unfolding front_rows rows_below
front_none p lent = refl

-- Row n written behind the first n rows.
pub front_more : (p : Profile) (n : ℕ) (lent : List ℕ) → with_row n (limbs_of 10 (count_for p n)) (front_rows p n lent) ≡ front_rows p (n + 1) lent
unfolding front_rows rows_below
front_more p n lent =
    let next : 10 * suc n ≡ 10 * n + 10 = mul-suc 10 n in
    let whole = le_of_eq (length-limbs_of 10 (count_for p n)) in
    rw (
      add-one,
      next,
      append_assoc,
      take_at (rows_below p n) (drop (10 * n) lent) (10 * n) (length_rows p n),
      take_all 10 (limbs_of 10 (count_for p n)) whole,
      ← drop-drop 10 (10 * n) (rows_below p n ++ drop (10 * n) lent),
      drop_at (rows_below p n) (drop (10 * n) lent) (10 * n) (length_rows p n),
      drop-drop 10 (10 * n) lent,
    )
    (sym (append_assoc (rows_below p n) (limbs_of 10 (count_for p n)) _))

-- Row i of rows up to n - 1 holds N(i).
row_at : (p : Profile) (n i : ℕ) (rest : List ℕ) → i < n → take 10 (drop (10 * i) (rows_below p n ++ rest)) ≡ limbs_of 10 (count_for p i)
unfolding rows_below
row_at p zero i rest l = absurd (omega arith)
row_at p (suc n) i rest l = rw append_assoc (⊎_elim
    (λ (s : i ≡ n). rw (s, drop_at (rows_below p n) (limbs_of 10 (count_for p n) ++ rest) (10 * n) (length_rows p n))
    (take_at (limbs_of 10 (count_for p n)) rest 10 (length-limbs_of 10 (count_for p n))))
    (λ (s : i < n). row_at p n i (limbs_of 10 (count_for p n) ++ rest) s)
    (eq-or-lt_of_le {n = i} {m = n} (omega arith)))

-- Rows 0 to i, and what follows them, belong.
rows_belong : (p : Profile) → InRange p → (i : ℕ) (rest : List ℕ) → i ≤ p.m → Belongs p i (rows_below p (i + 1) ++ rest)
unfolding number_at
rows_belong p range i rest l =
    record {
      long = rw (length-append, length_rows) (omega arith);
      rows = λ k h. ap value (row_at p (i + 1) k rest (omega arith)) ∙ value-limbs_of_below 10 (count_in_ten p range k (omega arith));
    }

pub front_belongs : (p : Profile) → InRange p → (i : ℕ) (lent : List ℕ) {out : List ℕ} → i ≤ p.m → out ≡ front_rows p (i + 1) lent
    → Belongs p i out
unfolding front_rows
front_belongs p range i lent l e = rw e (rows_belong p range i (drop (10 * (i + 1)) lent) l)

-- The table of a profile belongs to it, whatever follows.
pub built_belongs : (p : Profile) → InRange p → (rest : List ℕ) → Belongs p p.m (table_of p ++ rest)
built_belongs p range rest = rows_belong p range p.m rest (le_refl _)

-- What storing N(i) as row i leaves, behind the rows before it.
pub front_next : (p : Profile) (i : ℕ) (lent : List ℕ) {j : ℕ} {number out after : List ℕ} → out ≡ front_rows p i lent → j ≡ i → number ≡ limbs_of 10 (count_for p i)
    → after ≡ with_row j number out → after ≡ front_rows p (j + 1) lent
front_next p i lent o e h a = a ∙ rw (o, h, e) (front_more p i lent)

-- Row 0 is 1.
pub row_0_written : (p : Profile) → InRange p → (lent : List ℕ) {first : List ℕ} → first ≡ with_row 0 one lent → first ≡ front_rows p 1 lent
unfolding limbs_of
row_0_written p range lent written =
    let held : one ≡ limbs_of 10 (count_for p 0) = rw (one_word range) in
    front_next p 0 lent (front_none p lent) refl held written

-- The whole table from the front of a lent list.
pub table_front : (p : Profile) (lent : List ℕ) → front_rows p (p.m + 1) lent ≡ table_of p ++ drop (length (table_of p)) lent
unfolding front_rows
table_front p lent = rw (length_rows p (p.m + 1))
