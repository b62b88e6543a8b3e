-- Laws that stood in specs/CheckLaws, which no proof rests on now.
use Rattle.std.specs.Prelude.{◌≡◌, Bool, true, false, not, List, ℕ, zero, suc, ◌+◌, ◌*◌, ◌/◌, ◌%◌, ◌^◌, ◌≤◌, ◌<◌, eqb, length, get_or}
use Rattle.std.proofs.Common.{sym, ap, ◌∙◌, ⊎_elim, zero-le, le_of_eq, eq-or-lt_of_le, not-suc-le-zero, zero-add, mod-eq_of_lt, arith, eqb-true, eq-eqb, ne_eqb}
use Rattle.std.proofs.Math.Nat.{add-mul-div_left, add-mul-mod_self_left, div-eq_of_lt}
use Rattle.limbs.specs.Limbs.{base, AllLimbs, value, number_at}
use Rattle.limbs.specs.HoldingLaws.{number_at_all}
use Rattle.limbs.specs.ValueLaws.{power_positive, value-limbs_of_below, number_at_more, number_at_below}
use Rattle.replies.specs.declared.Profile.{Profile}
use Rattle.replies.specs.Replies.{refused}
use Rattle.replies.specs.Ranges.{InRange}
use Rattle.tables.specs.declared.counting.Stage.{Stage}
use Rattle.tables.specs.Tables.{table_length, row_right, Belongs, table_refusal}
use Rattle.tables.specs.TableLaws.{not_wrong, table_wrong, belongs_first, belongs_more}
use Rattle.tables.proofs.KeptTableLaws.{not_right}
use Rattle.tables.specs.Counting.{one, Advanced}
use Rattle.tables.specs.CountingLaws.{one_word, count_in_ten}

-- Two numbers of n limbs that are the same have the same limb at each place.
same_limbs : (n : ℕ) (l : List ℕ) (at : ℕ) (r : List ℕ) (to : ℕ) → AllLimbs l → AllLimbs r → number_at n l at ≡ number_at n r to
    → (k : ℕ) → k < n → get_or l (at + k) 0 ≡ get_or r (to + k) 0
same_limbs zero l at r to all_l all_r same k inside = absurd (not-suc-le-zero inside)
same_limbs (suc n) l at r to all_l all_r same k inside =
    let split = sym (number_at_more n l at) ∙ same ∙ number_at_more n r to in
    let small_l = number_at_below n l at all_l in
    let small_r = number_at_below n r to all_r in
    ⊎_elim
    (λ (e : k ≡ n). rw e (sym (above_part _ small_l) ∙ ap (λ (v : ℕ). v / base ^ n) split ∙ above_part _ small_r))
    (λ (less : k < n). same_limbs n l at r to all_l all_r (sym (below_part _ small_l) ∙ ap (λ (v : ℕ). v % base ^ n) split ∙ below_part _ small_r) k less)
    (eq-or-lt_of_le {n = k} {m = n} (omega arith))
  where
    above_part : {low : ℕ} (limb : ℕ) → low < base ^ n → (low + base ^ n * limb) / base ^ n ≡ limb
    above_part {low} limb small = rw (add-mul-div_left low limb (power_positive n), div-eq_of_lt small, zero-add)

    below_part : {low : ℕ} (limb : ℕ) → low < base ^ n → (low + base ^ n * limb) % base ^ n ≡ low
    below_part {low} limb small = add-mul-mod_self_left low (base ^ n) limb ∙ mod-eq_of_lt small

-- A number of ten limbs is compared with a row, from the lowest limb up.
module _ (number table : List ℕ) (at : ℕ) where
  -- Where a limb differs, the row does not hold the number.
  pub limb_differs : {k : ℕ} → length number ≡ 10 → AllLimbs number → AllLimbs table → k < 10 → (get_or number k 0 ≡ get_or table (at + k) 0 → ⊥)
      → true ≡ not (eqb (number_at 10 table at) (value number))
  limb_differs {k} ten all_n all_t inside other =
      let whole = number_at_all 10 number (le_of_eq ten) in
      rw (ne_eqb (number_at 10 table at) (value number) (λ e. other (rw zero-add at (same_limbs 10 number 0 table at all_n all_t (whole ∙ sym e) k inside))))

  -- Where the ten limbs are the same, it does.
  pub limbs_same : length number ≡ 10 → number_at 10 number 0 ≡ number_at 10 table at → false ≡ not (eqb (number_at 10 table at) (value number))
  limbs_same ten same = rw (eq-eqb (number_at 10 table at) (value number) (sym same ∙ number_at_all 10 number (le_of_eq ten)))

-- Row i was compared with N(i): it is wrong or right.
module _ {p : Profile} (table : List ℕ) (range : InRange p) (long : table_length p.m ≤ length table) where
  -- Row 0 is 1.
  first_row : {found : Bool} → found ≡ not (eqb (number_at 10 table 0) (value one)) → found ≡ not (row_right p table 0)
  unfolding value
  first_row e = e ∙ rw (one_word range)

  pub first_row_wrong : {found : Bool} → found ≡ not (eqb (number_at 10 table 0) (value one)) → found ≡ true → table_refusal p table ≡ refused 6 0
  first_row_wrong e f = table_wrong p table long 0 zero-le (λ k l. absurd (omega arith)) (not_right _ (sym (first_row e) ∙ f))

  pub first_row_right : {i : ℕ} {found : Bool} → i ≡ 0 → found ≡ not (eqb (number_at 10 table 0) (value one)) → found ≡ false
      → Belongs p i table
  first_row_right z e f = rw z (belongs_first p table (omega arith) (eqb-true _ _ (not_wrong _ (sym (first_row e) ∙ f))))

  -- The row after those that are right.
  module _ {at after : Stage} {next fresh : List ℕ} (before : Belongs p at.i table) (step : Advanced p at after next fresh)
      {found : Bool} (compared : found ≡ not (eqb (number_at 10 table (10 * after.i)) (value next))) where
    inside : at.i + 1 ≤ p.m
    inside = rw step.row at step.counted.inside

    next_row : found ≡ not (row_right p table (at.i + 1))
    next_row = compared ∙ rw (step.row, step.held, value-limbs_of_below 10 (count_in_ten p range (at.i + 1) inside))

    pub next_row_wrong : found ≡ true → table_refusal p table ≡ refused 6 after.i
    next_row_wrong f =
        rw step.row (table_wrong p table long (at.i + 1) inside (λ k l. before.rows k (omega arith)) (not_right _ (sym next_row ∙ f)))

    pub next_row_right : found ≡ false → Belongs p after.i table
    next_row_right f =
        let fits = inside in
        rw step.row (belongs_more p at.i table before (omega arith) (eqb-true _ _ (not_wrong _ (sym next_row ∙ f))))
