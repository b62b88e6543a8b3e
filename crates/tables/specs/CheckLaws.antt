-- Laws of the check: how a row is compared with a number, and what a row that is found right or wrong says of the whole table.
use Rattle.std.specs.Prelude.{cond, ltb, ◌≡◌, Bool, true, false, List, ℕ, zero, suc, ◌+◌, ◌*◌, ◌≤◌, eqb, length, ◌/◌, ◌%◌, ◌^◌, ◌<◌, get_or}
use Rattle.std.proofs.Common.{ltb-false, refl, sym, ap, ◌∙◌, zero-le, arith, eqb-true, eq-eqb, ne_eqb, ⊎_elim, le_of_eq, eq-or-lt_of_le, not-suc-le-zero, zero-add, mod-eq_of_lt, add-one}
use Rattle.limbs.specs.Limbs.{AllLimbs, value, number_at, base}
use Rattle.limbs.specs.ValueLaws.{value-limbs_of_below, power_positive, number_at_more, number_at_below}
use Rattle.replies.specs.declared.Profile.{Profile}
use Rattle.replies.specs.Replies.{done, refused, refused_if}
use Rattle.replies.specs.declared.Refusal.{Refusal}
use Rattle.replies.specs.declared.Reply.{Reply}
use Rattle.replies.specs.AnswerLaws.{refusal_decides}
use Rattle.replies.specs.Answers.{refusal_reply}
use Rattle.replies.specs.ReplyLaws.{test_failed}
use Rattle.tables.specs.WritingLaws.{refuses}
use Rattle.replies.specs.Ranges.{InRange}
use Rattle.profiles.specs.Profiles.{count_for}
use Rattle.tables.specs.declared.counting.Stage.{Stage}
use Rattle.tables.specs.Tables.{table_length, Belongs, row_refusal, table_refusal}
use Rattle.tables.specs.TableLaws.{table_right, table_wrong, belongs_first, belongs_more}
use Rattle.tables.specs.Counting.{one, Advanced}
use Rattle.tables.specs.CountingLaws.{one_word, count_in_ten}
use Rattle.std.proofs.Math.Nat.{add-mul-div_left, add-mul-mod_self_left, div-eq_of_lt}
use Rattle.limbs.specs.HoldingLaws.{number_at_all}

-- Two numbers of n limbs that are the same have the same limb at each place.
same_limbs : (n : ℕ) (l : List ℕ) (at : ℕ) (r : List ℕ) (to : ℕ) → AllLimbs l → AllLimbs r → number_at n l at ≡ number_at n r to
    → (k : ℕ) → k < n → get_or l (at + k) 0 ≡ get_or r (to + k) 0
same_limbs zero l at r to all_l all_r same k inside = absurd (not-suc-le-zero inside)
same_limbs (suc n) l at r to all_l all_r same k inside =
    let split = sym (number_at_more n l at) ∙ same ∙ number_at_more n r to in
    let small_l = number_at_below n l at all_l in
    let small_r = number_at_below n r to all_r in
    ⊎_elim
    (λ (e : k ≡ n). rw e (sym (above_part _ small_l) ∙ ap (λ (v : ℕ). v / base ^ n) split ∙ above_part _ small_r))
    (λ (less : k < n). same_limbs n l at r to all_l all_r (sym (below_part _ small_l) ∙ ap (λ (v : ℕ). v % base ^ n) split ∙ below_part _ small_r) k less)
    (eq-or-lt_of_le {n = k} {m = n} (omega arith))
  where
    above_part : {low : ℕ} (limb : ℕ) → low < base ^ n → (low + base ^ n * limb) / base ^ n ≡ limb
    above_part {low} limb small = rw (add-mul-div_left low limb (power_positive n), div-eq_of_lt small, zero-add)

    below_part : {low : ℕ} (limb : ℕ) → low < base ^ n → (low + base ^ n * limb) % base ^ n ≡ low
    below_part {low} limb small = add-mul-mod_self_left low (base ^ n) limb ∙ mod-eq_of_lt small

-- A number of ten limbs is compared with a row, from the lowest limb up.
module _ (number table : List ℕ) (at : ℕ) where
  -- Where limb k is the same, the first k + 1 limbs are.
  pub limb_same : (k : ℕ) → number_at k number 0 ≡ number_at k table at → get_or number k 0 ≡ get_or table (at + k) 0
      → number_at (k + 1) number 0 ≡ number_at (k + 1) table at
  limb_same k same e = rw (add-one, number_at_more k number 0, zero-add, number_at_more k table at, same, e)

  -- Where a limb differs, the row does not hold the number.
  pub limb_differs : {k : ℕ} → length number ≡ 10 → AllLimbs number → AllLimbs table → k < 10 → (get_or number k 0 ≡ get_or table (at + k) 0 → ⊥)
      → false ≡ eqb (number_at 10 table at) (value number)
  limb_differs {k} ten all_n all_t inside other =
      let whole = number_at_all 10 number (le_of_eq ten) in
      rw (ne_eqb (number_at 10 table at) (value number) (λ e. other (rw zero-add at (same_limbs 10 number 0 table at all_n all_t (whole ∙ sym e) k inside))))

  -- Where the ten limbs are the same, it does.
  pub limbs_same : length number ≡ 10 → number_at 10 number 0 ≡ number_at 10 table at → true ≡ eqb (number_at 10 table at) (value number)
  limbs_same ten same = rw (eq-eqb (number_at 10 table at) (value number) (sym same ∙ number_at_all 10 number (le_of_eq ten)))

-- A row that is refused is wrong, and one that is not is right.
row_found_wrong : (r : Refusal) (i v : ℕ) (table : List ℕ) → refusal_reply r ≡ row_refusal i v table
    → (eqb (number_at 10 table (10 * i)) v ≡ false) × (refusal_reply r ≡ refused 6 i)
row_found_wrong r i v table e = go (eqb (number_at 10 table (10 * i)) v) refl e
  where
    go : (right : Bool) → eqb (number_at 10 table (10 * i)) v ≡ right → refusal_reply r ≡ cond right done (refused 6 i)
        → (eqb (number_at 10 table (10 * i)) v ≡ false) × (refusal_reply r ≡ refused 6 i)
    go true right f = absurd (refuses r (ap (λ (a : Reply). a.number) f))
    go false other f = (other, f)

row_found_right : (i v : ℕ) (table : List ℕ) → done ≡ row_refusal i v table → number_at 10 table (10 * i) ≡ v
row_found_right i v table e = go (eqb (number_at 10 table (10 * i)) v) refl (ap (λ (a : Reply). a.number) e)
  where
    go : (right : Bool) → eqb (number_at 10 table (10 * i)) v ≡ right → 0 ≡ (cond right done (refused 6 i)).number → number_at 10 table (10 * i) ≡ v
    go true right f = eqb-true _ _ right
    go false other f = absurd (omega arith)

-- A table that is too short is refused, and one that is not has all its rows.
pub long_enough : (p : Profile) (table : List ℕ) → done ≡ refused_if (ltb (length table) (table_length p.m)) 5 → table_length p.m ≤ length table
long_enough p table e = ltb-false _ _ (test_failed _ 4 (sym (ap (λ (a : Reply). a.number) e)))

-- Row i was compared with N(i): it is wrong or right.
module _ {p : Profile} (table : List ℕ) (range : InRange p) (passed : done ≡ refused_if (ltb (length table) (table_length p.m)) 5) where
  long : table_length p.m ≤ length table
  long = long_enough p table passed

  -- Row 0 is 1.
  first_number : {row : List ℕ} → row ≡ one → value row ≡ count_for p 0
  unfolding value
  first_number o = rw o (sym (one_word range))

  pub first_row_wrong : (r : Refusal) {row : List ℕ} → row ≡ one → refusal_reply r ≡ row_refusal 0 (value row) table → refusal_reply r ≡ table_refusal p table
  first_row_wrong r o e =
      let wrong = row_found_wrong r 0 _ table e in
      wrong.1 ∙ sym (table_wrong p table long 0 zero-le (λ k l. absurd (omega arith)) (rw (first_number o) at wrong.0))

  pub first_row_right : {i : ℕ} {row : List ℕ} → i ≡ 0 → row ≡ one → done ≡ row_refusal 0 (value row) table → Belongs p i table
  first_row_right z o e = let fits = long in rw z (belongs_first p table (omega arith) (row_found_right 0 _ table e ∙ first_number o))

  -- The row after those that are right.
  module _ {at after : Stage} {next fresh : List ℕ} {i : ℕ} (before : Belongs p at.i table) (step : Advanced p at after next fresh) (row : at.i + 1 ≡ i) where
    inside : at.i + 1 ≤ p.m
    inside = rw step.row at step.counted.inside

    next_number : value next ≡ count_for p i
    next_number = rw (step.held, ← row) (value-limbs_of_below 10 (count_in_ten p range (at.i + 1) inside))

    pub next_row_wrong : (r : Refusal) → refusal_reply r ≡ row_refusal i (value next) table → refusal_reply r ≡ table_refusal p table
    next_row_wrong r e =
        let wrong = row_found_wrong r i _ table e in
        let fits = inside in
        wrong.1 ∙ sym (table_wrong p table long i (omega arith) (λ k l. before.rows k (omega arith)) (rw next_number at wrong.0))

    pub next_row_right : done ≡ row_refusal i (value next) table → Belongs p after.i table
    next_row_right e =
        let fits = inside in
        let all = long in
        let found = row_found_right i _ table e ∙ next_number in
        rw step.row (belongs_more p at.i table before (omega arith) (rw (← row) at found))

-- What a check of a table goes by.
pub ruleset table_checks = (refusal_decides, first_row_wrong, table_right, long_enough)
