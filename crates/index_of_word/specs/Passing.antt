-- Past the cells of a word: the row that each kind of stretch counts leads on to what is left.
use Rattle.std.specs.Prelude.{◌≡◌, true, List, ℕ, suc, ◌+◌, ◌-◌, ◌*◌, ◌^◌, ◌≤◌, ◌<◌, length, take, drop, get_or, min}
use Rattle.std.proofs.Math.Seq.{take-length}
use Rattle.std.proofs.lemmas.List.{length-take-le}
use Rattle.tables.specs.PowerLaws.{power_within}
use Rattle.std.proofs.Common.{refl, ◌∙◌, le_refl, le_trans, zero-add, add-one, sub-one, arith, length-drop, drop-cons, drop-drop}
use Rattle.listing.specs.Listing.{all_below}
use Rattle.index_of_word.specs.IndexBehind.{digits, guarded_cells, guarded_row, guarded_factor, first_low}
use Rattle.index_of_word.specs.Levels.{factor_small, times_within, Few, guarded_few, least_guarded, digits_within, GuardedRun}
use Rattle.index_of_word.specs.Parts.{open_low, open_top, guarded_top, guarded_levels_low, guarded_levels_part}
use Rattle.index_of_word.specs.Counts.{Countable, Addable, addable, with_more, Leads, leads}

-- The cell at i, and those on its right.
cells_left : (cells : List ℕ) (i : ℕ) → i < length cells → length cells - i ≡ suc (length (drop (suc i) cells))
cells_left cells i l = rw length-drop (omega arith)

-- Guarded cells, the first of them below top, are all below top.
pub guarded_all_low : (t x : ℕ) (cells : List ℕ) (i k : ℕ) {counts : List ℕ} → i < length cells → (get_or cells i 0 ≡ t → ⊥)
    → Countable t x (suc x) (drop i cells) counts → k ≤ x → all_below t (take k (drop i cells)) ≡ true
guarded_all_low t x cells i k l low s h =
    let walks = rw (drop-cons cells i 0 l) at s.walks in
    rw (drop-cons cells i 0 l)
    (guarded_levels_low t x k _ _ h walks (first_low t x (get_or cells i 0) (drop (suc i) cells) walks.levelled low))

-- From the cell at i on.
module _ (t x : ℕ) (cells : List ℕ) (i : ℕ) (l : i < length cells) {counts : List ℕ} where
  -- A cell below top in an open stretch.
  pub past_low : (get_or cells i 0 ≡ t → ⊥) → Countable t x 0 (drop i cells) counts
      → Leads t x 0 (drop i cells) counts 0 (drop (i + 1) cells) (with_more (length cells - i - 1) (get_or cells i 0) counts)
  past_low low s =
      let c = rw (drop-cons cells i 0 l) at s in
      let first = first_low t x (get_or cells i 0) (drop (suc i) cells) c.walks.levelled low in
      rw (add-one, cells_left cells i l, sub-one, drop-cons cells i 0 l)
      (leads _ _ c (open_low t x _ _ c.walks low) (omega arith) (omega (arith, s.levels.most)))

  -- A top in an open stretch.
  pub past_top : get_or cells i 0 ≡ t → Countable t x 0 (drop i cells) counts
      → Leads t x 0 (drop i cells) counts (suc x) (drop (i + 1) cells) (with_more (length cells - i - 1) (get_or cells i 0) counts)
  past_top top s =
      let c = rw (drop-cons cells i 0 l, top) at s in
      rw (add-one, cells_left cells i l, sub-one, drop-cons cells i 0 l, top)
      (leads _ _ c (open_top t x _ c.walks) (omega arith) (omega (arith, s.levels.most)))

  -- A top behind a top.
  pub past_guarded_top : {k number : ℕ} {next : List ℕ} → get_or cells i 0 ≡ t → Countable t x (suc x) (drop i cells) counts
      → k ≡ guarded_cells x (length cells - i) → number ≡ t ^ k → number ≤ 31 ^ 8
      → next ≡ with_more (guarded_row x (length cells - i)) (number * guarded_factor t x (length cells - i)) counts
      → Leads t x (suc x) (drop i cells) counts (suc x) (drop (i + 1) cells) next
  past_guarded_top top s d f h e =
      let c = rw (drop-cons cells i 0 l, top) at s in
      let few = times_within h (factor_small x (length cells - i) s.levels.most) in
      rw (e, f, d, add-one, cells_left cells i l, drop-cons cells i 0 l, top)
      (leads _ _ c (guarded_top t x _ c.walks) (omega arith) (rw (f, d, cells_left cells i l) at few))

  -- Guarded cells, the first of them below top.
  pub past_guarded : {k number : ℕ} {next : List ℕ} → (get_or cells i 0 ≡ t → ⊥) → Countable t x (suc x) (drop i cells) counts
      → k ≡ guarded_cells x (length cells - i) → number ≡ digits t 0 (take k (drop i cells)) → number ≤ 31 ^ 8
      → next ≡ with_more (guarded_row x (length cells - i)) (number * guarded_factor t x (length cells - i)) counts
      → Leads t x (suc x) (drop i cells) counts 0 (drop (i + k) cells) next
  past_guarded low s d f h e =
      let c = rw (drop-cons cells i 0 l) at s in
      let first = first_low t x (get_or cells i 0) (drop (suc i) cells) c.walks.levelled low in
      let few = times_within h (factor_small x (length cells - i) s.levels.most) in
      rw (e, f, ← drop-drop, d, drop-cons cells i 0 l, cells_left cells i l)
      (leads _ _ c (guarded_levels_part t x _ _ s.reach.least c.walks first) (omega arith)
      (rw (f, d, drop-cons cells i 0 l, cells_left cells i l) at few))

-- From the cell at i on, just behind a top.
module _ (t x : ℕ) (cells : List ℕ) (i : ℕ) (l : i < length cells) {counts : List ℕ} (s : Countable t x (suc x) (drop i cells) counts) {k : ℕ}
    (e : k ≡ min x (length cells - i)) where
  pub few_guarded : Few x (length cells - i) k
  few_guarded = guarded_few s.reach.least (omega arith) (e ∙ least_guarded x (length cells - i))

  eight : k ≤ 8
  eight = le_trans few_guarded.most s.reach.most

  inside_rows : guarded_row x (length cells - i) < length (drop i cells)
  inside_rows = rw length-drop (omega arith)

  -- A top: its row may be counted, and leads on to what stands behind it.
  module _ {number : ℕ} (power : number ≡ t ^ k) where
    small_power : number ≤ 31 ^ 8
    small_power = rw power (power_within s.levels.most eight)

    pub top_addable : Addable t x (length cells - i) number counts
    top_addable = addable s inside_rows small_power

    pub past_first_top : {next : List ℕ} → get_or cells i 0 ≡ t
        → next ≡ with_more (guarded_row x (length cells - i)) (number * guarded_factor t x (length cells - i)) counts
        → Leads t x (suc x) (drop i cells) counts (suc x) (drop (i + 1) cells) next
    past_first_top top f = past_guarded_top t x cells i l top s (e ∙ least_guarded x (length cells - i)) power small_power f

  -- Guarded cells, the first of them below top: they are read as one number, their row may be counted, and leads on to what stands behind them.
  module _ (low : get_or cells i 0 ≡ t → ⊥) where
    abbrev run : List ℕ
    run = take k (drop i cells)

    all_low : all_below t run ≡ true
    all_low = guarded_all_low t x cells i k l low s few_guarded.most

    cut : take (i + k - i) (drop i cells) ≡ run
    cut = let many : i + k - i ≡ k = omega arith in rw many refl

    long : length run ≡ k
    long = length-take-le k (drop i cells) (rw length-drop few_guarded.inside)

    run_guarded : GuardedRun t (length run) 0 run
    run_guarded = record {
      small = s.levels.most;
      few = rw long eight;
      inside = rw zero-add (le_refl _);
      low = rw take-length all_low;
    }

    pub guarded_run : GuardedRun t (length (take (i + k - i) (drop i cells))) 0 (take (i + k - i) (drop i cells))
    guarded_run = rw cut run_guarded

    module _ {number : ℕ} (read : number ≡ digits t 0 (take (i + k - i) (drop i cells))) where
      read_run : number ≡ digits t 0 run
      read_run = rw cut at read

      small_number : number ≤ 31 ^ 8
      small_number = rw read_run (digits_within t k (drop i cells) s.levels.most eight all_low)

      pub guarded_addable : Addable t x (length cells - i) number counts
      guarded_addable = addable s inside_rows small_number

      pub past_first_guarded : {next : List ℕ}
          → next ≡ with_more (guarded_row x (length cells - i)) (number * guarded_factor t x (length cells - i)) counts
          → Leads t x (suc x) (drop i cells) counts 0 (drop (i + k) cells) next
      past_first_guarded f = past_guarded t x cells i l low s (e ∙ least_guarded x (length cells - i)) read_run small_number f
