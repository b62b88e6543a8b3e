-- Laws of the shorter tasks: the whole word is the first one, the limbs in use are enough, and a settled level leaves the next one.
use Rattle.std.specs.Prelude.{◌≡◌, refl, Bool, List, ◌∷◌, ℕ, zero, suc, ◌+◌, ◌-◌, ◌*◌, ◌^◌, ◌≤◌, ◌<◌, length, take, drop, replicate}
use Rattle.std.proofs.Common.{ap, ◌∙◌, sym, le_trans, lt_of_lt_of_le, lt_of_le_of_lt, le_refl, le_of_lt, zero-add, sub-one, arith, length-take}
use Rattle.std.proofs.Math.Path.{fun_ext}
use Rattle.limbs.specs.Limbs.{base, number_at, holding, AllLimbs, used}
use Rattle.limbs.specs.ValueLaws.{number_at_below, lowest_limbs, zeros_hold}
use Rattle.limbs.specs.HoldingLaws.{length_holding, number_at_holding_below}
use Rattle.limbs.specs.UsedLaws.{used-length, number_at_below_used}
use Rattle.replies.specs.declared.Profile.{Profile}
use Rattle.replies.specs.Ranges.{InRange}
use Rattle.patterns.specs.Walk.{guard_after, walk}
use Rattle.listing.specs.Listing.{word_of}
use Rattle.code.specs.Code.{word, published}
use Rattle.code.proofs.Sizes.{counts_rise}
use Rattle.code.specs.Stretches.{following}
use Rattle.code.proofs.Stretches.{legal_walks}
use Rattle.tables.specs.Tables.{Belongs}
use Rattle.tables.specs.TableLaws.{belongs_fewer, row_stands}
use Rattle.division.specs.Division.{times_in, left_over}
use Rattle.profiles.specs.Profiles.{word_count, patterns_of, count_for, word_for}
use Rattle.word_of_index.specs.Settling.{Goes, times_go, level_first, left_follows}
use Rattle.word_of_index.specs.Tasks.{word_behind, weight_behind, low_cells, level_of, left_by, Task}
use Rattle.word_of_index.specs.WeightLaws.{open_legal, most_open, guard_within}
use Rattle.word_of_index.specs.WeightLaws.{weight_open, weight_guarded, weight_positive, weight_within}

-- The whole word is the first task, in an open stretch.
pub open_word : (p : Profile) (i : ℕ) → 1 < p.q → word_behind p 0 p.m i ≡ word_for p i
unfolding word_behind word
open_word p i = go p.q
  where
    go : (q : ℕ) → 1 < q → word_of q (walk (published q p.x) 0) p.m i ≡ word q p.x p.m i
    go zero l = absurd (omega arith)
    go (suc t) l = rw sub-one (ap (λ (test : List ℕ → Bool). word_of (suc t) test p.m i) (fun_ext (legal_walks t p.x)))

pub first_task : (p : Profile) (table rest : List ℕ) → InRange p → Belongs p p.m table → AllLimbs table → 10 ≤ length rest
    → number_at 10 rest 0 < word_count p → Task p 0 p.m table 10 rest
first_task p table rest r b all l h = record {
  levels = r.levels;
  reach = r.reach;
  within = omega arith;
  belongs = b;
  few = le_refl 10;
  room = l;
  fits = rw (b.rows p.m (le_refl _)) at (number_at_below 10 table (10 * p.m) all);
  below = rw (open_legal _ _ _ r.levels.least) h;
}

-- The same task by k limbs in place of n.
pub record Narrowed (p : Profile) (guard left : ℕ) (table : List ℕ) (n k : ℕ) (rest : List ℕ) : Type 0 where
  pub task : Task p guard left table k rest
  pub same : number_at k rest 0 ≡ number_at n rest 0

-- What a settled level leaves of a task at the index i: the level is at most top, and the rest is the next task.
pub record Next (p : Profile) (guard left : ℕ) (table : List ℕ) (n i level : ℕ) (after : List ℕ) : Type 0 where
  pub most : level ≤ p.q - 1
  pub task : Task p (guard_after (patterns_of p) guard level) (left - 1) table n after
  pub spelt : word_behind p guard left i
      ≡ level ∷ word_behind p (guard_after (patterns_of p) guard level) (left - 1) (number_at n after 0)

level_spelt : (p : Profile) (g left i k : ℕ) → 1 < p.q → 0 < left → Goes (p.q - 1) i (weight_behind p g (left - 1)) k → i < following (p.q - 1) p.x g left
    → word_behind p g left i ≡ k ∷ word_behind p (guard_after (patterns_of p) g k) (left - 1) (i - k * weight_behind p g (left - 1))
unfolding word_behind weight_behind
level_spelt p g left i k l h goes below =
    let top : suc (p.q - 1) ≡ p.q = omega arith in
    let more : suc (left - 1) ≡ left = omega arith in
    rw (top, more) at (level_first (p.q - 1) p.x g (left - 1) i k goes (rw more below))

level_left : (p : Profile) (g left i k : ℕ) → 0 < left → Goes (p.q - 1) i (weight_behind p g (left - 1)) k → i < following (p.q - 1) p.x g left
    → i - k * weight_behind p g (left - 1) < following (p.q - 1) p.x (guard_after (patterns_of p) g k) (left - 1)
unfolding weight_behind
level_left p g left i k h goes below =
    let more : suc (left - 1) ≡ left = omega arith in
    left_follows (p.q - 1) p.x g (left - 1) i k goes (rw more below)

left_by_level : (cap i w k : ℕ) → k ≡ times_in cap i w → left_over cap i w ≡ i - k * w
unfolding left_over
left_by_level cap i w k e = rw e

module _ {p : Profile} {guard left : ℕ} {table : List ℕ} {n : ℕ} {rest : List ℕ} (task : Task p guard left table n rest) where
  least : 1 < p.q
  least = task.levels.least

  -- The counts of fewer cells fit too, ..
  pub fewer_fit : (i : ℕ) → i ≤ left → count_for p i < base ^ n
  fewer_fit i l = lt_of_le_of_lt (counts_rise _ _ i left least l) task.fits

  -- .. and stand in the n lowest limbs of their rows.
  pub row_right_lem : (i : ℕ) → i ≤ left → number_at n table (10 * i) ≡ count_for p i
  row_right_lem = row_stands p left n table least task.belongs task.few task.fits

  -- The task by the limbs that its largest count uses.
  pub narrowed : AllLimbs table → {k : ℕ} → k ≡ used (take n (drop (10 * left) table)) → Narrowed p guard left table n k rest
  narrowed all {k} e =
      let no_more : k ≤ n = rw e (omega (arith, used-length (take n (drop (10 * left) table)), length-take n (drop (10 * left) table))) in
      let holds : count_for p left < base ^ k = rw (e, ← row_right_lem left (le_refl left)) (number_at_below_used n table (10 * left) all) in
      let small = lt_of_lt_of_le (lt_of_lt_of_le task.below (most_open _ _ guard left least)) (le_of_lt holds) in
      let same = lowest_limbs k n rest 0 no_more small in
      record {
        task = record {
          levels = task.levels;
          reach = task.reach;
          within = task.within;
          belongs = task.belongs;
          few = le_trans no_more task.few;
          room = le_trans no_more task.room;
          fits = holds;
          below = rw same task.below;
        };
        same = same;
      }

  -- The weight of the leftmost cell is not 0, and the division by it settles the level.
  pub weighs_some : {w : ℕ} → w ≡ weight_behind p guard (left - 1) → 0 < w
  weighs_some e = rw e (weight_positive p guard (left - 1) least task.within)

  pub settled_by : (i : ℕ) {w level : ℕ} {after : List ℕ} → w ≡ weight_behind p guard (left - 1)
      → (level ≡ times_in (p.q - 1) i w) × (after ≡ holding n (left_over (p.q - 1) i w) rest)
      → (level ≡ level_of p guard left i) × (after ≡ holding n (left_by p guard left i) rest)
  settled_by i e d = rw e at d

  module _ (some : 0 < left) where
    -- In an open stretch a row of the table holds it.
    pub row_weighs : guard ≤ 1 → number_at n table (10 * (left - 1)) ≡ weight_behind p guard (left - 1)
    row_weighs h = row_right_lem (left - 1) (omega arith) ∙ sym (weight_open p guard (left - 1) least h)

    -- In a guarded one it is made in limbs that were all 0.
    pub weight_made : {k power : ℕ} {weight : List ℕ} → k ≡ low_cells guard (left - 1) → power ≡ (p.q - 1) ^ k
        → weight ≡ holding n (number_at n (replicate 10 0) 0 + number_at n table (10 * (left - 1 - k)) * power) (replicate 10 0)
        → number_at n weight 0 ≡ weight_behind p guard (left - 1)
    weight_made {k} {power} e f made =
        let i = left - 1 in
        let row = row_right_lem (i - k) (omega arith) in
        let guarded = weight_guarded p guard i least task.within in
        let held = rw (zeros_hold n 10, zero-add, row, f, e, ← guarded) at made in
        let small = lt_of_le_of_lt (weight_within p guard i least) (fewer_fit i (omega arith)) in
        rw held (number_at_holding_below n (replicate 10 0) small)

    -- A settled level leaves the next task.
    pub next_task : {level : ℕ} {after : List ℕ} → level ≡ level_of p guard left (number_at n rest 0)
        → after ≡ holding n (left_by p guard left (number_at n rest 0)) rest → Next p guard left table n (number_at n rest 0) level after
    next_task {level} {after} e f =
        let i = number_at n rest 0 in
        let w = weight_behind p guard (left - 1) in
        let goes : Goes (p.q - 1) i w level = rw e (times_go (p.q - 1) i w (weighs_some refl)) in
        let follows = level_left p guard left i level some goes task.below in
        let fits = fewer_fit (left - 1) (omega arith) in
        let small = lt_of_lt_of_le follows (le_trans (most_open _ _ _ (left - 1) least) (le_of_lt fits)) in
        let held : after ≡ holding n (i - level * w) rest = rw (left_by_level (p.q - 1) i w level e) at f in
        let kept : number_at n after 0 ≡ i - level * w = rw held (number_at_holding_below n rest small) in
        record {
          most = goes.most;
          task = record {
            levels = task.levels;
            reach = task.reach;
            within = guard_within p guard level task.within;
            belongs = belongs_fewer p (left - 1) left table (omega arith) task.belongs;
            few = task.few;
            room = rw (held, length_holding n (i - level * w) rest task.room) task.room;
            fits = fits;
            below = rw kept follows;
          };
          spelt = rw kept (level_spelt p guard left i level least some goes task.below);
        }

-- One cell: the task is narrowed to the limbs in use, and its leftmost level settled.
pub cell_settled : {p : Profile} {guard left : ℕ} {table : List ℕ} {n : ℕ} {rest : List ℕ} → Task p guard left table n rest → 0 < left → AllLimbs table
    → {k : ℕ} → k ≡ used (take n (drop (10 * left) table)) → {level : ℕ} {after : List ℕ}
    → level ≡ level_of p guard left (number_at k rest 0) → after ≡ holding k (left_by p guard left (number_at k rest 0)) rest
    → Next p guard left table k (number_at n rest 0) level after
cell_settled task l all u e f =
    let few = narrowed task all u in
    rw few.same at (next_task few.task l e f)
