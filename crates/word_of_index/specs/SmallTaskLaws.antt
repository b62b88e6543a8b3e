-- Laws of the tasks whose counts all fit one limb: the index is a number, a weight is one, and a settled level leaves the next such task.
use Rattle.std.specs.Prelude.{◌≡◌, ℕ, zero, suc, ◌-◌, ◌*◌, ◌^◌, min, ◌≤◌, ◌<◌, length, take, drop, get_or}
use Rattle.std.proofs.Common.{sym, ◌∙◌, lt_of_lt_of_le, lt_of_le_of_lt, le_of_lt, one-mul, add-zero, zero-add, mod-eq_of_lt, arith}
use mathlib.Core.List.{List, [], ◌∷◌}
use Rattle.replies.specs.declared.Profile.{Profile}
use Rattle.limbs.specs.Limbs.{base, number_at, value, limbs_of, holding, AllLimbs, used}
use Rattle.limbs.specs.ValueLaws.{number_at_more}
use Rattle.patterns.specs.Walk.{guard_after}
use Rattle.code.proofs.Sizes.{count_positive}
use Rattle.code.specs.Stretches.{following}
use Rattle.division.specs.Division.{times_in, left_over}
use Rattle.division.specs.DivisionLaws.{times_inside}
use Rattle.profiles.specs.Profiles.{patterns_of}
use Rattle.word_of_index.specs.Tasks.{word_behind, weight_behind, low_cells, level_of, left_by, Task, SmallTask}
use Rattle.word_of_index.specs.TaskLaws.{narrowed, fewer_fit, row_right_lem, row_weighs, weighs_some, next_task}
use Rattle.word_of_index.specs.WeightLaws.{most_open, weight_guarded, weight_within}

-- The number in one limb is the limb, ..
one_limb : (l : List ℕ) (at : ℕ) → number_at 1 l at ≡ get_or l at 0
unfolding number_at value
one_limb l at = rw (number_at_more 0 l at, one-mul, add-zero, zero-add)

-- .. and one limb that holds a number is the number.
limb_holding : (v i : ℕ) → v < base → holding 1 v (i ∷ []) ≡ v ∷ []
unfolding holding limbs_of
limb_holding v i small = rw (mod-eq_of_lt small)

-- A task at the index i is a small one at what the first limb of `rest` holds.
pub record Small (p : Profile) (guard left : ℕ) (table : List ℕ) (i : ℕ) (rest : List ℕ) : Type 0 where
  pub task : SmallTask p guard left table (get_or rest 0 0)
  pub same : get_or rest 0 0 ≡ i
  pub room : 0 < length rest

-- What a settled level leaves of a small task at the index i: the level is at most top, and the rest is the next task, at the index `after`.
pub record SmallNext (p : Profile) (guard left : ℕ) (table : List ℕ) (i level after : ℕ) : Type 0 where
  pub most : level ≤ p.q - 1
  pub task : SmallTask p (guard_after (patterns_of p) guard level) (left - 1) table after
  pub spelt : word_behind p guard left i ≡ level ∷ word_behind p (guard_after (patterns_of p) guard level) (left - 1) after

module _ {p : Profile} {guard left : ℕ} {table : List ℕ} where
  -- A task by one limb, at any index below the number of words that may follow.
  small_at : {rest : List ℕ} → Task p guard left table 1 rest → (i : ℕ) → i < following (p.q - 1) p.x guard left → SmallTask p guard left table i
  small_at task i below = record {
    levels = task.levels;
    reach = task.reach;
    within = task.within;
    belongs = task.belongs;
    few = task.few;
    room = omega arith;
    fits = task.fits;
    below = rw (one_limb (i ∷ []) 0) below;
  }

  -- A task by at most one limb is a small one: one limb is always in use, ..
  one_used : (n : ℕ) {rest : List ℕ} → Task p guard left table n rest → n ≤ 1 → Small p guard left table (number_at n rest 0) rest
  one_used zero task few = absurd (omega (arith, task.fits, count_positive p.q p.x left task.levels.least))
  one_used (suc zero) {rest} task few = record {
    task = small_at task (get_or rest 0 0) (rw (one_limb rest 0) at task.below);
    same = sym (one_limb rest 0);
    room = task.room;
  }
  one_used (suc (suc n)) task few = absurd (omega arith)

  -- .. and so is one whose largest count uses at most one.
  pub small_task : {n : ℕ} {rest : List ℕ} → Task p guard left table n rest → AllLimbs table
      → {k : ℕ} → k ≡ used (take n (drop (10 * left) table)) → k ≤ 1 → Small p guard left table (number_at n rest 0) rest
  small_task task all u few =
      let by-used = narrowed task all u in
      rw by-used.same at (one_used _ by-used.task few)

module _ {p : Profile} {guard left i : ℕ} {table : List ℕ} (task : SmallTask p guard left table i) where
  -- The weight does not go by the index: it is that of the task at 0.
  pub at_zero : SmallTask p guard left table 0
  at_zero = small_at task 0 (omega (arith, task.below))

  index_fits : i < base
  index_fits =
      let below = rw (one_limb (i ∷ []) 0) at task.below in
      lt_of_lt_of_le (lt_of_lt_of_le below (most_open p.q p.x guard left task.levels.least)) (le_of_lt task.fits)

  module _ (some : 0 < left) where
    -- In an open stretch a limb of the table is the weight, ..
    pub limb_weighs : guard ≤ 1 → get_or table (10 * (left - 1)) 0 ≡ weight_behind p guard (left - 1)
    limb_weighs h = sym (one_limb table (10 * (left - 1))) ∙ row_weighs task some h

    -- .. and in a guarded one an earlier limb of it times a power.
    pub product_weighs : {k power : ℕ} → k ≡ low_cells guard (left - 1) → power ≡ (p.q - 1) ^ k
        → get_or table (10 * (left - 1 - k)) 0 * power ≡ weight_behind p guard (left - 1)
    product_weighs {k} e f =
        let row = sym (one_limb table (10 * (left - 1 - k))) ∙ row_right_lem task (left - 1 - k) (omega arith) in
        rw (row, f, e) (sym (weight_guarded p guard (left - 1) task.levels.least task.within))

    -- It fits one limb.
    pub weight_fits : weight_behind p guard (left - 1) < base
    weight_fits = lt_of_le_of_lt (weight_within p guard (left - 1) task.levels.least) (fewer_fit task (left - 1) (omega arith))

    -- The level is how often the weight goes into the index, which is at most 31 times: it can be taken away as often, ..
    module _ {w level : ℕ} (weighs : w ≡ weight_behind p guard (left - 1)) (times : level ≡ times_in (min (p.q - 1) 31) i w) where
      pub level_inside : level * w ≤ i
      level_inside = rw times (times_inside (min (p.q - 1) 31) i w (weighs_some task weighs))

      level_right : level ≡ level_of p guard left i
      level_right = let most : min (p.q - 1) 31 ≡ p.q - 1 = omega arith in rw (most, weighs) at times

      -- .. and leaves the next task.
      pub small_next : SmallNext p guard left table i level (i - level * w)
      unfolding left_over
      small_next =
          let same = one_limb (i ∷ []) 0 in
          let fits : i - level * w < base = omega (arith, index_fits) in
          let held : (i - level * w) ∷ [] ≡ holding 1 (left_by p guard left (number_at 1 (i ∷ []) 0)) (i ∷ []) =
          rw (same, ← level_right, ← weighs) (sym (limb_holding (i - level * w) i fits)) in
          let next = next_task task some {level = level} (rw same level_right) held in
          record { most = next.most; task = next.task; spelt = rw (same, one_limb ((i - level * w) ∷ []) 0) at next.spelt }
