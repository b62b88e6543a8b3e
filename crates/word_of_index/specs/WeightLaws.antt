-- Laws of weights and guards: a weight is a row of the table, or an earlier row times a power, and it fits where the row fits.
use Rattle.std.specs.Prelude.{◌≡◌, refl, Bool, true, false, cond, ℕ, zero, suc, ◌+◌, ◌-◌, ◌*◌, ◌^◌, min, ◌≤◌, ◌<◌, ltb, leb, eqb}
use Rattle.std.proofs.Common.{◌∙◌, mul_comm, one-mul, mul-pos, sub-one, add-one, leb-true, leb-false, eq-eqb, ne_eqb, lt-ltb}
use Rattle.std.proofs.Math.Nat.{sub_self, one-le-pow}
use native.Mathlib.Omega.{arith}
use Rattle.replies.specs.declared.Profile.{Profile}
use Rattle.patterns.specs.Walk.{guard_after}
use Rattle.code.specs.Code.{N, published}
use Rattle.code.specs.Stretches.{following}
use Rattle.code.proofs.Stretches.{following_legal, following_most, following_weight}
use Rattle.code.proofs.Sizes.{count_positive}
use Rattle.code.proofs.Theorem1.{count_of_no_cells}
use Rattle.profiles.specs.Profiles.{patterns_of, count_for}
use Rattle.word_of_index.specs.Tasks.{weight_behind, low_cells}

-- In an open stretch the legal words may follow, and nowhere may more.
pub open_legal : (q x m : ℕ) → 1 < q → following (q - 1) x 0 m ≡ N q x m
open_legal zero x m l = absurd (omega arith)
open_legal (suc t) x m l = rw sub-one (following_legal t x m)

pub most_open : (q x guard m : ℕ) → 1 < q → following (q - 1) x guard m ≤ N q x m
most_open q x guard m l = rw (← open_legal q x m l) (following_most (q - 1) x guard m)

weight_stretch : (t x g i : ℕ) → g ≤ x → following t x g i ≡ N (suc t) x (i - min g i) * t ^ min g i
weight_stretch t x g i h = following_weight t x g i h ∙ go (leb g i) refl
  where
    go : (b : Bool) → leb g i ≡ b → cond b (t ^ g * following t x 0 (i - g)) (t ^ i) ≡ N (suc t) x (i - min g i) * t ^ min g i
    go true e =
        let l = leb-true g i e in
        let lower : min g i ≡ g = omega arith in
        rw (lower, following_legal t x (i - g)) (mul_comm (t ^ g) _)
    go false e =
        let l = leb-false g i e in
        let lower : min g i ≡ i = omega arith in
        rw (lower, sub_self i, count_of_no_cells (suc t) x (omega arith), one-mul)

guarded_follow : (q x guard i : ℕ) → 1 < q → guard ≤ x + 1
    → following (q - 1) x (guard - 1) i ≡ N q x (i - low_cells guard i) * (q - 1) ^ low_cells guard i
guarded_follow zero x guard i l h = absurd (omega arith)
guarded_follow (suc t) x guard i l h = rw sub-one (weight_stretch t x (guard - 1) i (omega arith))

module _ (p : Profile) where
  -- The weight of a cell in an open stretch is a row of the table.
  pub weight_open : (guard i : ℕ) → 1 < p.q → guard ≤ 1 → weight_behind p guard i ≡ count_for p i
  unfolding weight_behind
  weight_open guard i l h = let none : guard - 1 ≡ 0 = omega arith in rw none (open_legal _ _ i l)

  -- In a guarded one it is an earlier row times a power of q - 1.
  pub weight_guarded : (guard i : ℕ) → 1 < p.q → guard ≤ p.x + 1
      → weight_behind p guard i ≡ count_for p (i - low_cells guard i) * (p.q - 1) ^ low_cells guard i
  unfolding weight_behind
  weight_guarded = guarded_follow _ _

  -- It is not 0, and no more than the row.
  pub weight_positive : (guard i : ℕ) → 1 < p.q → guard ≤ p.x + 1 → 0 < weight_behind p guard i
  weight_positive guard i l h =
      rw (weight_guarded guard i l h)
      (mul-pos (count_positive _ _ (i - low_cells guard i) l) (one-le-pow (low_cells guard i) (p.q - 1) (omega arith)))

  pub weight_within : (guard i : ℕ) → 1 < p.q → weight_behind p guard i ≤ count_for p i
  unfolding weight_behind
  weight_within guard i l = most_open _ _ (guard - 1) i l

-- The guard behind a top, and behind a level below it.
pub guard_behind_top : (q x guard : ℕ) {level : ℕ} → level ≡ q - 1 → x + 1 ≡ guard_after (published q x) guard level
guard_behind_top q x guard {level} e = rw (eq-eqb level (q - 1) e, add-one)

pub guard_behind_low : (q x guard : ℕ) {level behind : ℕ} → level ≤ q - 1 → (level ≡ q - 1 → ⊥) → behind ≡ guard - 1
    → behind ≡ guard_after (published q x) guard level
guard_behind_low q x guard {level} l n e = rw (ne_eqb level (q - 1) n, lt-ltb level (q - 1) (omega arith)) e

-- It is never more than behind a top.
pub guard_within : (p : Profile) (guard level : ℕ) → guard ≤ p.x + 1 → guard_after (patterns_of p) guard level ≤ p.x + 1
guard_within p guard level l = go (eqb level (p.q - 1)) (ltb level (p.q - 1))
  where
    go : (a b : Bool) → cond a (suc p.x) (cond b (guard - 1) 0) ≤ p.x + 1
    go true b = omega arith
    go false true = omega arith
    go false false = omega arith
