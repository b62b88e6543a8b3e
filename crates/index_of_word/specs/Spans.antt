-- How many rows on a row takes a limb more: N(r) is at most q^r.
use Rattle.std.specs.Prelude.{ℕ, zero, suc, ◌*◌, ◌^◌, ◌≤◌, ◌<◌}
use Rattle.std.proofs.Common.{le_refl, le_trans, lt_of_le_of_lt, lt_of_lt_of_le, mul-zero, mul-suc, mul-le-mul, mul-le-mul_left, pow-suc, arith, pow-add}
use Rattle.std.proofs.Math.Nat.{one-le-pow, pow-zero, pow-le-pow_left, pow-le-pow_right}
use Rattle.limbs.specs.Limbs.{base}
use Rattle.code.specs.Code.{N}
use Rattle.code.proofs.Sizes.{count_within_power}
use Rattle.replies.specs.Ranges.{Between}

-- s rows on, a row takes at most one limb more.
pub record Span (q s : ℕ) : Type 0 where
  pub fits : q ^ s ≤ base
  pub some : Between 1 64 s

-- As many rows as of more levels.
pub span_of : (p : ℕ) {q s : ℕ} → q ≤ p → p ^ s ≤ base → Between 1 64 s → Span q s
span_of p {q} {s} l fits some = record { fits = le_trans (pow-le-pow_left l s) fits; some = some }

-- s j factors q fit j limbs.
spans_fit : (q s j : ℕ) → q ^ s ≤ base → q ^ (s * j) ≤ base ^ j
spans_fit q s zero l = rw (mul-zero, pow-zero q, pow-zero base) (le_refl 1)
spans_fit q s (suc j) l = rw (mul-suc, pow-add, pow-suc base j) (mul-le-mul (spans_fit q s j l) l)

-- One factor more makes a larger power.
power_grows : (q r : ℕ) → 1 < q → q ^ r < q ^ suc r
power_grows q r l =
    let some = one-le-pow r q (omega arith) in
    let twice = mul-le-mul_left (q ^ r) l in
    rw pow-suc (omega arith)

-- The rows below row s j fit j limbs.
pub row_fits : (q x j : ℕ) {s r : ℕ} → 1 < q → Span q s → r < s * j → N q x r < base ^ j
row_fits q x j {s} {r} l span below =
    lt_of_le_of_lt (count_within_power q x r)
    (lt_of_lt_of_le (power_grows q r l) (le_trans (pow-le-pow_right (omega arith) below) (spans_fit q s j span.fits)))
