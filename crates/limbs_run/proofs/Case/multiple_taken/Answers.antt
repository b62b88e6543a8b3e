-- `limbs_run::Case::multiple_taken` meets its contract: the row is k times in the limbs that k / 2 times it is taken from, so that it is in them as often.
use Rattle.std.proofs.Common.{◌≡◌, ℕ, ◌+◌, ◌*◌, ◌≤◌, ◌<◌, List, ◌∙◌, ap, mul-le-mul_left, le_trans, le-add_left, arith, rules, length, get_or, set, replicate, length-set}
use Rattle.std.proofs.lemmas.List.{get_or-replicate}
use Rattle.limbs.specs.Limbs.{number_at, holding, carry_out}
use Rattle.limbs.specs.HoldingLaws.{number_at_carried, number_at_zero_behind, get_or_holding}
use Rattle.limbs_run.proofs.Case.multiple_taken.Goals as goal

-- Behind the row, which stands in twelve limbs of 0, is a limb of 0.
none_behind : (n v : ℕ) {row : List ℕ} → n < 12 → row ≡ holding n v (replicate 12 0) → get_or row n 0 ≡ 0
none_behind n v inside held = ap (λ (l : List ℕ). get_or l n 0) held ∙ get_or_holding n v (replicate 12 0) inside ∙ get_or-replicate 12 n 0 0 inside

-- Then t times it is in what a sum with k times it and the carry make.
within : (n x k t : ℕ) (row before : List ℕ) {now : List ℕ} {carry : ℕ} → n < length before → get_or row n 0 ≡ 0 → t ≤ k
    → now ≡ holding n (x + number_at n row 0 * k) before → carry ≡ carry_out n (x + number_at n row 0 * k)
    → number_at (n + 1) row 0 * t ≤ number_at (n + 1) (set now n carry) 0
within n x k t row before {now} {carry} inside none few held over =
    let whole = number_at_carried n (x + number_at n row 0 * k) before inside in
    rw (held, over, whole, number_at_zero_behind n row none) (le_trans (mul-le-mul_left (number_at n row 0) few) (le-add_left (number_at n row 0 * k) x))

pub subtract_multiple-requires : goal.subtract_multiple-requires
subtract_multiple-requires c =
    let row = c.add.ensures.acc_after in
    let sum = c.add_multiple-carry.ensures in
    let none = none_behind _ _ (omega arith) row in
    (rw length-set (search rules), omega arith, within _ _ _ _ _ _ (search rules) none (omega arith) sum.acc_after sum.value)
