use Rattle.std.proofs.Common.{◌≡◌, ◌+◌, ◌-◌, ℕ, List, Bool, true, false, true≢false, length, rules, tests, arith}
use Rattle.std.specs.Bool.{MatchBool}
use Rattle.std.specs.List.{AllWithin, range_with_len}
use Rattle.std.proofs.lemmas.Iterator.{cases_from_any, YieldsList-from_range}
use Rattle.std.proofs.lemmas.List.FromFn.{length-range_with_len, get_or-range_with_len}
use Rattle.replies.specs.ReplyLaws.{Nowhere}
use Rattle.cells.specs.QuickLaws.{tops_at, NonePasses, all_passed}
use Rattle.cells.proofs.quick.some_pattern.Goals as goal

-- Where no distance from 2 on sees anything, no pass does.
none_passes : (top x : ℕ) (cells : List ℕ) (hit : Bool) (Some : Type 0)
    → MatchBool hit Some (AllWithin (λ k. Nowhere (tops_at top k cells) k (length cells)) (range_with_len 2 x) 0 (length (range_with_len 2 x)))
    → hit ≡ false → NonePasses top x cells
none_passes top x cells true Some all e k l h = absurd (true≢false e)
none_passes top x cells false Some all e k l h =
    let back : 2 + (k - 2) ≡ k = omega arith in
    rw (get_or-range_with_len 2 x (k - 2) 0 (omega arith), back) at (all (k - 2) 0 (omega arith) (omega (arith, length-range_with_len 2 x)))

pub returns : goal.returns
returns c e =
    let a = c.args in
    all_passed a.top a.x a.cells.now (none_passes a.top a.x a.cells.now c.any.result _
    (cases_from_any _ _ c.any.result (λ (k : ℕ). Unit {0}) (λ k. Nowhere (tops_at a.top k a.cells.now) k (length a.cells.now)) c.any.ensures.ran
    (YieldsList-from_range 2 (a.x + 2) a.x (search rules) (omega arith)) (λ x q k. tt) (λ x q k. search (rules, tests))) e)
