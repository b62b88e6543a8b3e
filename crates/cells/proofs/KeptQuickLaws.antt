-- Laws that stood in specs/QuickLaws, which no proof rests on now.
use Rattle.std.specs.Prelude.{◌≡◌, true, List, ℕ, ◌+◌, ◌-◌, ◌≤◌, ◌<◌, length, get_or}
use Rattle.std.proofs.Common.{sym, ◌∙◌, true≢false, arith, below_more, eq-eqb, ne_eqb}
use Rattle.replies.specs.ReplyLaws.{Nowhere}
use Rattle.code.specs.Code.{below_top}
use Rattle.cells.specs.Finding.{pattern_at}
use Rattle.cells.specs.BeginsLaws.{Begins, no_pattern}
use Rattle.cells.specs.QuickLaws.{tops_at}

-- The passes for k from 2 on, below an end that is at most x + 2, have seen nothing.
pub record Passed (top x : ℕ) (cells : List ℕ) (end : ℕ) : Type 0 where
  pub least : 2 ≤ end
  pub most : end ≤ x + 2
  pub none : (k : ℕ) → 2 ≤ k → k < end → Nowhere (tops_at top k cells) k (length cells)

pub passed_none : {top x : ℕ} {cells : List ℕ} → Passed top x cells 2
passed_none = record { least = omega arith; most = omega arith; none = λ k l h. absurd (omega arith) }

pub passed_more : {top x : ℕ} {cells : List ℕ} {end : ℕ} → Passed top x cells end → end ≤ x + 1 → Nowhere (tops_at top end cells) end (length cells)
    → Passed top x cells (end + 1)
passed_more {top} {cells} {end} p more here =
    record {
      least = omega arith;
      most = omega arith;
      none = λ k l h. below_more (λ (j : ℕ). 2 ≤ j → Nowhere (tops_at top j cells) j (length cells)) end (λ j b a. p.none j a b) (λ a. here) k h l;
    }

-- A pattern is seen by the pass for the distance of its two tops.
seen : (top x : ℕ) (cells : List ℕ) (i : ℕ) (b : Begins top x cells i) → tops_at top (b.closing - i) cells b.closing ≡ true
seen top x cells i b =
    let back : b.closing - (b.closing - i) ≡ i = omega (arith, b.apart) in
    let below = b.between (i + 1) (omega arith) (omega (arith, b.apart)) in
    let other = ne_eqb (get_or cells (i + 1) 0) top (λ e. omega arith) in
    rw (back, eq-eqb (get_or cells i 0) top b.first, other, eq-eqb (get_or cells b.closing 0) top b.last)

-- Where no pass up to x + 1 has seen anything, there is no pattern.
pub all_passed : {top x : ℕ} {cells : List ℕ} {end : ℕ} → Passed top x cells end → x + 1 < end
    → Nowhere (pattern_at (below_top top x) cells) 0 (length cells)
all_passed {top} {x} {cells} p past i l h = no_pattern top x cells i (λ b.
    let k = b.closing - i in
    let none = p.none k (omega (arith, b.apart)) (omega (arith, b.within)) b.closing (omega arith) b.inside in
    true≢false (sym (seen top x cells i b) ∙ none))
