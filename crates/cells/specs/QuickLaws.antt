-- Laws of the quick passes: what a flag that no cell set says.
use Rattle.std.specs.Prelude.{◌≡◌, refl, Bool, true, false, not, ◌&&◌, ◌||◌, List, ℕ, ◌+◌, ◌-◌, ◌≤◌, ◌<◌, leb, eqb, length, get_or}
use Rattle.std.proofs.Common.{sym, ◌∙◌, true≢false, arith, below_more, eq-eqb, ne_eqb}
use Rattle.replies.specs.ReplyLaws.{Nowhere}
use Rattle.code.specs.Code.{below_top}
use Rattle.cells.specs.Finding.{pattern_at}
use Rattle.cells.specs.BeginsLaws.{Begins, no_pattern}

-- The cell at a place is at or above a level.
abbrev pub reaches_at : ℕ → List ℕ → ℕ → Bool
reaches_at level cells i = leb level (get_or cells i 0)

-- A top stands at a place and k places before it, and no top right after the first of the two.
abbrev pub tops_at : ℕ → ℕ → List ℕ → ℕ → Bool
tops_at top k cells i = (eqb (get_or cells (i - k) 0) top && not (eqb (get_or cells (i - k + 1) 0) top)) && eqb (get_or cells i 0) top

-- A test that holds nowhere up to a place and not at it holds nowhere up to the next.
pub nowhere_more : {test : ℕ → Bool} {place end : ℕ} → Nowhere test place end → test end ≡ false → Nowhere test place (end + 1)
nowhere_more {test} {place} {end} before here k l h = below_more (λ (j : ℕ). place ≤ j → test j ≡ false) end (λ j b a. before j a b) (λ a. here) k h l

-- A flag that is set where the test holds: while it is not set, the test has held nowhere.
pub flag_more : (hit : Bool) {test : ℕ → Bool} {place end : ℕ} → (hit ≡ false → Nowhere test place end)
    → (hit || test end) ≡ false → Nowhere test place (end + 1)
flag_more false before none = nowhere_more (before refl) none
flag_more true before none = absurd (true≢false none)

-- No pass for the distances up to x + 1 sees anything.
abbrev pub NonePasses : ℕ → ℕ → List ℕ → Type 0
NonePasses top x cells = (k : ℕ) → 2 ≤ k → k < x + 2 → Nowhere (tops_at top k cells) k (length cells)

-- A pattern is seen by the pass for the distance of its two tops.
seen : (top x : ℕ) (cells : List ℕ) (i : ℕ) (b : Begins top x cells i) → tops_at top (b.closing - i) cells b.closing ≡ true
seen top x cells i b =
    let back : b.closing - (b.closing - i) ≡ i = omega (arith, b.apart) in
    let below = b.between (i + 1) (omega arith) (omega (arith, b.apart)) in
    let other = ne_eqb (get_or cells (i + 1) 0) top (λ e. omega arith) in
    rw (back, eq-eqb (get_or cells i 0) top b.first, other, eq-eqb (get_or cells b.closing 0) top b.last)

-- Where no pass up to x + 1 has seen anything, there is no pattern.
pub all_passed : (top x : ℕ) (cells : List ℕ) → NonePasses top x cells → Nowhere (pattern_at (below_top top x) cells) 0 (length cells)
all_passed top x cells p i l h = no_pattern top x cells i (λ b.
    let k = b.closing - i in
    let none = p k (omega (arith, b.apart)) (omega (arith, b.within)) b.closing (omega arith) b.inside in
    true≢false (sym (seen top x cells i b) ∙ none))
