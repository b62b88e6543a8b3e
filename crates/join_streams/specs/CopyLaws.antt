-- Laws of cells written last first: what one more leaves, and what is left at the end.
use Rattle.std.specs.Prelude.{◌≡◌, List, ◌++◌, ℕ, ◌+◌, ◌≤◌, ◌<◌, length, take, drop, get_or, set}
use Rattle.std.specs.List.{enumerate_from}
use Rattle.std.proofs.Common.{ap, ◌∙◌, zero-add, add-one, arith}
use Rattle.std.proofs.lemmas.List.{length-reverse}
use Rattle.std.proofs.lemmas.List.FromFn.{length-enumerate_from, get_or-enumerate_from}
use Rattle.std.proofs.Math.Seq.{take-length, paste-suc}
use Rattle.patterns.specs.Stream.{turned}

-- The first i of the turned cells at the front of a lent list.
abbrev pub TurnedTo : List ℕ → List ℕ → ℕ → List ℕ → Type 0
TurnedTo cells lent i now = now ≡ take i (turned cells) ++ drop i lent

-- One cell more is turned: the next with its place.
pub turned_more : (cells lent : List ℕ) (n i cell : ℕ) {now : List ℕ} → length cells ≤ length lent → n < length (enumerate_from 0 (turned cells))
    → (i, cell) ≡ get_or (enumerate_from 0 (turned cells)) n (i, cell) → TurnedTo cells lent n now → TurnedTo cells lent (n + 1) (set now i cell)
turned_more cells lent n i cell room more item e =
    let inside : n < length (turned cells) = omega (arith, length-enumerate_from 0 (turned cells)) in
    let next = item ∙ get_or-enumerate_from 0 (turned cells) n (i, cell) inside in
    let place = ap (λ (p : ℕ × ℕ). p.0) next in
    let value = ap (λ (p : ℕ × ℕ). p.1) next in
    let one = simp zero-add at (paste-suc lent 0 (turned cells) n cell (omega (arith, length-reverse cells)) inside) in
    rw (e, place, value, zero-add, add-one) one

-- All are turned.
pub all_turned : (cells lent : List ℕ) (n : ℕ) {now : List ℕ} → n ≡ length (enumerate_from 0 (turned cells)) → TurnedTo cells lent n now
    → now ≡ turned cells ++ drop (length cells) lent
all_turned cells lent n end e = e ∙ rw (end, length-enumerate_from 0 (turned cells), take-length, length-reverse cells)
