-- No second outcome: two results, and two contents of the lent output afterwards, that meet a call's promise are equal. The contract of every call
-- has one of the two forms that these theorems take.
use Rattle.std.specs.Prelude.{◌≡◌, List, ℕ}
use Rattle.std.proofs.Common.{sym, ◌∙◌}
use Rattle.replies.specs.Replies.{Comes, OutcomeOf}

-- A call that is lent nothing to write promises that its answer is what its definition gives.
pub one_answer : {A : Type 0} {given first second : A} → first ≡ given → second ≡ given → first ≡ second
one_answer e f = e ∙ sym f

-- A call that writes promises that its answer and the lent list afterwards are those of the outcome that its definition gives.
pub one_outcome : {A : Type 0} (outcome : OutcomeOf A) {first second : A} {left after : List ℕ} → Comes outcome first left → Comes outcome second after
    → (first ≡ second) × (left ≡ after)
one_outcome outcome e f = (one_answer e.0 f.0, one_answer e.1 f.1)
