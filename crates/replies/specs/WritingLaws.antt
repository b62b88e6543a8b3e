-- Laws of a call that writes: what it answers and leaves in the lent list where it is refused, and where it is done.
use Rattle.std.specs.Prelude.{◌≡◌, refl, List, ◌++◌, ℕ, ◌≤◌, length, drop}
use Rattle.std.proofs.Common.{arith, length-append, eq-eqb, ne_eqb}
use Rattle.replies.specs.declared.Reply.{Reply}
use Rattle.replies.specs.declared.Written.{Written}
use Rattle.replies.specs.NumberLaws.{picked}
use Rattle.replies.specs.Replies.{done, is_done, Outcome, writing_counted, writing, Comes}

-- Refused: nothing is written.
pub writing_refused : (reply refusal : Reply) (count : ℕ) (content lent : List ℕ) → reply ≡ refusal → (reply.number ≡ 0 → ⊥)
    → Comes (writing_counted refusal count content lent) (record { reply = reply; count = 0 }) lent
unfolding writing_counted
writing_refused reply refusal count content lent e n = rw (← e, ne_eqb reply.number 0 n) (refl, refl)

-- Done: the content from the front, and the count.
pub writing_done : (reply refusal : Reply) (count : ℕ) (content lent : List ℕ) {given : ℕ} {after : List ℕ} → reply ≡ refusal → reply.number ≡ 0
    → given ≡ count → after ≡ content ++ drop (length content) lent
    → Comes (writing_counted refusal count content lent) (record { reply = done; count = given }) after
unfolding writing_counted
writing_done reply refusal count content lent e z c a = rw (← e, eq-eqb reply.number 0 z) (rw c, a)

-- What a call that writes cells, limbs or bytes counts stands in the lent list.
abbrev Inside : Outcome → Type 0
Inside outcome = outcome.answer.count ≤ length outcome.lent

pub count_inside : (refusal : Reply) (content lent : List ℕ) {answer : Written} {after : List ℕ} → Comes (writing refusal content lent) answer after
    → answer.count ≤ length after
unfolding writing_counted
count_inside refusal content lent {answer} {after} c =
    rw (c.0, c.1) (picked Inside (is_done refusal) (λ e. rw length-append (omega arith)) (λ e. omega arith))
