-- Laws of answers: what a call answers follows from its number and its values, so that no two answers have the same.
use Rattle.std.specs.Prelude.{◌≡◌, refl, List, [], ◌∷◌, ℕ, ◌-◌, slice_index_or, Result, Ok, Err}
use Rattle.std.proofs.Common.{sym, ◌∙◌, ap, true≢false, eq-eqb}
use Rattle.replies.specs.declared.Refusal.{Refusal}
use Rattle.replies.specs.declared.Reply.{Reply}
use Rattle.replies.specs.declared.Written.{Written}
use Rattle.replies.specs.declared.Why.{Why}
use Rattle.replies.specs.declared.Why.TheVariants.{Levels, Length, Reach, NoMessage, TableShort, TableWrong, InputLength, BitBehind, OutputShort, Cell, Pattern, NoSuch, Bridge, AllZero, IndexAbove, AllTop}
use Rattle.replies.specs.Replies.{done}
use Rattle.replies.specs.AnswerLaws.{not_done}
use Rattle.replies.specs.Answers.{number_of, refusal_reply, reply_of, written_of}

-- All refusals in the order of their numbers, from 1 on.
in_order : List Why
in_order = Levels ∷ Length ∷ Reach ∷ NoMessage ∷ TableShort ∷ TableWrong ∷ InputLength ∷ BitBehind ∷ OutputShort ∷ Cell ∷ Pattern ∷ NoSuch ∷ Bridge ∷ AllZero ∷ IndexAbove ∷ AllTop ∷ []

with_number : ℕ → Why
with_number n = slice_index_or in_order (n - 1) Levels

is_with_number : (why : Why) → with_number (number_of why) ≡ why
unfolding with_number in_order
is_with_number Levels = refl
is_with_number Length = refl
is_with_number Reach = refl
is_with_number NoMessage = refl
is_with_number TableShort = refl
is_with_number TableWrong = refl
is_with_number InputLength = refl
is_with_number BitBehind = refl
is_with_number OutputShort = refl
is_with_number Cell = refl
is_with_number Pattern = refl
is_with_number NoSuch = refl
is_with_number Bridge = refl
is_with_number AllZero = refl
is_with_number IndexAbove = refl
is_with_number AllTop = refl

-- No two refusals have one number.
pub one_why : (a b : Why) → number_of a ≡ number_of b → a ≡ b
one_why a b e = sym (is_with_number a) ∙ ap with_number e ∙ is_with_number b

-- And no two have one number and one place.
pub one_refusal : (a b : Refusal) → refusal_reply a ≡ refusal_reply b → a ≡ b
one_refusal a b e =
    let made : Why → ℕ → Refusal = λ why place. record { why = why; place = place } in
    ap (λ why. made why a.place) (one_why a.why b.why (ap (λ (r : Reply). r.number) e)) ∙ ap (made b.why) (ap (λ (r : Reply). r.place) e)

-- Done has the number of no refusal.
done_refuses : (r : Refusal) → done ≡ refusal_reply r → ⊥
done_refuses r e = true≢false (sym (eq-eqb (number_of r.why) 0 (sym (ap (λ (s : Reply). s.number) e))) ∙ not_done r.why)

-- A test has one answer for each reply.
pub one_found : (a b : Result (Unit {0}) Refusal) → reply_of a ≡ reply_of b → a ≡ b
one_found (Ok u) (Ok v) e = refl
one_found (Ok u) (Err r) e = absurd (done_refuses r e)
one_found (Err r) (Ok v) e = absurd (done_refuses r (sym e))
one_found (Err r) (Err s) e = ap (λ (t : Refusal). Err t) (one_refusal r s e)

-- A call that writes has one for each reply and count.
pub one_written : (a b : Result ℕ Refusal) → written_of a ≡ written_of b → a ≡ b
one_written (Ok m) (Ok n) e = ap (λ k. Ok k) (ap (λ (w : Written). w.count) e)
one_written (Ok m) (Err r) e = absurd (done_refuses r (ap (λ (w : Written). w.reply) e))
one_written (Err r) (Ok n) e = absurd (done_refuses r (sym (ap (λ (w : Written). w.reply) e)))
one_written (Err r) (Err s) e = ap (λ (t : Refusal). Err t) (one_refusal r s (ap (λ (w : Written). w.reply) e))
