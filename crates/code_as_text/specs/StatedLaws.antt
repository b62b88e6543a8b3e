-- Laws of the message length that is printed, and of the last index that carries a message.
use Rattle.std.specs.Prelude.{◌≡◌, refl, Bool, true, false, cond, ℕ, ◌*◌, ◌%◌, ◌^◌, ◌≤◌, ◌<◌}
use Rattle.std.proofs.Common.{one-mul, lt_of_not-le, mod-eq_of_lt, arith, pow_mono, eqb-true, eq-eqb, ne_eqb}
use Rattle.std.proofs.Math.Pow.{pow-lt}
use Rattle.messages.specs.Carrying.{message_refusal}
use Rattle.messages.specs.LengthLaws.{words_carry}
use Rattle.replies.specs.declared.Reply.{Reply}
use Rattle.replies.specs.declared.Profile.{Profile}
use Rattle.replies.specs.Replies.{is_done}
use Rattle.code.proofs.MessageLaws.{length_is_largest}
use Rattle.profiles.specs.Profiles.{word_count, length_of}
use Rattle.code_as_text.specs.Printed.{stated_length, last_carrying}

-- Where number 4 is not given, s is the message length.
pub length_stated : (p : Profile) {r : Reply} → r ≡ message_refusal p → r.number ≡ 0 → length_of p ≡ stated_length p
length_stated p {r} e none = rw (← e, eq-eqb r.number 0 none)

-- Where it is, s is 0.
pub no-length_stated : (p : Profile) {r : Reply} → r ≡ message_refusal p → (r.number ≡ 0 → ⊥) → 0 ≡ stated_length p
no-length_stated p {r} e some = rw (← e, ne_eqb r.number 0 some)

-- Where s is 0 no index carries a message, ..
pub none_carries : {s : ℕ} → s ≡ 0 → 0 ≡ last_carrying s
none_carries {s} zero = rw (eq-eqb s 0 zero)

-- .. and else 2^s is the last.
pub last_carries : {s : ℕ} → (s ≡ 0 → ⊥) → s < 64 → 1 * 2 ^ s % 2 ^ 64 ≡ last_carrying s
last_carries {s} some small = rw (ne_eqb s 0 some, one-mul (2 ^ s), mod-eq_of_lt (pow-lt small))

-- A code of at most 4,096 words has messages of fewer than 64 bits.
pub small-length : (p : Profile) → word_count p ≤ 4096 → stated_length p < 64
small-length p few = go (is_done (message_refusal p)) refl
  where
    go : (t : Bool) → is_done (message_refusal p) ≡ t → cond t (length_of p) 0 < 64
    go true t =
        let fits = (length_is_largest _ _ _ (words_carry p (eqb-true _ 0 t))).fits in
        lt_of_not-le (λ (more : 64 ≤ length_of p). let large = pow_mono more in omega arith)
    go false t = omega arith
