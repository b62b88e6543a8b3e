-- Laws of the limbs that hold a message, and of those that hold its index.
use Rattle.std.specs.Prelude.{◌≡◌, List, ℕ, ◌+◌, ◌*◌, ◌^◌, ◌<◌, length, replicate}
use Rattle.std.proofs.Common.{ap, ◌∙◌, le_refl, le_of_eq, le-add_right, lt_trans, lt_of_le_of_lt}
use Rattle.limbs.specs.Limbs.{base, value, limbs_of, number_at, holding}
use Rattle.limbs.specs.HoldingLaws.{number_at_all, holding_all}
use Rattle.limbs.specs.ValueLaws.{length-limbs_of, value-limbs_of_below}
use Rattle.numbers.specs.Step.{first_index, index_of}
use Rattle.replies.specs.declared.Profile.{Profile}
use Rattle.profiles.specs.Profiles.{word_count}
use Rattle.write_stream.specs.Steps.{message_at, Ready}
use Rattle.write_stream.specs.CarrierLaws.{number_below, carries, index_below}

-- Ten limbs hold the index of a message, which is that of a word.
pub record IndexHeld (p : Profile) (message : ℕ) (index : List ℕ) : Type 0 where
  pub ten : length index ≡ 10
  pub number : number_at 10 index 0 ≡ index_of message
  pub below : number_at 10 index 0 < word_count p

index_held : {p : Profile} {message : ℕ} {index : List ℕ} → index_of message < word_count p → index_of message < base ^ 10 → index ≡ limbs_of 10 (index_of message)
    → IndexHeld p message index
index_held {index = index} below fits e =
    let ten = ap length e ∙ length-limbs_of 10 _ in
    let number = number_at_all 10 index (le_of_eq ten) ∙ ap value e ∙ value-limbs_of_below 10 fits in
    record { ten = ten; number = number; below = rw number below }

-- Limbs hold a message: there is an index above it, and the step of one leads to that index.
pub record MessageHeld (p : Profile) (message : ℕ) (limbs : List ℕ) : Type 0 where
  pub fits : value limbs + first_index < base ^ 10
  pub index : {index : List ℕ} → index ≡ limbs_of 10 (index_of (value limbs)) → IndexHeld p message index

-- Message k, read into ten limbs of 0.
pub message_held : {p : Profile} {table : List ℕ} {s : ℕ} (bytes : List ℕ) (k : ℕ) {limbs : List ℕ} → Ready p table s
    → limbs ≡ holding 10 (message_at s bytes k) (replicate 10 0) → MessageHeld p (message_at s bytes k) limbs
message_held {s = s} bytes k ready e =
    let message = message_at s bytes k in
    let c = carries ready in
    let below = index_below c (number_below s (k * s) bytes) in
    let fits : index_of message < base ^ 10 = lt_trans below c.fits in
    let own = value-limbs_of_below 10 (lt_of_le_of_lt (le-add_right message first_index) fits) in
    let whole = ap value (e ∙ holding_all 10 message (replicate 10 0) (le_refl 10)) ∙ own in
    record { fits = rw whole fits; index = λ {index} f. index_held below fits (rw whole at f) }
