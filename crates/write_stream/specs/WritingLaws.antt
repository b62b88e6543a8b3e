-- Laws of writing a stream: each way out comes to the outcome that is promised.
use Rattle.std.specs.Prelude.{◌≡◌, refl, Ok, List, ℕ, ◌*◌, ◌/◌, ◌%◌, length}
use Rattle.std.proofs.Common.{div-add-mod', arith}
use Rattle.messages.specs.Carrying.{carrying_refusal}
use Rattle.messages.specs.CarryingLaws.{carries_messages}
use Rattle.replies.specs.declared.Profile.{Profile}
use Rattle.replies.specs.Replies.{done, Comes}
use Rattle.replies.specs.AnswerLaws.{passed_leaves}
use Rattle.replies.specs.Answers.{written_of}
use Rattle.replies.specs.WritingLaws.{writing_done}
use Rattle.patterns.specs.Stream.{stream_of}
use Rattle.profiles.specs.Profiles.{patterns_of, length_of, stream_length}
use Rattle.bits.specs.Bits.{bits_of_bytes}
use Rattle.write_stream.specs.Writing.{write_refusal, stream_written, writing_stream}
use Rattle.write_stream.specs.Steps.{bits_refusal, carriers, with_stream, Ready}
use Rattle.write_stream.specs.CarrierLaws.{messages_within, carries, length_written}
use Rattle.write_stream.specs.RefusalLaws.{bits_counted}

-- The stream that is promised is that of the messages in whole.
written : (p : Profile) (bytes : List ℕ) (bits : ℕ) {table : List ℕ} {s : ℕ} → Ready p table s → bits % s ≡ 0
    → stream_written p bytes bits ≡ stream_of (patterns_of p) (carriers p s bytes (bits / s))
unfolding stream_written
written p bytes bits {s = s} ready whole =
    let all : bits / s * s ≡ bits = omega (arith, div-add-mod' bits s) in
    let messages = rw all at (messages_within s (bits / s) (bits_of_bytes bytes)) in
    rw (← ready.length, messages)

-- What is known once the tests of the table are passed.
pub made_ready : (p : Profile) (table : List ℕ) {s : ℕ} → done ≡ carrying_refusal p table → s ≡ length_of p → Ready p table s
made_ready p table e f = record { carrying = carries_messages p table e refl; length = f }

module _ (p : Profile) (table bytes : List ℕ) (bits : ℕ) (lent : List ℕ) where
  -- Done: the stream of the messages, from the front, and as many cells as it has.
  pub stream_done : {s count : ℕ} {after : List ℕ} → done ≡ carrying_refusal p table → Ready p table s → done ≡ bits_refusal p bytes bits (length lent)
      → count ≡ stream_length p (bits / s) → after ≡ with_stream p s bytes (bits / s) lent
      → Comes (writing_stream p table bytes bits lent) (written_of (Ok count)) after
  unfolding writing_stream
  stream_done {s} e ready f counts after =
      let whole = written p bytes bits ready (bits_counted p bytes bits (length lent) ready.length f).whole in
      let long = length_written (bits / s) bytes (carries ready) in
      let all : done ≡ write_refusal p table bytes bits lent = unfold write_refusal in passed_leaves e f in
      writing_done done _ _ _ lent all refl (rw (whole, long) counts) (rw (whole, long) after)
