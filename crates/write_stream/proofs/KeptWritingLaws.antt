-- Laws that stood in specs/WritingLaws, which no proof rests on now.
use Rattle.std.specs.Prelude.{◌≡◌, List, ℕ, ◌*◌, ◌/◌, ◌%◌, length}
use Rattle.std.proofs.Common.{div-add-mod', arith}
use Rattle.messages.specs.Carrying.{carrying_refusal}
use Rattle.replies.specs.declared.Reply.{Reply}
use Rattle.replies.specs.declared.Profile.{Profile}
use Rattle.replies.specs.Replies.{done, Comes}
use Rattle.replies.specs.ReplyLaws.{decides, leaves}
use Rattle.replies.specs.WritingLaws.{writing_refused, writing_done}
use Rattle.patterns.specs.Stream.{stream_of}
use Rattle.profiles.specs.Profiles.{patterns_of, stream_length}
use Rattle.bits.specs.Bits.{bits_of_bytes}
use Rattle.write_stream.specs.Writing.{write_refusal, stream_written, writing_stream}
use Rattle.write_stream.specs.Steps.{bits_refusal, carriers, with_stream, Ready}
use Rattle.write_stream.specs.CarrierLaws.{messages_within, carries, length_written}
use Rattle.write_stream.proofs.KeptRefusalLaws.{bits_counted}

-- The stream that is promised is that of the messages in whole.
written : (p : Profile) (bytes : List ℕ) (bits : ℕ) {table : List ℕ} {s : ℕ} → Ready p table s → bits % s ≡ 0
    → stream_written p bytes bits ≡ stream_of (patterns_of p) (carriers p s bytes (bits / s))
unfolding stream_written
written p bytes bits {s = s} ready whole =
    let all : bits / s * s ≡ bits = omega (arith, div-add-mod' bits s) in
    let messages = rw all at (messages_within s (bits / s) (bits_of_bytes bytes)) in
    rw (← ready.length, messages)

module _ (p : Profile) (table bytes : List ℕ) (bits : ℕ) (lent : List ℕ) {first : Reply} (e : first ≡ carrying_refusal p table) where
  -- Refused with 1 to 6: nothing is written.
  pub refused_first : (first.number ≡ 0 → ⊥) → Comes (writing_stream p table bytes bits lent) (record { reply = first; count = 0 }) lent
  unfolding writing_stream write_refusal
  refused_first n = writing_refused _ _ _ _ lent (decides _ _ _ e n) n

  -- Refused with 7 to 9: nothing is written.
  pub refused_then : first.number ≡ 0 → {r : Reply} → r ≡ bits_refusal p bytes bits (length lent) → (r.number ≡ 0 → ⊥)
      → Comes (writing_stream p table bytes bits lent) (record { reply = r; count = 0 }) lent
  unfolding writing_stream write_refusal
  refused_then z f n = writing_refused _ _ _ _ lent (leaves _ _ _ _ e z f) n

  -- Done: the stream of the messages, from the front, and as many cells as it has.
  pub stream_done : first.number ≡ 0 → {r : Reply} → r ≡ bits_refusal p bytes bits (length lent) → r.number ≡ 0 → {s count : ℕ} {after : List ℕ} → Ready p table s
      → count ≡ stream_length p (bits / s) → after ≡ with_stream p s bytes (bits / s) lent
      → Comes (writing_stream p table bytes bits lent) (record { reply = done; count = count }) after
  unfolding writing_stream write_refusal
  stream_done z f y {s} ready counts after =
      let whole = written p bytes bits ready (bits_counted p bytes bits (length lent) ready.length f y).whole in
      let long = length_written (bits / s) bytes (carries ready) in
      writing_done _ _ _ _ lent (leaves _ _ _ _ e z f) y (rw (whole, long) counts) (rw (whole, long) after)
