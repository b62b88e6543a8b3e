-- Laws that stood in specs/ReadingLaws, which no proof rests on now.
use Rattle.std.specs.Prelude.{◌≡◌, List, ℕ, length}
use Rattle.std.proofs.Common.{◌∙◌}
use Rattle.messages.specs.Carrying.{carrying_refusal}
use Rattle.replies.specs.declared.Reply.{Reply}
use Rattle.replies.specs.declared.Profile.{Profile}
use Rattle.replies.specs.Replies.{done, Comes}
use Rattle.replies.specs.ReplyLaws.{decides, leaves}
use Rattle.replies.specs.WritingLaws.{writing_refused, writing_done}
use Rattle.bits.specs.Bits.{bytes_for, with_bits}
use Rattle.bits.specs.WithLaws.{length-packed_into, with_bits_front}
use Rattle.read_stream.specs.Reading.{bits_in, read_refusal, bits_read, reading_stream}
use Rattle.read_stream.specs.ReadingLaws.{stream_read_refusal}

-- A refusal writes nothing: one of profile or table, ..
module _ (p : Profile) (table cells out : List ℕ) {handed : Reply} (e : handed ≡ carrying_refusal p table) where
  pub reading_unready : (handed.number ≡ 0 → ⊥) → Comes (reading_stream p table cells out) (record { reply = handed; count = 0 }) out
  unfolding reading_stream read_refusal
  reading_unready n = writing_refused _ _ _ _ out (decides _ _ _ e n) n

  -- .. or one of the stream.
  pub reading_refused : {r : Reply} → handed.number ≡ 0 → r ≡ stream_read_refusal p cells (length out) → (r.number ≡ 0 → ⊥)
      → Comes (reading_stream p table cells out) (record { reply = r; count = 0 }) out
  unfolding reading_stream read_refusal
  reading_refused z f n = writing_refused _ _ _ _ out (leaves _ _ _ _ e z f) n

  -- Done writes the bits from the front.
  pub reading_done : {r : Reply} {count : ℕ} {after : List ℕ} → handed.number ≡ 0 → r ≡ stream_read_refusal p cells (length out) → r.number ≡ 0
      → count ≡ bits_in p (length cells) → after ≡ with_bits 0 (bits_read p cells) out
      → Comes (reading_stream p table cells out) (record { reply = done; count = count }) after
  unfolding reading_stream read_refusal
  reading_done z f y c a =
      let bits = bits_read p cells in
      let front = with_bits_front bits out in
      writing_done _ _ _ _ out (leaves _ _ _ _ e z f) y c (rw (length-packed_into (bytes_for (length bits)) bits) (a ∙ front))
