-- Laws of reading a stream: what each test lets through, and what is written where nothing is refused.
use Rattle.std.specs.Prelude.{◌≡◌, refl, Ok, List, ℕ, ◌*◌, ◌≤◌, length}
use Rattle.std.proofs.Common.{◌∙◌, le_of_lt, mul-le-mul, arith}
use Rattle.messages.specs.Carrying.{carrying_refusal, CarriesMessages}
use Rattle.messages.specs.LengthLaws.{length_below}
use Rattle.replies.specs.declared.Reply.{Reply}
use Rattle.replies.specs.declared.Profile.{Profile}
use Rattle.replies.specs.Replies.{done, or_else, room_refusal, Comes}
use Rattle.replies.specs.AnswerLaws.{passed_leaves}
use Rattle.replies.specs.Answers.{written_of}
use Rattle.replies.specs.ReplyLaws.{both_done, has_room}
use Rattle.replies.specs.WritingLaws.{writing_done}
use Rattle.profiles.specs.Profiles.{length_of}
use Rattle.bits.specs.Bits.{bytes_for, with_bits}
use Rattle.bits.specs.WithLaws.{length-packed_into, with_bits_front}
use Rattle.streams.specs.Streams.{words_in, fit_refusal, stream_refusal}
use Rattle.streams.specs.FitLaws.{Fits, not_refused_fits}
use Rattle.read_stream.specs.Reading.{silence_refusal, bits_in, read_refusal, bits_read, reading_stream}
use Rattle.read_stream.specs.WordLaws.{EachWord}
use Rattle.read_stream.specs.CarrierLaws.{Carrier, words_carry}
use Rattle.read_stream.specs.OutputLaws.{Room}

-- The last tests: cells and bridges, then silent words; ..
abbrev pub words_read_refusal : Profile → List ℕ → Reply
words_read_refusal p cells = or_else (stream_refusal p cells) (silence_refusal p cells)

-- .. and all tests behind those of profile and table: length and room for the bytes come before them.
abbrev pub stream_read_refusal : Profile → List ℕ → ℕ → Reply
stream_read_refusal p cells lent =
    or_else (fit_refusal p (length cells)) (or_else (room_refusal (bytes_for (bits_in p (length cells))) lent) (words_read_refusal p cells))

-- The bits of a stream are few.
pub bits_few : {p : Profile} {table : List ℕ} {cells n s : ℕ} → CarriesMessages p table → Fits p cells → n ≡ words_in p cells → s ≡ length_of p
    → n * s ≤ 256 * 640
bits_few ready fits e f = rw (e, f) (mul-le-mul fits.few (le_of_lt (length_below ready.in_range ready.carries)))

-- What is known where nothing is refused.
pub record Accepted (p : Profile) (cells out : List ℕ) : Type 0 where
  pub fits : Fits p (length cells)
  pub words : EachWord p (Carrier p) cells
  pub room : Room (bits_in p (length cells)) 0 out

pub accepted : {p : Profile} {table : List ℕ} (cells out : List ℕ) {r : Reply} → CarriesMessages p table → r ≡ stream_read_refusal p cells (length out) → r.number ≡ 0
    → Accepted p cells out
accepted {p} cells out ready e none =
    let first = both_done _ _ (rw e at none) in
    let second = both_done _ _ first.second in
    let third = both_done _ _ second.second in
    let fits = not_refused_fits p (length cells) refl first.first in
    let room = has_room _ (length out) second.first in
    let few = bits_few ready fits refl refl in
    record {
      fits = fits;
      words = words_carry cells ready.in_range fits third.first third.second;
      room = record { inside = omega arith; small = omega arith };
    }

-- Done writes the bits from the front.
module _ (p : Profile) (table cells out : List ℕ) where
  pub reading_done : {count : ℕ} {after : List ℕ} → done ≡ carrying_refusal p table → done ≡ stream_read_refusal p cells (length out)
      → count ≡ bits_in p (length cells) → after ≡ with_bits 0 (bits_read p cells) out
      → Comes (reading_stream p table cells out) (written_of (Ok count)) after
  unfolding reading_stream
  reading_done e f c a =
      let bits = bits_read p cells in
      let front = with_bits_front bits out in
      let all : done ≡ read_refusal p table cells out = unfold read_refusal in passed_leaves e f in
      writing_done done _ _ _ out all refl c (rw (length-packed_into (bytes_for (length bits)) bits) (a ∙ front))
