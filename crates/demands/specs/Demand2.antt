-- Demand 2, on streams. Written streams follow the published bridging, reading gives back the message bits, and every stream that reads is the
-- stream those bits write.
use Rattle.std.specs.Prelude.{◌≡◌, List, ℕ, ◌≤◌, length, take, drop}
use Rattle.std.proofs.Common.{sym}
use Rattle.replies.specs.declared.Profile.{Profile}
use Rattle.code.proofs.Laws.{one_word_of_index}
use Rattle.bits.specs.Bits.{bytes_for, packed, AllBytes}
use Rattle.streams.specs.AcceptedLaws.{stream_exact}
use Rattle.write_stream.specs.Writing.{stream_written, writing_stream}
use Rattle.write_stream.specs.CarrierLaws.{index_below}
use Rattle.read_stream.specs.Reading.{bits_read, reading_stream}
use Rattle.demands.specs.Outcomes.{Done, done_with, cells_written, WroteMessages, ReadMessages}
use Rattle.demands.specs.OutcomeLaws.{written_cells, wrote_stream}
use Rattle.demands.specs.CarryingLaws.{in_range_lem, carrying}
use Rattle.demands.specs.WritingLaws.{done_writable, writable_done, messages_held_lem, words_held}
use Rattle.demands.specs.ReadingLaws.{read_count, reading_done, done_readable}
use Rattle.demands.specs.TripLaws.{written_stream, written_carry, written_read, read_stream, read_writable}

module _ (p : Profile) (table : List ℕ) where
  -- Written streams follow the published bridging.
  pub writing_follows : (bytes : List ℕ) (bits : ℕ) (lent : List ℕ) → Done (writing_stream p table bytes bits lent)
      → WroteMessages p bytes bits lent (writing_stream p table bytes bits lent)
  writing_follows bytes bits lent done =
      let w = done_writable done in
      let range = in_range_lem p table w.ready in
      let outcome = writable_done w in
      record {
        wrote = wrote_stream p range (written_stream w) lent outcome;
        each = λ i. one_word_of_index _ _ _ _ (index_below (carrying p table w.ready) (messages_held_lem p bytes bits i));
        carry = written_carry w;
        bits_counted = sym w.whole;
        cells_counted = rw (outcome, stream_exact p range _ _ (written_stream w), words_held p bytes bits);
      }

  -- Only streams of words that carry messages are read.
  pub reading_follows : (cells lent : List ℕ) → Done (reading_stream p table cells lent) → ReadMessages p cells lent (reading_stream p table cells lent)
  reading_follows cells lent done =
      let r = done_readable done in
      let read = reading_done p table r.ready r.stream r.carry r.few lent r.room in
      record { stream = r.stream; carry = r.carry; read = record { read = read; count = read_count p (in_range_lem p table r.ready) r.stream } }

  -- Reading gives back the message bits: the same bytes and the same count.
  pub written_reads : (bytes : List ℕ) (bits : ℕ) (lent room : List ℕ) → AllBytes bytes → Done (writing_stream p table bytes bits lent)
      → bytes_for bits ≤ length room
      → reading_stream p table (cells_written (writing_stream p table bytes bits lent)) room ≡ done_with bits (take (bytes_for bits) bytes) room
  written_reads bytes bits lent room all done enough =
      let w = done_writable done in rw (written_cells (stream_written p bytes bits) lent (writable_done w)) (written_read w all room enough)

  -- Every stream that reads is the stream that those bits write: the same cells and the same count.
  pub read_writes : (cells lent room : List ℕ) → Done (reading_stream p table cells lent) → length cells ≤ length room
      → writing_stream p table (reading_stream p table cells lent).lent (reading_stream p table cells lent).answer.count room
      ≡ done_with (length cells) cells room
  read_writes cells lent room done enough =
      let r = done_readable done in
      let read = (reading_follows cells lent done).read.read in
      let rest = drop (length (packed (bits_read p cells))) lent in
      rw read (rw (read_stream r rest) at (writable_done (read_writable r rest room enough)))
