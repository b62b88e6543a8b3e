-- From bits to a stream and back: the stream that writing writes reads as the bits, and the bits that a stream reads as write it.
use Rattle.std.specs.Prelude.{◌≡◌, refl, true, List, ◌++◌, map, ℕ, ◌*◌, ◌≤◌, length, take}
use Rattle.std.proofs.Common.{sym, ◌∙◌, mul-div_cancel, arith, length-append, length-take-le}
use Rattle.std.proofs.lemmas.List.{length-map}
use Rattle.replies.specs.declared.Profile.{Profile}
use Rattle.replies.specs.Ranges.{InRange}
use Rattle.listing.specs.Every.{every}
use Rattle.profiles.specs.Profiles.{length_of}
use Rattle.bits.specs.Bits.{bits_of_bytes, bytes_for, packed, AllBytes}
use Rattle.bits.specs.BitLaws.{AllBits, take_bits, bits_of_bytes_bits, length-bits_of_bytes}
use Rattle.bits.specs.WithLaws.{length-packed_into}
use Rattle.bits.specs.RoundTrip.{bytes_enough, bits_of_their_messages, messages_of_their_bits, bits_of_messages_bits, bits_of_packed, behind_packed, packed_from_bytes}
use Rattle.streams.specs.Streams.{Stream, words_of}
use Rattle.streams.specs.AcceptedLaws.{stream_exact}
use Rattle.write_stream.specs.Writing.{messages_held, messages_of, carrier, stream_written}
use Rattle.read_stream.specs.Reading.{bits_read, reading_stream}
use Rattle.demands.specs.Outcomes.{done_with, carries_message, message_carried}
use Rattle.demands.specs.CarryingLaws.{in_range_lem, carrying, carriers_words, carriers_carry, messages_back, words_back, messages_carried}
use Rattle.demands.specs.WritingLaws.{Writable, messages_held_lem, words_held}
use Rattle.demands.specs.ReadingLaws.{words_read, read_count, reading_done, Readable}

module _ {p : Profile} {table bytes : List ℕ} {bits : ℕ} {lent : List ℕ} (w : Writable p table bytes bits lent) where
  -- What is written is the stream of the words that carry the messages, ..
  pub written_stream : Stream p (map (carrier p) (messages_of p bytes bits)) (stream_written p bytes bits)
  unfolding stream_written
  written_stream = record {
    legal = carriers_words p table w.ready (messages_of p bytes bits) (messages_held_lem p bytes bits);
    bridged = refl;
  }

  -- .. each of which carries one; ..
  pub written_carry : every (carries_message p) (map (carrier p) (messages_of p bytes bits)) ≡ true
  written_carry = carriers_carry p table w.ready (messages_of p bytes bits) (messages_held_lem p bytes bits)

  message_bits : length (take bits (bits_of_bytes bytes)) ≡ bits
  message_bits = length-take-le bits (bits_of_bytes bytes) (omega (arith, bytes_enough bits, length-bits_of_bytes bytes, w.held))

  -- .. and it reads as the message bits.
  pub written_bits : bits_read p (stream_written p bytes bits) ≡ take bits (bits_of_bytes bytes)
  written_bits =
      let back = messages_back p table w.ready (messages_of p bytes bits) (messages_held_lem p bytes bits) in
      let all = take_bits bits (bits_of_bytes bytes) (bits_of_bytes_bits bytes) in
      rw (words_read p (in_range_lem p table w.ready) written_stream, back)
      (bits_of_their_messages (length_of p) (messages_held p bits) _ all (message_bits ∙ sym w.whole))

  -- So reading it gives back the bytes and their count.
  pub written_read : AllBytes bytes → (room : List ℕ) → bytes_for bits ≤ length room
      → reading_stream p table (stream_written p bytes bits) room ≡ done_with bits (take (bytes_for bits) bytes) room
  written_read all room enough =
      let count = words_held p bytes bits in
      let few : length (map (carrier p) (messages_of p bytes bits)) ≤ 256 = rw count w.few in
      let fits : bytes_for (length (map (carrier p) (messages_of p bytes bits)) * length_of p) ≤ length room = rw (count, w.whole) enough in
      let read = reading_done p table w.ready written_stream written_carry few room fits in
      rw (written_bits, packed_from_bytes bits bytes all w.held w.clear, message_bits) at read

module _ {p : Profile} {table cells lent : List ℕ} (r : Readable p table cells lent) where
  range : InRange p
  range = in_range_lem p table r.ready

  -- The bits that a stream reads as hold as many messages as it has words, ..
  words_read_held : messages_held p (length (bits_read p cells)) ≡ length (words_of p cells)
  words_read_held = rw (read_count p range r.stream) (mul-div_cancel (length (words_of p cells)) (carrying p table r.ready).some)

  all_bits : AllBits (bits_read p cells)
  all_bits = rw (words_read p range r.stream) (bits_of_messages_bits (length_of p) _)

  -- .. and they are those that its words carry.
  bits_held : (rest : List ℕ)
      → messages_of p (packed (bits_read p cells) ++ rest) (length (bits_read p cells)) ≡ map (message_carried p) (words_of p cells)
  bits_held rest =
      let below = messages_carried p table r.ready (words_of p cells) r.stream.legal r.carry in
      let back = rw length-map at (messages_of_their_bits (length_of p) (map (message_carried p) (words_of p cells)) below) in
      rw (words_read_held, bits_of_packed (bits_read p cells) rest all_bits, words_read p range r.stream) back

  -- So the stream is what they write.
  pub read_stream : (rest : List ℕ) → stream_written p (packed (bits_read p cells) ++ rest) (length (bits_read p cells)) ≡ cells
  unfolding stream_written
  read_stream rest =
      let words = words_back p table r.ready (words_of p cells) r.stream.legal r.carry in
      rw (bits_held rest, words) r.stream.bridged

  -- And they are written where there is room for it.
  pub read_writable : (rest room : List ℕ) → length cells ≤ length room
      → Writable p table (packed (bits_read p cells) ++ rest) (length (bits_read p cells)) room
  read_writable rest room enough = record {
    ready = r.ready;
    whole = rw words_read_held (sym (read_count p range r.stream));
    few = rw words_read_held r.few;
    held = omega (arith, length-append (packed (bits_read p cells)) rest, length-packed_into (bytes_for (length (bits_read p cells))) (bits_read p cells));
    clear = behind_packed (bits_read p cells) rest all_bits;
    room = rw (words_read_held, ← (stream_exact p range _ cells r.stream)) enough;
  }
