-- Writing is done exactly for whole messages with zero bits behind them, with room; and the stream that it writes.
use Rattle.std.specs.Prelude.{◌≡◌, Bool, true, false, ◌&&◌, List, map, ℕ, ◌*◌, ◌%◌, ◌≤◌, ◌<◌, leb, eqb, length, get_or}
use Rattle.std.proofs.Math.Path.{refl}
use Rattle.std.proofs.Common.{◌∙◌, mul-le-mul_right, arith}
use Rattle.std.proofs.Math.Nat.{mul-mod_left, div-add-mod'}
use Rattle.std.proofs.lemmas.List.{length-map}
use borrow.Author.Tests.{le-ltb, le-leb, leb-true, eqb-false, eq-eqb}
use Rattle.messages.specs.Carrying.{carrying_refusal}
use Rattle.replies.specs.declared.Profile.{Profile}
use Rattle.replies.specs.Replies.{done}
use Rattle.replies.specs.ReplyLaws.{both_done, none_refused, holds_nowhere, has_room, room_enough}
use Rattle.replies.specs.Ranges.{most_words}
use Rattle.profiles.specs.Profiles.{length_of, stream_length}
use Rattle.bits.specs.Bits.{bits_of_bytes, bytes_for}
use Rattle.bits.specs.BitLaws.{take_bits, bits_of_bytes_bits}
use Rattle.bits.specs.RoundTrip.{AllMessages, length-messages_in, messages_in_messages}
use Rattle.write_stream.specs.Writing.{count_refusal, behind_refusal, messages_held, messages_of, write_refusal, carrier, stream_written, writing_stream}
use Rattle.write_stream.specs.RefusalLaws.{counted, few_words}
use Rattle.demands.specs.Outcomes.{Done, done_with}
use Rattle.demands.specs.OutcomeLaws.{not_refused, four_tests_done}

-- The bits behind the last message bit, in the same byte, are 0.
abbrev pub ClearBehind : List ℕ → ℕ → Type 0
ClearBehind bytes bits = (i : ℕ) → bits ≤ i → i < 8 * bytes_for bits → get_or (bits_of_bytes bytes) i 0 ≡ 0

-- What writing asks: words that carry messages and a table that belongs, whole messages of at most 256 words in bytes that are there, zero bits
-- behind them, and room.
pub record Writable (p : Profile) (table bytes : List ℕ) (bits : ℕ) (lent : List ℕ) : Type 0 where
  pub ready : (carrying_refusal p table).number ≡ 0
  pub whole : messages_held p bits * length_of p ≡ bits
  pub few : messages_held p bits ≤ most_words
  pub held : bytes_for bits ≤ length bytes
  pub clear : ClearBehind bytes bits
  pub room : stream_length p (messages_held p bits) ≤ length lent

-- 8 is not given exactly where the bits behind are 0.
not_8_clear : (bytes : List ℕ) (bits : ℕ) → (behind_refusal bytes bits).number ≡ 0 → ClearBehind bytes bits
unfolding behind_refusal
not_8_clear bytes bits e i l h =
    let below = bits_of_bytes_bits bytes i in
    let other : get_or (bits_of_bytes bytes) i 0 ≡ 1 → ⊥ = eqb-false _ 1 (rw (le-leb bits i l) at (holds_nowhere _ _ 7 e i (omega arith) h)) in
    omega arith

clear_not_8 : (bytes : List ℕ) (bits : ℕ) → ClearBehind bytes bits → behind_refusal bytes bits ≡ done
unfolding behind_refusal
clear_not_8 bytes bits clear = none_refused _ _ 8 (λ i l h. go i h (leb bits i) refl)
  where
    go : (i : ℕ) → i < 8 * bytes_for bits → (b : Bool) → leb bits i ≡ b → (b && eqb (get_or (bits_of_bytes bytes) i 0) 1) ≡ false
    go i h false e = refl
    go i h true e = rw (clear i (leb-true bits i e) h)

module _ {p : Profile} {table bytes : List ℕ} {bits : ℕ} {lent : List ℕ} where
  -- Writing that is done has what it asks, ..
  pub done_writable : Done (writing_stream p table bytes bits lent) → Writable p table bytes bits lent
  unfolding writing_stream write_refusal
  done_writable e =
      let first = both_done _ _ (not_refused _ _ _ _ e) in
      let second = both_done _ _ first.second in
      let third = both_done _ _ second.second in
      let count = counted p bytes bits refl refl second.first in
      record {
        ready = first.first;
        whole = omega (arith, div-add-mod' bits (length_of p), count.whole);
        few = few_words count;
        held = count.held;
        clear = not_8_clear bytes bits third.first;
        room = has_room _ _ third.second;
      }

  count_done : Writable p table bytes bits lent → count_refusal p bytes bits ≡ done
  unfolding count_refusal
  count_done w =
      let rest : bits % length_of p ≡ 0 = rw w.whole at (mul-mod_left (messages_held p bits) (length_of p)) in
      let most : bits ≤ most_words * length_of p = rw w.whole at (mul-le-mul_right (length_of p) w.few) in
      rw (eq-eqb _ 0 rest, le-ltb _ _ most, le-ltb _ _ w.held)

  -- .. and writing that has it is done: the stream stands in the lent list from the front.
  pub writable_done : Writable p table bytes bits lent
      → writing_stream p table bytes bits lent ≡ done_with (length (stream_written p bytes bits)) (stream_written p bytes bits) lent
  unfolding writing_stream write_refusal
  writable_done w =
      let room = room_enough _ (length lent) w.room in four_tests_done _ _ lent w.ready (count_done w) (clear_not_8 bytes bits w.clear) room

-- The messages in bytes are of s bits, and as many as are held.
pub messages_held_lem : (p : Profile) (bytes : List ℕ) (bits : ℕ) → AllMessages (length_of p) (messages_of p bytes bits)
messages_held_lem p bytes bits = messages_in_messages (length_of p) _ _ (take_bits bits (bits_of_bytes bytes) (bits_of_bytes_bits bytes))

pub words_held : (p : Profile) (bytes : List ℕ) (bits : ℕ) → length (map (carrier p) (messages_of p bytes bits)) ≡ messages_held p bits
words_held p bytes bits = length-map (messages_of p bytes bits) (carrier p) ∙ length-messages_in (length_of p) (messages_held p bits) _
