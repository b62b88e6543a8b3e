-- Laws that stood in specs/RefusalLaws, which no proof rests on now.
use Rattle.std.specs.Prelude.{◌≡◌, refl, Bool, true, false, not, ◌&&◌, ◌||◌, List, ℕ, ◌+◌, ◌-◌, ◌*◌, ◌/◌, ◌%◌, ◌≤◌, ◌<◌, ltb, leb, eqb, length, get_or, drop}
use Rattle.std.proofs.Common.{sym, ap, ◌∙◌, add-zero, div-one, div-mul-le_self, arith, lit<, get_or-take, get_or-drop, below_more, lt-ltb, le-ltb, le-leb, eq-eqb, ne_eqb}
use Rattle.std.proofs.Math.Bool.{or-true, and-false}
use Rattle.std.proofs.lemmas.Bool.{lt-leb}
use Rattle.replies.specs.declared.Reply.{Reply}
use Rattle.replies.specs.declared.Profile.{Profile}
use Rattle.replies.specs.Replies.{done, refused, refused_if, room_refusal}
use Rattle.replies.specs.ReplyLaws.{both_done, has_room, first_refused, none_refused}
use Rattle.profiles.specs.Profiles.{length_of, stream_length}
use Rattle.bits.specs.Bits.{bits_of, bits_of_bytes, bytes_for}
use Rattle.bits.specs.PieceLaws.{piece_of_bytes}
use Rattle.write_stream.specs.Writing.{count_refusal, behind_refusal, messages_held}
use Rattle.write_stream.specs.Steps.{bits_refusal, Fitting}
use Rattle.write_stream.specs.RefusalLaws.{Counted, counted, few_words, NoneBehind, bit_read}

-- 7 is given above 256 messages, ..
pub count_over : (p : Profile) (bytes : List ℕ) (bits : ℕ) {s : ℕ} → s ≡ length_of p → 256 * s < bits → refused 7 0 ≡ count_refusal p bytes bits
unfolding count_refusal
count_over p bytes bits e over = rw (lt-ltb (256 * length_of p) bits (rw e at over), or-true)

-- .. and up to them where the count is no multiple of s or the bytes are not all there.
pub count_within : (p : Profile) (bytes : List ℕ) (bits : ℕ) {s : ℕ} → s ≡ length_of p → bits ≤ 256 * s
    → refused_if (not (eqb (bits % s) 0) || ltb (length bytes) (bytes_for bits)) 7 ≡ count_refusal p bytes bits
unfolding count_refusal
count_within p bytes bits e within = rw (e, le-ltb (256 * length_of p) bits (rw e at within))

-- The test of number 8.
abbrev behind : List ℕ → ℕ → ℕ → Bool
behind bytes bits i = leb bits i && eqb (get_or (bits_of_bytes bytes) i 0) 1

bit_read_lem : (bytes : List ℕ) (i : ℕ) → i / 8 < length bytes → get_or (bits_of_bytes bytes) i 0 ≡ bit_read bytes i
unfolding bits_of
bit_read_lem bytes i inside =
    let bits = bits_of_bytes bytes in
    let here = rw add-zero at (get_or-drop i bits 0 0) in
    let first = get_or-take 1 (drop i bits) 0 0 (lit< tt) in
    let piece = piece_of_bytes bytes i 1 (omega arith) inside in
    let place : 8 - i % 8 - 1 ≡ 7 - i % 8 = omega arith in
    sym here ∙ sym first ∙ ap (λ (l : List ℕ). get_or l 0 0) piece ∙ rw (div-one, place)

-- No message bit is behind the last one, ..
pub none_behind_first : (bytes : List ℕ) (bits : ℕ) → NoneBehind bytes bits bits
none_behind_first bytes bits k l = rw (lt-leb bits k l)

-- .. and one bit more that is not 1 changes nothing.
pub none_behind_more : (bytes : List ℕ) (bits i : ℕ) → i / 8 < length bytes → NoneBehind bytes bits i → (bit_read bytes i ≡ 1 → ⊥) → NoneBehind bytes bits (i + 1)
none_behind_more bytes bits i inside none not-one =
    let here : behind bytes bits i ≡ false = rw (bit_read_lem bytes i inside, ne_eqb (bit_read bytes i) 1 not-one) (and-false (leb bits i)) in
    below_more (λ (k : ℕ). behind bytes bits k ≡ false) i none here

-- 8 is given at the first bit behind that is 1, ..
pub behind_refused : (bytes : List ℕ) (bits i : ℕ) → i / 8 < length bytes → NoneBehind bytes bits i → bits ≤ i → i < 8 * bytes_for bits → bit_read bytes i ≡ 1
    → refused 8 i ≡ behind_refusal bytes bits
unfolding behind_refusal
behind_refused bytes bits i inside none past below one =
    let here : behind bytes bits i ≡ true = rw (le-leb bits i past, bit_read_lem bytes i inside) (eq-eqb (bit_read bytes i) 1 one) in
    sym (first_refused (behind bytes bits) _ 8 i (λ k l. none k) here below)

-- .. and not where there is none.
pub none_behind : (bytes : List ℕ) (bits : ℕ) → NoneBehind bytes bits (8 * bytes_for bits) → done ≡ behind_refusal bytes bits
unfolding behind_refusal
none_behind bytes bits none = sym (none_refused (behind bytes bits) _ 8 (λ k l. none k))

-- 9 is tested for the cells of as many words as there are messages.
pub room_tested : (p : Profile) (bits lent : ℕ) {s cells : ℕ} {r : Reply} → s ≡ length_of p → cells ≡ stream_length p (bits / s) → r ≡ room_refusal cells lent
    → r ≡ room_refusal (stream_length p (messages_held p bits)) lent
room_tested p bits lent e f g = rw (← e, ← f) g

-- Bits that are not refused: 7 lets their count through, ..
module _ (p : Profile) (bytes : List ℕ) (bits lent : ℕ) {s : ℕ} {r : Reply} (same : s ≡ length_of p) (tested : r ≡ bits_refusal p bytes bits lent) (none : r.number ≡ 0) where
  pub bits_counted : Counted s bits (length bytes)
  bits_counted = counted p bytes bits same refl (both_done _ _ (rw tested at none)).first

  -- .. and their messages are few, the bytes hold them, and there is room.
  pub fitting : Fitting p s (bits / s) (length bytes) lent
  fitting =
      let room = has_room _ _ (both_done _ _ (both_done _ _ (rw tested at none)).second).second in
      record { few = few_words bits_counted; held = omega (arith, div-mul-le_self bits s, bits_counted.held); room = rw same room }
