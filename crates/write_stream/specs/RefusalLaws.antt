-- Laws of numbers 7, 8 and 9: what decides each, and what is known of bits that none of them refuses.
use Rattle.std.specs.Prelude.{◌≡◌, refl, Bool, true, false, not, ◌&&◌, ◌||◌, Option, Some, None, List, ℕ, ◌-◌, ◌*◌, ◌/◌, ◌%◌, ◌^◌, ◌≤◌, ◌<◌, ltb, leb, eqb, length, get_or, drop}
use Rattle.std.proofs.Common.{sym, ap, ◌∙◌, add-zero, mul_comm, div-one, le_of_lt, le_trans, div-mul-le_self, mul-le-mul_left, mul-le-mul_right, arith, lit<, get_or-take, get_or-drop, le-leb, leb-true, eq-eqb, ne_eqb, eqb-true, ltb-false}
use Rattle.std.proofs.Math.Nat.{div-le_of_le-mul}
use Rattle.std.proofs.lemmas.Bool.{not-false}
use Rattle.std.specs.Int.{div_ceil}
use Rattle.std.specs.Option.{MatchOption}
use Rattle.replies.specs.declared.Reply.{Reply}
use Rattle.replies.specs.declared.Profile.{Profile}
use Rattle.replies.specs.Replies.{done, refused, refused_if, refused_at_first}
use Rattle.replies.specs.ReplyLaws.{both_done, test_failed, has_room, first_refused, none_refused}
use Rattle.profiles.specs.Profiles.{length_of}
use Rattle.bits.specs.Bits.{bits_of, bits_of_bytes, bytes_for}
use Rattle.bits.specs.PieceLaws.{piece_of_bytes}
use Rattle.streams.specs.FitLaws.{neither}
use Rattle.write_stream.specs.Writing.{count_refusal, behind_refusal}
use Rattle.write_stream.specs.Steps.{bits_refusal, Fitting}

-- The bytes that bits take.
pub bytes_taken : (bits : ℕ) → div_ceil bits 8 ≡ bytes_for bits
bytes_taken bits = omega arith

-- 7 is given where the count is no multiple of s, over 256 messages, or where the bytes are not all there.
pub count_refused : (p : Profile) (bytes : List ℕ) (bits : ℕ) {s : ℕ} → s ≡ length_of p
    → refused_if (not (eqb (bits % s) 0) || (ltb (256 * s) bits || ltb (length bytes) (div_ceil bits 8))) 7 ≡ count_refusal p bytes bits
unfolding count_refusal
count_refused p bytes bits e = rw (e, bytes_taken bits)

-- A bit count that 7 does not refuse.
pub record Counted (s bits bytes : ℕ) : Type 0 where
  pub whole : bits % s ≡ 0
  pub few : bits ≤ 256 * s
  pub held : bytes_for bits ≤ bytes

pub counted : (p : Profile) (bytes : List ℕ) (bits : ℕ) {s : ℕ} {r : Reply} → s ≡ length_of p → r ≡ count_refusal p bytes bits → r.number ≡ 0
    → Counted s bits (length bytes)
unfolding count_refusal
counted p bytes bits e f none =
    let first = neither _ _ (test_failed _ 6 (rw (f, ← e) at none)) in
    let second = neither _ _ first.1 in
    record { whole = eqb-true _ 0 (not-false _ first.0); few = ltb-false _ bits second.0; held = ltb-false _ _ second.1 }

-- It is of few bits and few words.
pub few_bits : {s bits bytes : ℕ} → Counted s bits bytes → s < 640 → bits ≤ 256 * 640
few_bits c l = le_trans c.few (mul-le-mul_left 256 (le_of_lt l))

pub few_words : {s bits bytes : ℕ} → Counted s bits bytes → bits / s ≤ 256
few_words {s} c = div-le_of_le-mul s (rw (mul_comm s 256) c.few)

-- The test of number 8.
abbrev behind : List ℕ → ℕ → ℕ → Bool
behind bytes bits i = leb bits i && eqb (get_or (bits_of_bytes bytes) i 0) 1

-- No bit behind the last message bit, up to a place, is 1.
abbrev pub NoneBehind : List ℕ → ℕ → ℕ → Type 0
NoneBehind bytes bits i = (k : ℕ) → k < i → behind bytes bits k ≡ false

-- The bit at a place, read off its byte.
abbrev pub bit_read : List ℕ → ℕ → ℕ
bit_read bytes i = get_or bytes (i / 8) 0 / 2 ^ (7 - i % 8) % 2

bit_read_lem : (bytes : List ℕ) (i : ℕ) → i / 8 < length bytes → get_or (bits_of_bytes bytes) i 0 ≡ bit_read bytes i
unfolding bits_of
bit_read_lem bytes i inside =
    let bits = bits_of_bytes bytes in
    let here = rw add-zero at (get_or-drop i bits 0 0) in
    let first = get_or-take 1 (drop i bits) 0 0 (lit< tt) in
    let piece = piece_of_bytes bytes i 1 (omega arith) inside in
    let place : 8 - i % 8 - 1 ≡ 7 - i % 8 = omega arith in
    sym here ∙ sym first ∙ ap (λ (l : List ℕ). get_or l 0 0) piece ∙ rw (div-one, place)

-- 8 is given at the first bit behind that is 1, and not where there is none.
pub behind_found : (bytes : List ℕ) (bits : ℕ) (found : Option ℕ) → bytes_for bits ≤ length bytes
    → MatchOption found ((k : ℕ) → bits ≤ k → k < 8 * bytes_for bits → bit_read bytes k ≡ 1 → ⊥)
    (λ i. (bits ≤ i) × (i < 8 * bytes_for bits) × (bit_read bytes i ≡ 1) × ((k : ℕ) → bits ≤ k → k < i → bit_read bytes k ≡ 1 → ⊥))
    → MatchOption found (done ≡ behind_refusal bytes bits) (λ i. refused 8 i ≡ behind_refusal bytes bits)
unfolding behind_refusal
behind_found bytes bits found held = go found
  where
    none_before : (end : ℕ) → end ≤ 8 * bytes_for bits → ((k : ℕ) → bits ≤ k → k < end → bit_read bytes k ≡ 1 → ⊥) → NoneBehind bytes bits end
    none_before end l none k h = at_most (leb bits k) refl
      where
        at_most : (b : Bool) → leb bits k ≡ b → behind bytes bits k ≡ false
        at_most false e = rw e
        at_most true e = rw (e, bit_read_lem bytes k (omega arith)) (ne_eqb (bit_read bytes k) 1 (λ one. none k (leb-true bits k e) h one))

    go : (found : Option ℕ) → MatchOption found ((k : ℕ) → bits ≤ k → k < 8 * bytes_for bits → bit_read bytes k ≡ 1 → ⊥)
        (λ i. (bits ≤ i) × (i < 8 * bytes_for bits) × (bit_read bytes i ≡ 1) × ((k : ℕ) → bits ≤ k → k < i → bit_read bytes k ≡ 1 → ⊥))
        → MatchOption found (done ≡ refused_at_first (behind bytes bits) (8 * bytes_for bits) 8) (λ i. refused 8 i ≡ refused_at_first (behind bytes bits) (8 * bytes_for bits) 8)
    go None none = sym (none_refused (behind bytes bits) _ 8 (λ k l. none_before (8 * bytes_for bits) (omega arith) none k))
    go (Some i) here =
        let one : behind bytes bits i ≡ true = rw (le-leb bits i here.0, bit_read_lem bytes i (omega (arith, here.1))) (eq-eqb (bit_read bytes i) 1 here.2) in
        sym (first_refused (behind bytes bits) _ 8 i (λ k l. none_before i (omega (arith, here.1)) here.3 k) one here.1)

-- Bits that are not refused: 7 lets their count through, ..
module _ (p : Profile) (bytes : List ℕ) (bits lent : ℕ) {s : ℕ} (same : s ≡ length_of p) (passed : done ≡ bits_refusal p bytes bits lent) where
  none : (bits_refusal p bytes bits lent).number ≡ 0
  none = sym (ap (λ (r : Reply). r.number) passed)

  pub bits_counted : Counted s bits (length bytes)
  bits_counted = counted p bytes bits same refl (both_done _ _ none).first

  -- .. and their messages are few, the bytes hold them, and there is room.
  pub fitting : Fitting p s (bits / s) (length bytes) lent
  fitting =
      let room = has_room _ _ (both_done _ _ (both_done _ _ none).second).second in
      record { few = few_words bits_counted; held = omega (arith, div-mul-le_self bits s, bits_counted.held); room = rw same room }

-- Fewer of them fit too.
pub fewer_fit : {p : Profile} {s n k bytes lent : ℕ} → Fitting p s n bytes lent → k ≤ n → Fitting p s k bytes lent
fewer_fit {p} {s} {n} {k} f l =
    let words = mul-le-mul_right p.m l in
    let bridges = mul-le-mul_right {m = k - 1} {n = n - 1} p.x (omega arith) in
    record { few = le_trans l f.few; held = le_trans (mul-le-mul_right s l) f.held; room = omega (arith, f.room) }
