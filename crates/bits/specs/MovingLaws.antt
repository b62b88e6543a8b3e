-- Laws of moving bits by pieces and by bytes: one step of reading a number, and one step of writing bits.
use Rattle.std.specs.Prelude.{◌≡◌, refl, List, ℕ, zero, suc, ◌+◌, ◌-◌, ◌*◌, ◌/◌, ◌%◌, ◌^◌, ◌≤◌, ◌<◌, length, get_or, set, take, drop}
use Rattle.std.proofs.Common.{sym, ap, ◌∙◌, zero-add, add_comm, add_assoc, zero-mul, add-mul, mul_assoc, mod-lt, mod-eq_of_lt, div-one, lt_of_lt_of_le, add-one, arith, lit<, length-take, length-drop, length-set, pow_mono, pow-add, shr-shr, take-add, take_all, drop-drop}
use Rattle.std.proofs.Math.Arith.{digits_lt}
use Rattle.bits.specs.Bits.{bits_of, number_of, bits_of_bytes, with_bits, AllBytes}
use Rattle.bits.specs.BitLaws.{take_bits, drop_bits, bits_of_bits, bits_of-append, bits_of_below, bits_of_bytes_bits, length_bits_of, length-bits_of_bytes, number_of_bits_of, number_of-take_below, number_of-take_more}
use Rattle.bits.specs.WithLaws.{with_bits_more, length_with_bits}
use Rattle.bits.specs.PieceLaws.{piece_of_number, piece_of_bytes}
use Rattle.bits.specs.ByteLaws.{set_before_bits}

-- The number of the first n bits from bit place `at` on.
abbrev pub number_from : List ℕ → ℕ → ℕ → ℕ
number_from bytes at n = number_of (take n (drop at (bits_of_bytes bytes)))

-- It is below 2 ^ n.
number_from_below : (bytes : List ℕ) (at n : ℕ) → number_from bytes at n < 2 ^ n
number_from_below bytes at n = number_of-take_below n (drop at (bits_of_bytes bytes)) (drop_bits at (bits_of_bytes bytes) (bits_of_bytes_bits bytes))

-- Where the bits lie in one byte, it is a piece of that byte.
pub number_from_piece : (bytes : List ℕ) (at c : ℕ) → at % 8 + c ≤ 8 → at / 8 < length bytes
    → number_from bytes at c ≡ get_or bytes (at / 8) 0 / 2 ^ (8 - at % 8 - c) % 2 ^ c
number_from_piece bytes at c one inside = rw (piece_of_bytes bytes at c one inside, number_of_bits_of)

-- Where they are the byte p, it is that byte.
number_from_byte : (bytes : List ℕ) (p : ℕ) → get_or bytes p 0 < 256 → p < length bytes → number_from bytes (8 * p) 8 ≡ get_or bytes p 0
number_from_byte bytes p small inside =
    let place : 8 * p / 8 ≡ p = omega arith in
    let start : 8 * p % 8 ≡ 0 = omega arith in
    rw (place, start, div-one, mod-eq_of_lt small) at (number_from_piece bytes (8 * p) 8 (omega arith) (omega arith))

-- Where there are none, it does not matter from which place on.
number_from_none : (bytes : List ℕ) (place at c : ℕ) → (0 < c → place ≡ at) → number_from bytes place c ≡ number_from bytes at c
number_from_none bytes place at zero same = refl
number_from_none bytes place at (suc c) same = ap (λ (p : ℕ). number_from bytes p (suc c)) (same (omega arith))

-- `done` bits are read from bit place `at` on: their number stands behind `front`.
pub record Gathered (front : ℕ) (bytes : List ℕ) (at done number : ℕ) : Type 0 where
  pub made : number ≡ front * 2 ^ done + number_from bytes at done

-- Before the first of them there is only what stands in front.
pub gathered_none : (front : ℕ) (bytes : List ℕ) (at : ℕ) → Gathered front bytes at 0 front
unfolding number_of
gathered_none front bytes at = record { made = omega arith }

-- The number of bits with nothing in front is so made, ..
pub gathered_first : (bytes : List ℕ) (at c : ℕ) {number : ℕ} → number ≡ number_from bytes at c → Gathered 0 bytes at c number
gathered_first bytes at c read = record { made = rw (zero-mul, zero-add) read }

-- .. and what is so made is the number of bits.
pub gathered_all : {bytes : List ℕ} {at c number : ℕ} → Gathered 0 bytes at c number → number ≡ number_from bytes at c
gathered_all g = rw (zero-mul, zero-add) at g.made

-- With a bits in front, all is below 2 ^ m where a and those read are at most m.
pub gathered_below : {front : ℕ} {bytes : List ℕ} {at done number : ℕ} → Gathered front bytes at done number
    → (a m : ℕ) → front < 2 ^ a → a + done ≤ m → number < 2 ^ m
gathered_below {front} {bytes} {at} {done} g a m small few =
    let below = rw (← (pow-add 2 a done)) at (digits_lt small (number_from_below bytes at done)) in
    rw g.made (lt_of_lt_of_le below (pow_mono {i = a + done} {j = m} few))

-- The next c bits, read behind those before them.
pub gathered_more : {front : ℕ} {bytes : List ℕ} {at done number : ℕ} → Gathered front bytes at done number
    → (c place : ℕ) {number' : ℕ} → number' ≡ number * 2 ^ c + number_from bytes place c → (0 < c → place ≡ at + done) → at + done + c ≤ 8 * length bytes
    → Gathered front bytes at (done + c) number'
gathered_more {front} {bytes} {at} {done} g c place number behind inside =
    let long : done + c ≤ length (drop at (bits_of_bytes bytes)) = rw (length-drop, length-bits_of_bytes) (omega arith) in
    let more = number_of-take_more (drop at (bits_of_bytes bytes)) done c long in
    record { made = number ∙ rw (number_from_none bytes place (at + done) c behind, g.made, more, drop-drop, pow-add, add-mul, mul_assoc, add_assoc) }

-- The next byte.
pub gathered_byte : {front : ℕ} {bytes : List ℕ} (first i : ℕ) {number : ℕ} → Gathered front bytes (8 * first) (8 * i) number
    → get_or bytes (first + i) 0 < 256 → first + i < length bytes
    → Gathered front bytes (8 * first) (8 * (i + 1)) (number * 256 + get_or bytes (first + i) 0)
gathered_byte {front} {bytes} first i g small inside =
    let more : 8 * (i + 1) ≡ 8 * i + 8 = omega arith in
    rw more (gathered_more g 8 (8 * (first + i)) (rw (number_from_byte bytes (first + i) small inside)) (λ _. omega arith) (omega arith))

-- The first `done` of the n lowest bits of v are written from bit place `at` on.
pub record Written (n v at done : ℕ) (before now : List ℕ) : Type 0 where
  pub held : now ≡ with_bits at (take done (bits_of n v)) before
  pub long : length now ≡ length before

-- Before the first of them nothing is written.
pub written_none : (n v at : ℕ) (before : List ℕ) → Written n v at 0 before before
unfolding with_bits
written_none n v at before = record { held = refl; long = refl }

-- Behind the last of them all n bits are.
pub written_all : {n v at done : ℕ} {before now : List ℕ} → Written n v at done before now → n ≤ done → now ≡ with_bits at (bits_of n v) before
written_all {n} {v} {at} {done} w all = w.held ∙ rw (take_all done (bits_of n v) (rw length_bits_of all))

-- Where there are no bits, it does not matter from which place on they are written.
with_bits_none : (place at c v : ℕ) (bytes : List ℕ) → (0 < c → place ≡ at) → with_bits place (bits_of c v) bytes ≡ with_bits at (bits_of c v) bytes
unfolding with_bits bits_of
with_bits_none place at zero v bytes same = refl
with_bits_none place at (suc c) v bytes same = ap (λ (p : ℕ). with_bits p (bits_of (suc c) v) bytes) (same (omega arith))

-- The next c bits, written behind those before them.
pub written_more : {n v at done : ℕ} {before now : List ℕ} → Written n v at done before now
    → (c below place : ℕ) {now' : List ℕ} → now' ≡ with_bits place (bits_of c (v / 2 ^ below)) now
    → (0 < c → place ≡ at + done) → n ≡ done + (c + below) → at + n ≤ 8 * length before
    → Written n v at (done + c) before now'
written_more {n} {v} {at} {done} {before} {now} w c below place wrote behind whole inside =
    let same = w.long in
    let piece : take c (drop done (bits_of n v)) ≡ bits_of c (v / 2 ^ below) = rw whole (piece_of_number done c below v) in
    let long : length (take done (bits_of n v)) ≡ done = rw (length-take, length_bits_of) (omega arith) in
    let more = rw long at (with_bits_more at (take done (bits_of n v)) (bits_of c (v / 2 ^ below)) before (omega arith) (take_bits done (bits_of n v) (bits_of_bits n v))) in
    let put = wrote ∙ with_bits_none place (at + done) c (v / 2 ^ below) now behind in
    record {
      held = put ∙ rw (w.held, more, take-add, piece);
      long = ap length put ∙ length_with_bits (at + done) (bits_of c (v / 2 ^ below)) now (rw length_bits_of (omega arith)) ∙ w.long;
    }

-- The j lowest bytes of a limb are written from byte `place` on; `rest` is what stands above them.
pub record BytesWritten (limb place j : ℕ) (before now : List ℕ) (rest : ℕ) : Type 0 where
  pub held : now ≡ with_bits (8 * place) (bits_of (8 * j) limb) before
  pub long : length now ≡ length before
  pub above : rest ≡ limb / 2 ^ (8 * j)

-- Before the last of them nothing is written.
pub bytes_written_none : (limb place : ℕ) (before : List ℕ) → BytesWritten limb place 0 before before limb
unfolding with_bits bits_of
bytes_written_none limb place before = record { held = refl; long = refl; above = sym (div-one limb) }

-- The next byte, written before those behind it.
pub bytes_written_more : {limb place j : ℕ} {before now : List ℕ} {rest : ℕ} → BytesWritten limb place j before now rest → AllBytes before
    → {place' j' byte : ℕ} → byte ≡ rest % 256 → place ≡ place' + 1 → j' ≡ j + 1 → place' < length before
    → BytesWritten limb place' j' before (set now place' byte) (rest / 256)
bytes_written_more {limb} {place} {j} {before} {now} {rest} w all {place'} {j'} {byte} last next more inside =
    let bits : 8 * j' ≡ 8 + 8 * j = omega arith in
    let eight : bits_of 8 (rest % 256) ≡ bits_of 8 (limb / 2 ^ (8 * j)) = rw w.above (bits_of_below 8 (limb / 2 ^ (8 * j))) in
    record {
      held = rw (last, w.held, next, add-one) (set_before_bits place' (rest % 256) (bits_of (8 * j) limb) before all (mod-lt rest (lit< tt)) inside ∙ rw (bits, bits_of-append, eight));
      long = length-set now place' byte ∙ w.long;
      above = rw (w.above, bits, add_comm 8 (8 * j)) (shr-shr limb (8 * j) 8);
    }
