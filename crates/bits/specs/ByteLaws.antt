-- Laws of bytes that bits are packed into: whole bytes, and a byte that a piece is written to.
use Rattle.std.specs.Prelude.{◌≡◌, refl, List, [], ◌∷◌, ◌++◌, ℕ, zero, suc, ◌+◌, ◌-◌, ◌*◌, ◌/◌, ◌%◌, ◌^◌, ◌≤◌, ◌<◌, length, get_or, set, take, drop, replicate}
use Rattle.std.proofs.Common.{sym, ◌∙◌, append_assoc, add-zero, zero-add, zero-mul, suc-add, mod-eq_of_lt, le-mul_of_pos_right, lt_of_le_of_lt, arith, lit<, length-append, length-take, take-append-drop, take_at, drop_at, take-suc, pow_pos, pow-add, shl_lt, shr_lt}
use Rattle.std.proofs.Math.Nat.{sub-add-eq}
use Rattle.std.proofs.Math.Arith.{digits_lt}
use Rattle.std.proofs.lemmas.List.{length-replicate, set_at, set_split}
use Rattle.std.proofs.Math.Seq.{take-append-add, append_snoc}
use Rattle.std.proofs.Math.Pow.{shr_mod}
use Rattle.bits.specs.Bits.{bits_of, number_of, bits_of_bytes, bytes_for, packed_into, packed, with_bits, AllBytes}
use Rattle.bits.specs.BitLaws.{take_below, length_bits_of, number_of-append, number_of_bits_of, length-bits_of_bytes}
use Rattle.bits.specs.PieceLaws.{take_bytes, bits_before}

-- Bytes that are whole are packed as they are.
pub packed_whole : (x k : ℕ) (bits : List ℕ) → x < 256 → packed_into (suc k) (bits_of 8 x ++ bits) ≡ x ∷ packed_into k bits
unfolding packed_into
packed_whole x k bits small =
    let long = length_bits_of 8 x in
    rw (
      append_assoc (bits_of 8 x) bits (replicate 8 0),
      take_at (bits_of 8 x) (bits ++ replicate 8 0) 8 long,
      drop_at (bits_of 8 x) bits 8 long,
      number_of_bits_of,
      mod-eq_of_lt small,
    )

packed_into_bytes : (front : List ℕ) (k : ℕ) (bits : List ℕ) → AllBytes front → packed_into (length front + k) (bits_of_bytes front ++ bits) ≡ front ++ packed_into k bits
unfolding bits_of_bytes
packed_into_bytes [] k bits all = rw zero-add
packed_into_bytes (x ∷ front) k bits all =
    rw (
      suc-add,
      append_assoc (bits_of 8 x) (bits_of_bytes front) bits,
      packed_whole x (length front + k) (bits_of_bytes front ++ bits) (all 0),
      packed_into_bytes front k bits (λ i. all (suc i)),
    )

-- Zero bits stand for 0.
number_of_zeros : (n m : ℕ) → number_of (take n (replicate m 0)) ≡ 0
unfolding number_of
number_of_zeros zero m = refl
number_of_zeros (suc n) zero = refl
number_of_zeros (suc n) (suc m) = rw (zero-mul, zero-add, number_of_zeros n m)

-- Bits that fit a byte are packed into one, with zero bits to its end.
packed_byte : (bits : List ℕ) → length bits ≤ 8 → packed_into 1 bits ≡ number_of bits * 2 ^ (8 - length bits) ∷ []
unfolding packed_into
packed_byte bits fits =
    let whole : length bits + (8 - length bits) ≡ 8 = omega arith in
    let rest : length {A = ℕ} (take (8 - length bits) (replicate 8 0)) ≡ 8 - length bits = rw (length-take, length-replicate) (omega arith) in
    rw (
      rw whole at (take-append-add bits (replicate 8 0) (8 - length bits)),
      number_of-append,
      rest,
      number_of_zeros,
      add-zero,
    )

-- What writing some bits leaves.
with_bits_some : (at : ℕ) (bits bytes : List ℕ) → 0 < length bits → with_bits at bits bytes ≡ packed (take at (bits_of_bytes bytes) ++ bits) ++ drop (bytes_for (at + length bits)) bytes
unfolding with_bits
with_bits_some at [] bytes some = absurd (omega arith)
with_bits_some at (b ∷ bits) bytes some = refl

-- A byte with its r first bits kept, a piece of c bits behind them and zero bits to its end.
filled_byte : (x r c v : ℕ) → x < 256 → r + c ≤ 8 → packed_into 1 (bits_of r (x / 2 ^ (8 - r)) ++ bits_of c v) ≡ (x / 2 ^ (8 - r) * 2 ^ c + v % 2 ^ c) * 2 ^ (8 - r - c) ∷ []
filled_byte x r c v small one =
    let eight : r + (8 - r) ≡ 8 = omega arith in
    let long : length (bits_of r (x / 2 ^ (8 - r)) ++ bits_of c v) ≡ r + c = simp (length-append, length_bits_of) in
    let kept = shr_mod {n = x} r (8 - r) (rw eight small) in
    rw (packed_byte (bits_of r (x / 2 ^ (8 - r)) ++ bits_of c v) (rw long one), number_of-append, long, length_bits_of, number_of_bits_of r (x / 2 ^ (8 - r)), kept, number_of_bits_of, sub-add-eq)

-- A piece written to the byte q.
with_bits_in_byte : (bytes : List ℕ) (q r c v : ℕ) → AllBytes bytes → 0 < c → r + c ≤ 8 → q < length bytes
    → with_bits (8 * q + r) (bits_of c v) bytes ≡ set bytes q ((get_or bytes q 0 / 2 ^ (8 - r) * 2 ^ c + v % 2 ^ c) * 2 ^ (8 - r - c))
with_bits_in_byte bytes q r c v all some one inside =
    let piece : List ℕ = bits_of r (get_or bytes q 0 / 2 ^ (8 - r)) ++ bits_of c v in
    let front : length (take q bytes) ≡ q = rw length-take (omega arith) in
    let count : bytes_for (length (bits_of_bytes (take q bytes) ++ piece)) ≡ length (take q bytes) + 1 = simp (length-append, length-bits_of_bytes, length_bits_of, front) (omega arith) in
    let last : bytes_for (8 * q + r + length (bits_of c v)) ≡ suc q = rw length_bits_of (omega arith) in
    with_bits_some (8 * q + r) (bits_of c v) bytes (rw length_bits_of some)
    ∙ rw (
      bits_before bytes q r (omega arith) inside,
      append_assoc (bits_of_bytes (take q bytes)),
      count,
      last,
      packed_into_bytes (take q bytes) 1 piece (take_below 256 q bytes (lit< tt) all),
      filled_byte (get_or bytes q 0) r c v (all q) one,
      append_assoc (take q bytes),
    )
    (sym (set_split bytes q _ inside))

-- Bits written from the byte p on: the bytes before it are as they were, and so are those behind the bits.
with_bits_from_byte : (p : ℕ) (bits bytes : List ℕ) → AllBytes bytes → p ≤ length bytes → with_bits (8 * p) bits bytes ≡ take p bytes ++ (packed bits ++ drop (p + bytes_for (length bits)) bytes)
unfolding with_bits packed_into
with_bits_from_byte p [] bytes all inside = rw add-zero (sym (take-append-drop p bytes))
with_bits_from_byte p (b ∷ bits) bytes all inside =
    let front : length (take p bytes) ≡ p = rw length-take (omega arith) in
    let count : bytes_for (length (bits_of_bytes (take p bytes) ++ (b ∷ bits))) ≡ length (take p bytes) + bytes_for (length (b ∷ bits)) = simp (length-append, length-bits_of_bytes) (omega arith) in
    let last : bytes_for (8 * p + length (b ∷ bits)) ≡ p + bytes_for (length (b ∷ bits)) = omega arith in
    rw (take_bytes, count, last, packed_into_bytes (take p bytes) (bytes_for (length (b ∷ bits))) (b ∷ bits) (take_below 256 p bytes (lit< tt) all), append_assoc (take p bytes))

-- A byte set before bits that are written from the next byte on: its bits are written with them.
pub set_before_bits : (p x : ℕ) (bits bytes : List ℕ) → AllBytes bytes → x < 256 → p < length bytes → set (with_bits (8 * suc p) bits bytes) p x ≡ with_bits (8 * p) (bits_of 8 x ++ bits) bytes
set_before_bits p x bits bytes all small inside =
    let more : length (bits_of 8 x ++ bits) ≡ 8 + length bits = simp (length-append, length_bits_of) in
    let count : bytes_for (length (bits_of 8 x ++ bits)) ≡ suc (bytes_for (length bits)) = rw more (omega arith) in
    let last : p + suc (bytes_for (length bits)) ≡ suc p + bytes_for (length bits) = omega arith in
    rw (
      with_bits_from_byte (suc p) bits bytes all (omega arith),
      with_bits_from_byte p (bits_of 8 x ++ bits) bytes all (omega arith),
      count,
      packed_whole x (bytes_for (length bits)) bits small,
      last,
      take-suc bytes p 0,
      append_snoc,
      set_at (take p bytes) (get_or bytes p 0) (packed bits ++ drop (suc p + bytes_for (length bits)) bytes) x p (rw length-take (omega arith)),
    )

-- A piece written from bit place `at` on.
pub with_bits_byte : (bytes : List ℕ) (at c v : ℕ) → AllBytes bytes → 0 < c → at % 8 + c ≤ 8 → at / 8 < length bytes
    → with_bits at (bits_of c v) bytes ≡ set bytes (at / 8) ((get_or bytes (at / 8) 0 / 2 ^ (8 - at % 8) * 2 ^ c + v % 2 ^ c) * 2 ^ (8 - at % 8 - c))
with_bits_byte bytes at c v all some one inside =
    let place : 8 * (at / 8) + at % 8 ≡ at = omega arith in
    rw place at (with_bits_in_byte bytes (at / 8) (at % 8) c v all some one inside)

-- A byte x with a piece of c bits in its last `room` bits fits a byte, and so does what stands before the zero bits at its end.
pub record Filled (x room c piece : ℕ) : Type 0 where
  pub kept : x / 2 ^ room * 2 ^ c + piece < 256
  pub whole : (x / 2 ^ room * 2 ^ c + piece) * 2 ^ (room - c) < 256

-- So it is where the piece fits its bits and they fit the room.
pub filled_fits : (x room c piece : ℕ) → x < 256 → c ≤ room → room ≤ 8 → piece < 2 ^ c → Filled x room c piece
filled_fits x room c piece small few one fits =
    let high : 8 - room + room ≡ 8 = omega arith in
    let all : 8 - room + c + (room - c) ≡ 8 = omega arith in
    let kept = shr_lt {n = x} (8 - room) room (rw high small) in
    let whole = rw all at (shl_lt {a = x / 2 ^ room * 2 ^ c + piece} (8 - room + c) (room - c) (rw pow-add (digits_lt kept fits))) in
    record { kept = lt_of_le_of_lt (le-mul_of_pos_right _ (pow_pos (room - c))) whole; whole = whole }
