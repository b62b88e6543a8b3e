-- Laws of pieces: a few bits in a row of a number, and of bytes where they lie in one byte.
use Rattle.std.specs.Prelude.{◌≡◌, refl, List, [], ◌∷◌, ◌++◌, ℕ, zero, suc, ◌+◌, ◌-◌, ◌*◌, ◌/◌, ◌%◌, ◌^◌, ◌≤◌, ◌<◌, length, get_or, take, drop}
use Rattle.std.proofs.Common.{add-zero, add_comm, mul-suc, one-mul, mod-eq_of_lt, arith, length-drop, take-add, take_at, drop_at, drop-drop, drop-cons}
use Rattle.std.proofs.lemmas.List.{take-append-le, drop-append-le}
use Rattle.std.proofs.Math.Seq.{drop-append-add, take-append-add, take-nil, drop-nil}
use Rattle.std.proofs.Math.Pow.{pow-lt}
use Rattle.bits.specs.Bits.{bits_of, bits_of_bytes}
use Rattle.bits.specs.BitLaws.{length_bits_of, bits_of-append}

-- A bit that is shifted within a limb.
pub one_shifted : (c : ℕ) → c < 64 → 1 * 2 ^ c % 2 ^ 64 ≡ 2 ^ c
one_shifted c inside = rw one-mul (mod-eq_of_lt (pow-lt inside))

-- c bits of a number, behind r others.
pub piece_of_number : (r c below v : ℕ) → take c (drop r (bits_of (r + (c + below)) v)) ≡ bits_of c (v / 2 ^ below)
piece_of_number r c below v =
    rw (
      bits_of-append r (c + below) v,
      drop_at (bits_of r (v / 2 ^ (c + below))) (bits_of (c + below) v) r (length_bits_of r (v / 2 ^ (c + below))),
      bits_of-append c below v,
      take_at (bits_of c (v / 2 ^ below)) (bits_of below v) c (length_bits_of c (v / 2 ^ below)),
    )

-- One byte more is eight bits more.
eight_more : (q x : ℕ) → 8 * suc q ≡ length (bits_of 8 x) + 8 * q
eight_more q x = rw (length_bits_of 8 x, mul-suc) (add_comm (8 * q) 8)

-- The bits of the bytes from byte q on.
drop_bytes : (q : ℕ) (bytes : List ℕ) → drop (8 * q) (bits_of_bytes bytes) ≡ bits_of_bytes (drop q bytes)
unfolding bits_of_bytes
drop_bytes zero bytes = refl
drop_bytes (suc q) [] = drop-nil (8 * suc q)
drop_bytes (suc q) (x ∷ bytes) = rw (eight_more q x, drop-append-add, drop_bytes q bytes)

-- The bits of the first q bytes.
pub take_bytes : (q : ℕ) (bytes : List ℕ) → take (8 * q) (bits_of_bytes bytes) ≡ bits_of_bytes (take q bytes)
unfolding bits_of_bytes
take_bytes zero bytes = refl
take_bytes (suc q) [] = take-nil (8 * suc q)
take_bytes (suc q) (x ∷ bytes) = rw (eight_more q x, take-append-add, take_bytes q bytes)

-- The bits of the byte q, and those of the bytes behind it.
byte_bits : (q : ℕ) (bytes : List ℕ) → q < length bytes → drop (8 * q) (bits_of_bytes bytes) ≡ bits_of 8 (get_or bytes q 0) ++ bits_of_bytes (drop (suc q) bytes)
unfolding bits_of_bytes
byte_bits q bytes inside = rw (drop_bytes, drop-cons bytes q 0)

-- A piece of c bits of the byte q, behind r others.
piece_in_byte : (bytes : List ℕ) (q r c below : ℕ) → r + (c + below) ≡ 8 → q < length bytes
    → take c (drop (8 * q + r) (bits_of_bytes bytes)) ≡ bits_of c (get_or bytes q 0 / 2 ^ below)
piece_in_byte bytes q r c below eight inside =
    let long = length_bits_of 8 (get_or bytes q 0) in
    rw (
      ← (drop-drop r (8 * q) (bits_of_bytes bytes)),
      byte_bits q bytes,
      drop-append-le r (bits_of 8 (get_or bytes q 0)) (bits_of_bytes (drop (suc q) bytes)) (omega arith),
      take-append-le c (drop r (bits_of 8 (get_or bytes q 0))) (bits_of_bytes (drop (suc q) bytes)) (rw length-drop (omega arith)),
    )
    (rw eight at (piece_of_number r c below (get_or bytes q 0)))

-- A piece of c bits from bit place `at` on.
pub piece_of_bytes : (bytes : List ℕ) (at c : ℕ) → at % 8 + c ≤ 8 → at / 8 < length bytes
    → take c (drop at (bits_of_bytes bytes)) ≡ bits_of c (get_or bytes (at / 8) 0 / 2 ^ (8 - at % 8 - c))
piece_of_bytes bytes at c one inside =
    let place : 8 * (at / 8) + at % 8 ≡ at = omega arith in
    rw place at (piece_in_byte bytes (at / 8) (at % 8) c (8 - at % 8 - c) (omega arith) inside)

-- The bits before a place in the byte q.
pub bits_before : (bytes : List ℕ) (q r : ℕ) → r ≤ 8 → q < length bytes → take (8 * q + r) (bits_of_bytes bytes) ≡ bits_of_bytes (take q bytes) ++ bits_of r (get_or bytes q 0 / 2 ^ (8 - r))
bits_before bytes q r one inside =
    let kept = rw add-zero at (piece_in_byte bytes q 0 r (8 - r) (omega arith) inside) in
    rw (take-add, take_bytes, kept)
