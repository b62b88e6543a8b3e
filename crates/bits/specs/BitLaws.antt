-- Laws of bits: of the number that they stand for, and of the bits of bytes.
use Rattle.std.specs.Prelude.{◌≡◌, refl, List, [], ◌∷◌, ◌++◌, ℕ, zero, suc, ◌+◌, ◌*◌, ◌/◌, ◌%◌, ◌^◌, ◌≤◌, ◌<◌, length, get_or, take, drop}
use Rattle.std.proofs.Common.{sym, ap, append_assoc, zero-add, suc-add, add_comm, add_assoc, add-mul, mul-suc, mul_assoc, zero-mul, mod-lt, mod-eq_of_lt, div-add-mod', lt_of_lt_of_le, arith, lit<, length-append, length-take, length-drop, get_or-drop, take-add, pow_pos, pow_mono, pow-add, shr-shr}
use Rattle.std.proofs.Math.Nat.{mod-one, mul-add-div_right, mul-add-mod_self_right, pow-succ', min-le_left}
use Rattle.std.proofs.Math.Arith.{digits_lt, digits_div, mod-mul}
use Rattle.bits.specs.Bits.{bits_of, number_of, bits_of_bytes}

-- Each element of a list is a bit.
abbrev pub AllBits : List ℕ → Type 0
AllBits bits = (i : ℕ) → get_or bits i 0 < 2

-- Bits in a row are bits.
pub append_bits : (a b : List ℕ) → AllBits a → AllBits b → AllBits (a ++ b)
append_bits [] b all_a all_b i = all_b i
append_bits (x ∷ a) b all_a all_b zero = all_a 0
append_bits (x ∷ a) b all_a all_b (suc i) = append_bits a b (λ k. all_a (suc k)) all_b i

-- The first of numbers below m are below m.
pub take_below : (m n : ℕ) (l : List ℕ) → 0 < m → ((i : ℕ) → get_or l i 0 < m) → (i : ℕ) → get_or (take n l) i 0 < m
take_below m zero l some all i = some
take_below m (suc n) [] some all i = some
take_below m (suc n) (x ∷ l) some all zero = all 0
take_below m (suc n) (x ∷ l) some all (suc i) = take_below m n l some (λ k. all (suc k)) i

-- So the first of bits are bits.
pub take_bits : (n : ℕ) (bits : List ℕ) → AllBits bits → AllBits (take n bits)
take_bits n bits all = take_below 2 n bits (lit< tt) all

-- What follows them are bits too.
pub drop_bits : (n : ℕ) (bits : List ℕ) → AllBits bits → AllBits (drop n bits)
drop_bits n bits all i = rw (get_or-drop n bits i 0) (all (n + i))

-- The n lowest bits of a number are n.
pub length_bits_of : (n v : ℕ) → length (bits_of n v) ≡ n
unfolding bits_of
length_bits_of zero v = refl
length_bits_of (suc n) v = ap suc (length_bits_of n v)

-- And each is 0 or 1.
pub bits_of_bits : (n v : ℕ) → AllBits (bits_of n v)
unfolding bits_of
bits_of_bits zero v i = lit< tt
bits_of_bits (suc n) v zero = mod-lt (v / 2 ^ n) (lit< tt)
bits_of_bits (suc n) v (suc i) = bits_of_bits n v i

-- The number of bits in a row: that of the first ones, and behind it that of the others.
pub number_of-append : (a b : List ℕ) → number_of (a ++ b) ≡ number_of a * 2 ^ length b + number_of b
unfolding number_of
number_of-append [] b = simp (zero-mul, zero-add)
number_of-append (x ∷ a) b = rw (number_of-append a b, length-append a b, pow-add 2 (length a) (length b), add-mul, mul_assoc, add_assoc)

-- The n lowest bits of a number stand for it as far as it fits them.
pub number_of_bits_of : (n v : ℕ) → number_of (bits_of n v) ≡ v % 2 ^ n
unfolding number_of bits_of
number_of_bits_of zero v = sym (mod-one v)
number_of_bits_of (suc n) v = rw (length_bits_of n v, number_of_bits_of n v, pow-succ' 2 n) (sym (mod-mul v {m = 2} {c = 2 ^ n} (lit< tt) (pow_pos n)))

-- A number of n bits is below 2 ^ n.
pub number_of_below : (bits : List ℕ) → AllBits bits → number_of bits < 2 ^ length bits
unfolding number_of
number_of_below [] all = lit< tt
number_of_below (b ∷ bits) all = rw (pow-succ' 2 (length bits)) (digits_lt (all 0) (number_of_below bits (λ i. all (suc i))))

-- So is the number of at most n bits.
pub number_of-take_below : (n : ℕ) (bits : List ℕ) → AllBits bits → number_of (take n bits) < 2 ^ n
number_of-take_below n bits all =
    lt_of_lt_of_le (number_of_below (take n bits) (take_bits n bits all)) (pow_mono (rw length-take (min-le_left n (length bits))))

-- k bits more of a number.
pub number_of-take_more : (bits : List ℕ) (a k : ℕ) → a + k ≤ length bits → number_of (take (a + k) bits) ≡ number_of (take a bits) * 2 ^ k + number_of (take k (drop a bits))
number_of-take_more bits a k inside =
    let long : length (take k (drop a bits)) ≡ k = rw (length-take, length-drop) (omega arith) in
    rw (take-add, number_of-append, long)

-- The bits of a number: those of what stands above its n lowest bits, then these.
pub bits_of-append : (m n v : ℕ) → bits_of (m + n) v ≡ bits_of m (v / 2 ^ n) ++ bits_of n v
unfolding bits_of
bits_of-append zero n v = rw zero-add
bits_of-append (suc m) n v = rw (suc-add, shr-shr v n m, add_comm n m, bits_of-append m n v)

-- What stands above the n lowest bits does not touch them.
pub bits_of_above : (n t v : ℕ) → bits_of n (t * 2 ^ n + v) ≡ bits_of n v
unfolding bits_of
bits_of_above zero t v = refl
bits_of_above (suc n) t v =
    rw (pow-succ' 2 n, ← (mul_assoc t 2 (2 ^ n)), mul-add-div_right (pow_pos n) (t * 2) v, mul-add-mod_self_right t 2 (v / 2 ^ n), bits_of_above n (t * 2) v)

-- So they are those of the number below 2 ^ n that it leaves.
pub bits_of_below : (n v : ℕ) → bits_of n (v % 2 ^ n) ≡ bits_of n v
bits_of_below n v = rw (bits_of_above n (v / 2 ^ n) (v % 2 ^ n)) at (ap (bits_of n) (div-add-mod' v (2 ^ n)))

-- Bits are read off the number that they stand for.
pub bits_of_number_of : (bits : List ℕ) → AllBits bits → bits_of (length bits) (number_of bits) ≡ bits
unfolding number_of bits_of
bits_of_number_of [] all = refl
bits_of_number_of (b ∷ bits) all =
    rw (
      digits_div b (number_of_below bits (λ i. all (suc i))),
      mod-eq_of_lt (all 0),
      bits_of_above (length bits) b (number_of bits),
      bits_of_number_of bits (λ i. all (suc i)),
    )

-- The bits of bytes are eight for each.
pub length-bits_of_bytes : (bytes : List ℕ) → length (bits_of_bytes bytes) ≡ 8 * length bytes
unfolding bits_of_bytes
length-bits_of_bytes [] = refl
length-bits_of_bytes (byte ∷ bytes) = rw (length-append, length_bits_of, length-bits_of_bytes bytes, mul-suc) (add_comm _ _)

-- And each is 0 or 1.
pub bits_of_bytes_bits : (bytes : List ℕ) → AllBits (bits_of_bytes bytes)
unfolding bits_of_bytes
bits_of_bytes_bits [] i = lit< tt
bits_of_bytes_bits (byte ∷ bytes) i = append_bits (bits_of 8 byte) (bits_of_bytes bytes) (bits_of_bits 8 byte) (bits_of_bytes_bits bytes) i

-- The bits of bytes in a row.
pub bits_of_bytes-append : (a b : List ℕ) → bits_of_bytes (a ++ b) ≡ bits_of_bytes a ++ bits_of_bytes b
unfolding bits_of_bytes
bits_of_bytes-append [] b = refl
bits_of_bytes-append (x ∷ a) b = rw (bits_of_bytes-append a b) (sym (append_assoc (bits_of 8 x) (bits_of_bytes a) (bits_of_bytes b)))
