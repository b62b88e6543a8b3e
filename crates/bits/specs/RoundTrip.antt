-- Round trips: a number and its bits, messages and their bits, bits and the bytes that they are packed into.
use Rattle.std.specs.Prelude.{◌≡◌, Bool, true, false, List, [], ◌∷◌, ◌++◌, ℕ, zero, suc, ◌+◌, ◌*◌, ◌^◌, ◌≤◌, ◌<◌, ltb, length, take, drop, get_or, replicate}
use Rattle.std.proofs.Math.Path.{refl}
use Rattle.std.proofs.Common.{sym, ap, ap₂, ◌∙◌, add_comm, suc-mul, zero-mul, mod-eq_of_lt, arith, lit<, pow_pos, length-append, length-take, length-drop, take-append-drop, take_at, drop_at, take_all, length-take-le, get_or-take, get_or-drop, ext_get_or, ltb-true, ltb-false}
use Rattle.std.proofs.Math.ListN.{get_or-append, get_or-eq_default}
use Rattle.bits.specs.Bits.{bits_of, number_of, bits_of_bytes, bytes_for, packed_into, packed, bits_of_messages, messages_in, AllBytes}
use Rattle.bits.specs.BitLaws.{AllBits, append_bits, take_bits, drop_bits, length_bits_of, bits_of_bits, number_of_bits_of, number_of-take_below, bits_of_number_of, length-bits_of_bytes, bits_of_bytes-append}
use Rattle.bits.specs.ByteLaws.{packed_whole}
use Rattle.bits.specs.WithLaws.{length-packed_into, get_or_zeros, length_first, get_or-packed_into, take-packed_into}

-- Each element of a list is a message of s bits.
abbrev pub AllMessages : ℕ → List ℕ → Type 0
AllMessages s messages = (i : ℕ) → get_or messages i 0 < 2 ^ s

-- A number that fits n bits is what its n lowest bits stand for.
pub number_of_its_bits : (n : ℕ) {v : ℕ} → v < 2 ^ n → number_of (bits_of n v) ≡ v
number_of_its_bits n {v} fits = number_of_bits_of n v ∙ mod-eq_of_lt fits

-- n bits are read off the number that they stand for.
pub bits_of_their_number : (n : ℕ) (bits : List ℕ) → AllBits bits → length bits ≡ n → bits_of n (number_of bits) ≡ bits
bits_of_their_number n bits all long = rw (← long) (bits_of_number_of bits all)

-- Messages of s bits take s bits each, each 0 or 1.
pub length-bits_of_messages : (s : ℕ) (messages : List ℕ) → length (bits_of_messages s messages) ≡ length messages * s
unfolding bits_of_messages
length-bits_of_messages s [] = sym (zero-mul s)
length-bits_of_messages s (v ∷ messages) = rw (length-append, length_bits_of s v, length-bits_of_messages s messages, suc-mul) (add_comm s _)

pub bits_of_messages_bits : (s : ℕ) (messages : List ℕ) → AllBits (bits_of_messages s messages)
unfolding bits_of_messages
bits_of_messages_bits s [] i = lit< tt
bits_of_messages_bits s (v ∷ messages) i = append_bits (bits_of s v) (bits_of_messages s messages) (bits_of_bits s v) (bits_of_messages_bits s messages) i

-- As many messages are held as asked for, each of s bits.
pub length-messages_in : (s n : ℕ) (bits : List ℕ) → length (messages_in s n bits) ≡ n
unfolding messages_in
length-messages_in s zero bits = refl
length-messages_in s (suc n) bits = ap suc (length-messages_in s n (drop s bits))

pub messages_in_messages : (s n : ℕ) (bits : List ℕ) → AllBits bits → AllMessages s (messages_in s n bits)
unfolding messages_in
messages_in_messages s zero bits all i = pow_pos s
messages_in_messages s (suc n) bits all zero = number_of-take_below s bits all
messages_in_messages s (suc n) bits all (suc i) = messages_in_messages s n (drop s bits) (drop_bits s bits all) i

-- Messages are read off their bits, ..
pub messages_of_their_bits : (s : ℕ) (messages : List ℕ) → AllMessages s messages → messages_in s (length messages) (bits_of_messages s messages) ≡ messages
unfolding messages_in bits_of_messages
messages_of_their_bits s [] all = refl
messages_of_their_bits s (v ∷ messages) all =
    let long = length_bits_of s v in
    rw (take_at (bits_of s v) _ s long, drop_at (bits_of s v) _ s long, number_of_its_bits s (all 0), messages_of_their_bits s messages (λ i. all (suc i)))

-- .. and bits off the messages that they hold.
pub bits_of_their_messages : (s n : ℕ) (bits : List ℕ) → AllBits bits → length bits ≡ n * s → bits_of_messages s (messages_in s n bits) ≡ bits
unfolding messages_in bits_of_messages
bits_of_their_messages s zero bits all long = take_all 0 bits (omega (arith, zero-mul s))
bits_of_their_messages s (suc n) bits all long =
    let more = suc-mul n s in
    let front = bits_of_their_number s (take s bits) (take_bits s bits all) (length-take-le s bits (omega arith)) in
    let rest = bits_of_their_messages s n (drop s bits) (drop_bits s bits all) (rw length-drop (omega arith)) in
    rw (front, rest) (take-append-drop s bits)

-- The bytes that n bits take have room for them.
pub bytes_enough : (n : ℕ) → n ≤ 8 * bytes_for n
bytes_enough n = omega arith

-- Packed bits, whatever bytes follow: each bit stands at its place, ..
packed_at : (bits rest : List ℕ) → AllBits bits → (i : ℕ) → i < 8 * bytes_for (length bits) → get_or (bits_of_bytes (packed bits ++ rest)) i 0 ≡ get_or bits i 0
packed_at bits rest all i l =
    let inside = rw length-packed_into at (length-bits_of_bytes (packed bits)) in
    rw (bits_of_bytes-append (packed bits) rest)
    (get_or-append (bits_of_bytes (packed bits)) (bits_of_bytes rest) 0 i (rw inside l) ∙ get_or-packed_into _ bits all (bytes_enough (length bits)) i)

-- .. so they come back, ..
pub bits_of_packed : (bits rest : List ℕ) → AllBits bits → take (length bits) (bits_of_bytes (packed bits ++ rest)) ≡ bits
bits_of_packed bits rest all = take-packed_into _ bits rest all (bytes_enough (length bits))

-- .. and the bits behind them in the last byte are 0.
pub behind_packed : (bits rest : List ℕ) → AllBits bits → (i : ℕ) → length bits ≤ i → i < 8 * bytes_for (length bits)
    → get_or (bits_of_bytes (packed bits ++ rest)) i 0 ≡ 0
behind_packed bits rest all i l h = packed_at bits rest all i h ∙ get_or-eq_default bits 0 l

-- Packing sees only what fits, and 0 where there is nothing.
padded_same : (a b : List ℕ) → ((i : ℕ) → i < 8 → get_or a i 0 ≡ get_or b i 0) → take 8 (a ++ replicate 8 0) ≡ take 8 (b ++ replicate 8 0)
padded_same a b same =
    let long = length_first a in
    ext_get_or 0 _ _ (long ∙ sym (length_first b)) (λ i l. let inside = rw long at l in at a i inside ∙ same i inside ∙ sym (at b i inside))
  where
    at : (l : List ℕ) (i : ℕ) → i < 8 → get_or (take 8 (l ++ replicate 8 0)) i 0 ≡ get_or l i 0
    at l i inside = get_or-take 8 (l ++ replicate 8 0) i 0 inside ∙ get_or_zeros l 8 i

packed_same : (k : ℕ) (a b : List ℕ) → ((i : ℕ) → i < 8 * k → get_or a i 0 ≡ get_or b i 0) → packed_into k a ≡ packed_into k b
unfolding packed_into
packed_same zero a b same = refl
packed_same (suc k) a b same =
    let rest = packed_same k (drop 8 a) (drop 8 b) (λ i l. rw (get_or-drop 8 a, get_or-drop 8 b) (same (8 + i) (omega arith))) in
    ap₂ {C = List ℕ} (λ (f : List ℕ) (r : List ℕ). number_of f ∷ r) (padded_same a b (λ i l. same i (omega arith))) rest

-- Bytes are packed from their bits.
packed_bits_of_bytes : (k : ℕ) (bytes : List ℕ) → AllBytes bytes → k ≤ length bytes → packed_into k (bits_of_bytes bytes) ≡ take k bytes
unfolding bits_of_bytes
packed_bits_of_bytes zero bytes all l = unfold packed_into in refl
packed_bits_of_bytes (suc k) [] all l = absurd (omega arith)
packed_bits_of_bytes (suc k) (byte ∷ bytes) all l =
    rw (packed_whole byte k (bits_of_bytes bytes) (all 0), packed_bits_of_bytes k bytes (λ i. all (suc i)) (omega arith))

-- The first n bits of bytes, with only zero bits behind them in the last byte that they take, are packed into those bytes.
pub packed_from_bytes : (n : ℕ) (bytes : List ℕ) → AllBytes bytes → bytes_for n ≤ length bytes
    → ((i : ℕ) → n ≤ i → i < 8 * bytes_for n → get_or (bits_of_bytes bytes) i 0 ≡ 0) → packed (take n (bits_of_bytes bytes)) ≡ take (bytes_for n) bytes
packed_from_bytes n bytes all l behind =
    let long = length-take-le n (bits_of_bytes bytes) (omega (arith, bytes_enough n, length-bits_of_bytes bytes)) in
    rw long (packed_same (bytes_for n) _ (bits_of_bytes bytes) same ∙ packed_bits_of_bytes (bytes_for n) bytes all l)
  where
    same : (i : ℕ) → i < 8 * bytes_for n → get_or (take n (bits_of_bytes bytes)) i 0 ≡ get_or (bits_of_bytes bytes) i 0
    same i h = go (ltb i n) refl
      where
        go : (b : Bool) → ltb i n ≡ b → get_or (take n (bits_of_bytes bytes)) i 0 ≡ get_or (bits_of_bytes bytes) i 0
        go true e = get_or-take n (bits_of_bytes bytes) i 0 (ltb-true i n e)
        go false e =
            let past = ltb-false i n e in
            let none = get_or-eq_default (take n (bits_of_bytes bytes)) 0 {n = i} (rw length-take (omega arith)) in
            none ∙ sym (behind i past h)
