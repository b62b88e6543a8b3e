-- Laws of bits packed into bytes, and of bits written to lent bytes.
use Rattle.std.specs.Prelude.{◌≡◌, refl, Bool, true, false, List, [], ◌∷◌, ◌++◌, ℕ, zero, suc, ◌+◌, ◌-◌, ◌*◌, ◌≤◌, ◌<◌, ltb, length, get_or, take, drop, replicate}
use Rattle.std.proofs.Common.{sym, ap, ap₂, ◌∙◌, append_assoc, append-nil, add-zero, zero-add, ltb-true, ltb-false, arith, lit<, length-append, length-take, length-drop, ext_get_or, get_or-take, get_or-drop, get_or-append-add, drop-drop}
use Rattle.std.proofs.lemmas.List.{length-replicate, take-append-le}
use Rattle.std.proofs.Math.ListN.{get_or-append}
use Rattle.std.proofs.Math.Seq.{drop-append-add}
use Rattle.bits.specs.Bits.{bits_of, number_of, bits_of_bytes, bytes_for, packed_into, packed, with_bits}
use Rattle.bits.specs.BitLaws.{AllBits, append_bits, take_bits, drop_bits, bits_of_number_of, length-bits_of_bytes, bits_of_bytes_bits, bits_of_bytes-append}

-- Bits packed into k bytes are k bytes.
pub length-packed_into : (k : ℕ) (bits : List ℕ) → length (packed_into k bits) ≡ k
unfolding packed_into
length-packed_into zero bits = refl
length-packed_into (suc k) bits = ap suc (length-packed_into k (drop 8 bits))

-- Zeros are bits.
zeros_bits : (n : ℕ) → AllBits (replicate n 0)
zeros_bits zero i = lit< tt
zeros_bits (suc n) zero = lit< tt
zeros_bits (suc n) (suc i) = zeros_bits n i

-- Zeros behind bits are what stands there anyway.
pub get_or_zeros : (bits : List ℕ) (n i : ℕ) → get_or (bits ++ replicate n 0) i 0 ≡ get_or bits i 0
get_or_zeros [] zero i = refl
get_or_zeros [] (suc n) zero = refl
get_or_zeros [] (suc n) (suc i) = get_or_zeros [] n i
get_or_zeros (b ∷ bits) n zero = refl
get_or_zeros (b ∷ bits) n (suc i) = get_or_zeros bits n i

-- The bits of the first byte packed.
pub length_first : (bits : List ℕ) → length (take 8 (bits ++ replicate 8 0)) ≡ 8
length_first bits = simp (length-take, length-append, length-replicate) (omega arith)

bits_first : (bits : List ℕ) → AllBits bits → bits_of 8 (number_of (take 8 (bits ++ replicate 8 0))) ≡ take 8 (bits ++ replicate 8 0)
bits_first bits all =
    rw (length_first bits) at (bits_of_number_of (take 8 (bits ++ replicate 8 0)) (take_bits 8 (bits ++ replicate 8 0) (append_bits bits (replicate 8 0) all (zeros_bits 8))))

-- Two lists in a row read as one list where each of them reads as its part.
get_or_parts : (a b l : List ℕ) → ((j : ℕ) → j < length a → get_or a j 0 ≡ get_or l j 0) → ((j : ℕ) → get_or b j 0 ≡ get_or l (length a + j) 0)
    → (i : ℕ) → get_or (a ++ b) i 0 ≡ get_or l i 0
get_or_parts a b l front behind i = go (ltb i (length a)) refl
  where
    go : (t : Bool) → ltb i (length a) ≡ t → get_or (a ++ b) i 0 ≡ get_or l i 0
    go true e = let h = ltb-true i (length a) e in get_or-append a b 0 i h ∙ front i h
    go false e =
        let h = ltb-false i (length a) e in
        let whole : length a + (i - length a) ≡ i = omega arith in
        rw whole at (get_or-append-add a b (i - length a) 0 ∙ behind (i - length a))

-- Each bit of the bytes packed is the bit that was packed there, and 0 behind the last of them.
pub get_or-packed_into : (k : ℕ) (bits : List ℕ) → AllBits bits → length bits ≤ 8 * k → (i : ℕ) → get_or (bits_of_bytes (packed_into k bits)) i 0 ≡ get_or bits i 0
unfolding packed_into bits_of_bytes
get_or-packed_into zero [] all fits i = refl
get_or-packed_into zero (b ∷ bits) all fits i = absurd (omega arith)
get_or-packed_into (suc k) bits all fits i =
    rw (bits_first bits all)
    (get_or_parts (take 8 (bits ++ replicate 8 0)) (bits_of_bytes (packed_into k (drop 8 bits))) bits
    (λ j h. get_or-take 8 (bits ++ replicate 8 0) j 0 (rw (length_first bits) at h) ∙ get_or_zeros bits 8 j)
    (λ j. rw (length_first bits, ← (get_or-drop 8 bits j 0)) (get_or-packed_into k (drop 8 bits) (drop_bits 8 bits all) (rw length-drop (omega arith)) j))
    i)

-- So all bits are read back, whatever bytes follow.
pub take-packed_into : (k : ℕ) (bits rest : List ℕ) → AllBits bits → length bits ≤ 8 * k → take (length bits) (bits_of_bytes (packed_into k bits ++ rest)) ≡ bits
take-packed_into k bits rest all fits =
    let long : length (bits_of_bytes (packed_into k bits)) ≡ 8 * k = rw (length-bits_of_bytes, length-packed_into) in
    rw (bits_of_bytes-append, take-append-le (length bits) (bits_of_bytes (packed_into k bits)) (bits_of_bytes rest) (omega arith))
    (ext_get_or 0 (take (length bits) (bits_of_bytes (packed_into k bits))) bits (rw length-take (omega arith))
    (λ i h. get_or-take (length bits) (bits_of_bytes (packed_into k bits)) i 0 (omega (arith, length-take (length bits) (bits_of_bytes (packed_into k bits)))) ∙ get_or-packed_into k bits all fits i))

-- The length stays.
pub length_with_bits : (at : ℕ) (bits bytes : List ℕ) → at + length bits ≤ 8 * length bytes → length (with_bits at bits bytes) ≡ length bytes
unfolding with_bits
length_with_bits at [] bytes fits = refl
length_with_bits at (b ∷ bits) bytes fits =
    simp (length-append, length-packed_into, length-drop, length-take, length-bits_of_bytes) (omega arith)

-- All bits from the front: packed, and the rest as it was.
pub with_bits_front : (bits bytes : List ℕ) → with_bits 0 bits bytes ≡ packed bits ++ drop (bytes_for (length bits)) bytes
unfolding with_bits packed_into
with_bits_front [] bytes = refl
with_bits_front (b ∷ bits) bytes = rw zero-add

-- What stands behind the bytes written to is as it was.
drop_behind : (front bytes : List ℕ) (m : ℕ) → length front ≤ m → drop m (front ++ drop (length front) bytes) ≡ drop m bytes
drop_behind front bytes m behind =
    let whole : length front + (m - length front) ≡ m = omega arith in
    rw whole at (drop-append-add front (drop (length front) bytes) (m - length front) ∙ drop-drop (m - length front) (length front) bytes)

-- Bits packed behind bits that are packed already.
packed_behind : (n : ℕ) (front b bytes : List ℕ) → length front ≡ n → AllBits front
    → packed (take n (bits_of_bytes (packed front ++ drop (bytes_for n) bytes)) ++ b) ++ drop (bytes_for (n + length b)) (packed front ++ drop (bytes_for n) bytes)
    ≡ packed (front ++ b) ++ drop (bytes_for (n + length b)) bytes
packed_behind n front b bytes long all =
    let k = length-packed_into (bytes_for (length front)) front in
    rw (
      ← long,
      take-packed_into (bytes_for (length front)) front (drop (bytes_for (length front)) bytes) all (omega arith),
      rw k at (drop_behind (packed front) bytes (bytes_for (length front + length b)) (rw k (omega arith))),
    )

-- Bits written behind bits: the same as all of them written at once.
pub with_bits_more : (at : ℕ) (a b bytes : List ℕ) → at ≤ 8 * length bytes → AllBits a → with_bits (at + length a) b (with_bits at a bytes) ≡ with_bits at (a ++ b) bytes
unfolding with_bits
with_bits_more at [] b bytes inside all = rw add-zero
with_bits_more at (x ∷ a) [] bytes inside all = ap (λ (l : List ℕ). with_bits at l bytes) (sym (append-nil (x ∷ a)))
with_bits_more at (x ∷ a) (y ∷ b) bytes inside all =
    let front : List ℕ = take at (bits_of_bytes bytes) ++ (x ∷ a) in
    let long : length front ≡ at + length (x ∷ a) = simp (length-append, length-take, length-bits_of_bytes) (omega arith) in
    let more : at + length (x ∷ a) + length (y ∷ b) ≡ at + length ((x ∷ a) ++ (y ∷ b)) = rw length-append (omega arith) in
    packed_behind (at + length (x ∷ a)) front (y ∷ b) bytes long (append_bits (take at (bits_of_bytes bytes)) (x ∷ a) (take_bits at (bits_of_bytes bytes) (bits_of_bytes_bits bytes)) all)
    ∙ ap₂ (λ (l : List ℕ) (n : ℕ). packed l ++ drop (bytes_for n) bytes) (append_assoc (take at (bits_of_bytes bytes)) (x ∷ a) (y ∷ b)) more
