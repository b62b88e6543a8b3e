-- Bits, the high bit first: those of a number, of bytes, of messages one behind the other without a gap; and bits packed into bytes.
use Rattle.std.specs.Prelude.{List, [], ◌∷◌, ◌++◌, ℕ, zero, suc, ◌+◌, ◌*◌, ◌/◌, ◌%◌, ◌^◌, ◌<◌, length, take, drop, replicate, get_or}

-- The n lowest bits of a number, the highest of them first.
unfoldable pub bits_of : ℕ → ℕ → List ℕ
bits_of zero v = []
bits_of (suc n) v = v / 2 ^ n % 2 ∷ bits_of n v

-- The number that bits stand for.
unfoldable pub number_of : List ℕ → ℕ
number_of [] = 0
number_of (b ∷ bits) = b * 2 ^ length bits + number_of bits

-- The bits of bytes.
unfoldable pub bits_of_bytes : List ℕ → List ℕ
bits_of_bytes [] = []
bits_of_bytes (byte ∷ bytes) = bits_of 8 byte ++ bits_of_bytes bytes

-- How many bytes n bits take.
abbrev pub bytes_for : ℕ → ℕ
bytes_for n = (n + 7) / 8

-- Bits packed into so many bytes, with zero bits to the end of the last.
unfoldable pub packed_into : ℕ → List ℕ → List ℕ
packed_into zero bits = []
packed_into (suc bytes) bits = number_of (take 8 (bits ++ replicate 8 0)) ∷ packed_into bytes (drop 8 bits)

-- Bits packed into the bytes that they take.
abbrev pub packed : List ℕ → List ℕ
packed bits = packed_into (bytes_for (length bits)) bits

-- Messages of s bits each as bits, and the messages that bits hold, as many as n.
unfoldable pub bits_of_messages : ℕ → List ℕ → List ℕ
bits_of_messages s [] = []
bits_of_messages s (v ∷ messages) = bits_of s v ++ bits_of_messages s messages

unfoldable pub messages_in : ℕ → ℕ → List ℕ → List ℕ
messages_in s zero bits = []
messages_in s (suc n) bits = number_of (take s bits) ∷ messages_in s n (drop s bits)

-- Lent bytes with bits written from a bit place on, and zero bits to the end of the last byte written to; as they were where there are none.
unfoldable pub with_bits : ℕ → List ℕ → List ℕ → List ℕ
with_bits at [] bytes = bytes
with_bits at (b ∷ bits) bytes = packed (take at (bits_of_bytes bytes) ++ (b ∷ bits)) ++ drop (bytes_for (at + length (b ∷ bits))) bytes

-- Each element of a list is a byte.
abbrev pub AllBytes : List ℕ → Type 0
AllBytes bytes = (i : ℕ) → get_or bytes i 0 < 256
