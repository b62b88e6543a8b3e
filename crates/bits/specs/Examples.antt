-- Worked examples of the definitions.
use Rattle.std.specs.Prelude.{◌≡◌, refl, [], ◌∷◌}
use Rattle.bits.specs.Bits.{bits_of, number_of, bits_of_bytes, packed_into, packed, bits_of_messages, messages_in, with_bits}

pub record Examples : Type 0 where
  pub bits_of_byte : bits_of 8 200 ≡ 1 ∷ 1 ∷ 0 ∷ 0 ∷ 1 ∷ 0 ∷ 0 ∷ 0 ∷ []
  pub lowest_bits : bits_of 3 13 ≡ 1 ∷ 0 ∷ 1 ∷ []
  pub number_of_bits : number_of (1 ∷ 1 ∷ 0 ∷ 1 ∷ []) ≡ 13
  pub bytes_in_a_row : bits_of_bytes (128 ∷ 1 ∷ []) ≡ 1 ∷ 0 ∷ 0 ∷ 0 ∷ 0 ∷ 0 ∷ 0 ∷ 0 ∷ 0 ∷ 0 ∷ 0 ∷ 0 ∷ 0 ∷ 0 ∷ 0 ∷ 1 ∷ []
  -- Eleven bits take two bytes, and the last five bits of the second are 0.
  pub packed_eleven : packed (1 ∷ 1 ∷ 1 ∷ 1 ∷ 0 ∷ 0 ∷ 0 ∷ 0 ∷ 1 ∷ 1 ∷ 1 ∷ []) ≡ 240 ∷ 224 ∷ []
  pub packed_none : packed [] ≡ []
  pub messages_as_bits : bits_of_messages 3 (5 ∷ 1 ∷ 7 ∷ []) ≡ 1 ∷ 0 ∷ 1 ∷ 0 ∷ 0 ∷ 1 ∷ 1 ∷ 1 ∷ 1 ∷ []
  pub messages_in_bits : messages_in 3 3 (1 ∷ 0 ∷ 1 ∷ 0 ∷ 0 ∷ 1 ∷ 1 ∷ 1 ∷ 1 ∷ []) ≡ 5 ∷ 1 ∷ 7 ∷ []
  -- From bit place 10 on: the first two bits of the second byte are kept, those behind the last bit written become 0, the other bytes stay.
  pub within_a_byte : with_bits 10 (0 ∷ 1 ∷ 1 ∷ []) (7 ∷ 255 ∷ 9 ∷ []) ≡ 7 ∷ 216 ∷ 9 ∷ []
  pub into_the_next_byte : with_bits 14 (1 ∷ 0 ∷ 1 ∷ []) (7 ∷ 0 ∷ 255 ∷ 9 ∷ []) ≡ 7 ∷ 2 ∷ 128 ∷ 9 ∷ []
  pub no_bits : with_bits 10 [] (7 ∷ 255 ∷ []) ≡ 7 ∷ 255 ∷ []

pub examples : Examples
unfolding bits_of number_of bits_of_bytes packed_into bits_of_messages messages_in with_bits
examples = record {
  bits_of_byte = refl;
  lowest_bits = refl;
  number_of_bits = refl;
  bytes_in_a_row = refl;
  packed_eleven = refl;
  packed_none = refl;
  messages_as_bits = refl;
  messages_in_bits = refl;
  within_a_byte = refl;
  into_the_next_byte = refl;
  no_bits = refl;
}
