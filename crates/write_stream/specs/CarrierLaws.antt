-- Laws of the messages in bits, of the words that carry them, and of the length of their stream.
use Rattle.std.specs.Prelude.{◌≡◌, refl, true, List, [], ◌∷◌, ◌++◌, map, ℕ, zero, suc, ◌+◌, ◌-◌, ◌*◌, ◌^◌, ◌<◌, length, take, drop}
use Rattle.std.proofs.Common.{ap, ◌∙◌, zero-add, zero-mul, suc-add, suc-mul, pos_of_ne-zero, arith, take-take, drop-drop, eqb-true, eq-eqb}
use Rattle.std.proofs.lemmas.List.{length-map}
use Rattle.std.proofs.Math.Seq.{take-nil}
use Rattle.limbs.specs.Limbs.{base}
use Rattle.messages.specs.Carrying.{message_refusal}
use Rattle.messages.specs.LengthLaws.{words_fit, length_below}
use Rattle.numbers.specs.Step.{index_of}
use Rattle.replies.specs.declared.Profile.{Profile}
use Rattle.patterns.specs.Stream.{filled, has_length, stream_of}
use Rattle.patterns.proofs.StreamLaws.{stream-length}
use Rattle.listing.specs.Every.{every}
use Rattle.listing.specs.EveryLaws.{every_implies}
use Rattle.code.proofs.Laws.{one_word_of_index}
use Rattle.code.proofs.MessageLaws.{length_positive, carrying_before_tops}
use Rattle.profiles.specs.Profiles.{patterns_of, word_count, length_of, stream_length}
use Rattle.bits.specs.Bits.{number_of, bits_of_bytes, messages_in}
use Rattle.bits.specs.BitLaws.{drop_bits, number_of-take_below, bits_of_bytes_bits}
use Rattle.bits.specs.RoundTrip.{length-messages_in}
use Rattle.streams.specs.JoinedLaws.{filled_by-length}
use Rattle.write_stream.specs.Writing.{carrier}
use Rattle.write_stream.specs.Steps.{carriers, Ready}

-- One message more.
pub messages_more : (s k : ℕ) (bits : List ℕ) → messages_in s (suc k) bits ≡ messages_in s k bits ++ (number_of (take s (drop (k * s) bits)) ∷ [])
unfolding messages_in
messages_more s zero bits = rw zero-mul
messages_more s (suc k) bits =
    let place : s + k * s ≡ suc k * s = rw suc-mul (omega arith) in
    ap (λ (l : List ℕ). number_of (take s bits) ∷ l) (rw (drop-drop (k * s) s bits, place) at (messages_more s k (drop s bits)))

drop-take : (n m : ℕ) (l : List ℕ) → drop n (take (n + m) l) ≡ take m (drop n l)
drop-take zero m l = rw zero-add
drop-take (suc n) m [] = rw (take-nil (suc n + m), take-nil m)
drop-take (suc n) m (a ∷ l) = rw suc-add (drop-take n m l)

-- What stands behind the bits of n messages does not matter.
pub messages_within : (s n : ℕ) (bits : List ℕ) → messages_in s n (take (n * s) bits) ≡ messages_in s n bits
unfolding messages_in
messages_within s zero bits = refl
messages_within s (suc n) bits =
    let place : suc n * s ≡ s + n * s = rw suc-mul (omega arith) in
    rw (place, take-take s (s + n * s) bits (omega arith), drop-take s (n * s) bits, messages_within s n (drop s bits))

-- A message of s bits is below 2^s.
pub number_below : (s at : ℕ) (bytes : List ℕ) → number_of (take s (drop at (bits_of_bytes bytes))) < 2 ^ s
number_below s at bytes = number_of-take_below s _ (drop_bits at _ (bits_of_bytes_bits bytes))

-- Messages of s bits are carried: s is from 1 to 639, the indices 1 to 2^s are those of words before that of all top, and N(m) fits ten limbs.
pub record Carries (p : Profile) (s : ℕ) : Type 0 where
  pub some : 0 < s
  pub most : s < 640
  pub within : 2 ^ s < word_count p - 1
  pub fits : word_count p < base ^ 10

some-length : (p : Profile) → (message_refusal p).number ≡ 0 → 0 < length_of p
unfolding message_refusal
some-length p carries = pos_of_ne-zero (λ none. let four = rw (eq-eqb (length_of p) 0 none) at carries in omega arith)

-- They are where numbers 1 to 6 do not apply.
pub carries : {p : Profile} {table : List ℕ} {s : ℕ} → Ready p table s → Carries p s
carries {p} ready =
    let range = ready.carrying.in_range in
    let some = some-length p ready.carrying.carries in
    let four = (length_positive _ _ _).0 some in
    rw ready.length (record {
      some = some;
      most = length_below range ready.carrying.carries;
      within = carrying_before_tops _ _ _ (omega arith);
      fits = words_fit range;
    })

-- The index of a message of s bits is that of a word.
pub index_below : {p : Profile} {s v : ℕ} → Carries p s → v < 2 ^ s → index_of v < word_count p
index_below c l = omega (arith, c.within)

-- So the word that carries it has m cells.
pub length_carrier : {p : Profile} {s v : ℕ} → Carries p s → v < 2 ^ s → length (carrier p v) ≡ p.m
length_carrier {p} c l = (one_word_of_index _ _ _ _ (index_below c l)).found.cells

carriers_long : {p : Profile} {s : ℕ} (n at : ℕ) (bytes : List ℕ) → Carries p s
    → every (has_length p.m) (map (carrier p) (messages_in s n (drop at (bits_of_bytes bytes)))) ≡ true
unfolding messages_in
carriers_long zero at bytes c = refl
carriers_long {p} {s} (suc n) at bytes c =
    let first = length_carrier c (number_below s at bytes) in
    let others = rw (← (drop-drop s at (bits_of_bytes bytes))) at (carriers_long n (at + s) bytes c) in
    rw (eq-eqb _ _ first, others)

-- The words that carry the first n messages have cells, ..
pub carriers_filled : {p : Profile} {s : ℕ} (n : ℕ) (bytes : List ℕ) → Carries p s → 0 < p.m → every filled (carriers p s bytes n) ≡ true
carriers_filled {p} {s} n bytes c some =
    every_implies (has_length p.m) filled (λ w h. filled_by-length w (omega (arith, eqb-true (length w) p.m h))) (carriers p s bytes n)
    (carriers_long n 0 bytes c)

-- .. and their stream is as long as that of n words.
pub length_written : {p : Profile} {s : ℕ} (n : ℕ) (bytes : List ℕ) → Carries p s → length (stream_of (patterns_of p) (carriers p s bytes n)) ≡ stream_length p n
length_written {p} {s} n bytes c =
    let words : length (carriers p s bytes n) ≡ n = length-map (messages_in s n (bits_of_bytes bytes)) (carrier p) ∙ length-messages_in s n (bits_of_bytes bytes) in
    rw words at (stream-length (patterns_of p) p.m (carriers p s bytes n) (carriers_long n 0 bytes c))
