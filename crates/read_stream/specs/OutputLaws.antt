-- Laws of the bits that are written: those of one word's message, and behind them those of the words behind it.
use Rattle.std.specs.Prelude.{◌≡◌, List, [], ◌++◌, ℕ, zero, suc, ◌+◌, ◌-◌, ◌*◌, ◌^◌, ◌≤◌, ◌<◌, length, take, drop}
use Rattle.std.proofs.Common.{◌∙◌, append-nil, lt_trans, lt_of_le_of_lt, le_of_lt, le_of_eq, sub-le, suc-mul, arith, length-drop, take_all}
use Rattle.limbs.specs.Limbs.{base, value, limbs_of, number_at, AllLimbs}
use Rattle.limbs.specs.ValueLaws.{length-limbs_of, value-limbs_of_below}
use Rattle.limbs.specs.HoldingLaws.{number_at_all}
use Rattle.messages.specs.Carrying.{CarriesMessages}
use Rattle.messages.specs.LengthLaws.{words_fit, length_below}
use Rattle.replies.specs.declared.Profile.{Profile}
use Rattle.replies.specs.Ranges.{InRange}
use Rattle.numbers.specs.Step.{message_of}
use Rattle.code.proofs.Laws.{index_below-N}
use Rattle.profiles.specs.Profiles.{length_of, stride, stream_length, index_for}
use Rattle.index_of_word.specs.Answers.{no_limbs, NotRefused, limbs_in_use, indexable, index_whole}
use Rattle.index_of_word.specs.Whole.{Indexable, with_index}
use Rattle.bits.specs.Bits.{bits_of, bits_of_messages, with_bits}
use Rattle.bits.specs.BitLaws.{length_bits_of, bits_of_bits}
use Rattle.bits.specs.WithLaws.{with_bits_more}
use Rattle.streams.specs.Streams.{words_in, first_words}
use Rattle.streams.specs.FitLaws.{no_word, last_word, rest_of}
use Rattle.read_stream.specs.Reading.{bits_in, bits_read}
use Rattle.read_stream.specs.WordLaws.{EachWord}
use Rattle.read_stream.specs.CarrierLaws.{Carrier}

-- What is found once for all words: the table belongs to the profile, the limbs in use of its row m, the message length.
pub record Found (p : Profile) (table : List ℕ) (used s : ℕ) : Type 0 where
  pub ready : CarriesMessages p table
  pub limbs : used ≡ limbs_in_use p.m table
  pub bits : s ≡ length_of p

-- There is room for so many bits from a bit place on.
pub record Room (bits at : ℕ) (out : List ℕ) : Type 0 where
  pub inside : at + bits ≤ 8 * length out
  pub small : at + bits < 2 ^ 32

ten_hold : {v : ℕ} → v < base ^ 10 → number_at 10 (limbs_of 10 v) 0 ≡ v
ten_hold {v} l = number_at_all 10 (limbs_of 10 v) (le_of_eq (length-limbs_of 10 v)) ∙ value-limbs_of_below 10 l

module _ {p : Profile} {table : List ℕ} {used s : ℕ} (found : Found p table used s) where
  -- A message has at most 640 bits.
  pub few_bits : s ≤ 640
  few_bits = rw found.bits (le_of_lt (length_below found.ready.in_range found.ready.carries))

  module _ (all : AllLimbs table) {word : List ℕ} (carrier : Carrier p word) where
    not_refused : NotRefused p table word
    not_refused = record { range = found.ready.in_range; belongs = found.ready.belongs; word = carrier.word }

    -- The index of a word that carries a message may be written over 0, and the limbs then hold it.
    pub word_indexable : Indexable p used table word no_limbs
    word_indexable = rw found.limbs (indexable p table word all not_refused)

    index_small : index_for p word < base ^ 10
    index_small = lt_trans (index_below-N _ _ _ word carrier.word) (words_fit found.ready.in_range)

    pub index_held : {sum : List ℕ} → sum ≡ with_index p used word no_limbs → value sum ≡ index_for p word
    index_held e = rw (e, found.limbs, index_whole p table word all not_refused) (value-limbs_of_below 10 index_small)

    -- The limbs of the message hold the message.
    pub message_held : {sum limbs : List ℕ} → sum ≡ with_index p used word no_limbs → limbs ≡ limbs_of 10 (message_of (value sum))
        → number_at 10 limbs 0 ≡ message_of (index_for p word)
    message_held e f =
        rw (f, index_held e) (ten_hold (lt_of_le_of_lt (sub-le (index_for p word) 1) index_small))

-- So its bits are those that are written.
pub message_put : {number message : ℕ} (s at : ℕ) (before : List ℕ) {after : List ℕ} → number ≡ message
    → after ≡ with_bits at (bits_of s number) before → after ≡ with_bits at (bits_of s message) before
message_put s at before e a = rw (← e) a

-- The bits of a part's words: none, those of the last word, or of a word and of the part behind it.
abbrev bits_of_word : Profile → List ℕ → List ℕ
bits_of_word p part = bits_of (length_of p) (message_of (index_for p (take p.m part)))

bits_none : (p : Profile) (part : List ℕ) → words_in p (length part) ≡ 0 → bits_read p part ≡ []
unfolding bits_read first_words bits_of_messages
bits_none p part e = rw e

bits_last : (p : Profile) (part : List ℕ) → words_in p (length part) ≡ 1 → bits_read p part ≡ bits_of_word p part
unfolding bits_read first_words bits_of_messages
bits_last p part e = rw e (append-nil _)

bits_more : (p : Profile) (part : List ℕ) → words_in p (length part) ≡ suc (words_in p (length part - stride p))
    → bits_read p part ≡ bits_of_word p part ++ bits_read p (drop (stride p) part)
unfolding bits_read first_words bits_of_messages
bits_more p part e = rw (e, length-drop)

-- A part whose words carry messages, and the place of its first bit.
module _ {p : Profile} {table : List ℕ} {used s : ℕ} (found : Found p table used s) (part : List ℕ) (r : EachWord p (Carrier p) part) (at : ℕ) (out : List ℕ) where
  range : InRange p
  range = found.ready.in_range

  -- Where there is room for the bits of the part, there is for those of its first word, ..
  pub room_first : 0 < length part → Room (bits_in p (length part)) at out → Room s at out
  room_first some room = go (words_in p (length part)) r.exact room.inside room.small
    where
      go : (n : ℕ) → length part ≡ stream_length p n → at + n * length_of p ≤ 8 * length out → at + n * length_of p < 2 ^ 32 → Room s at out
      go zero e inside small = absurd (omega arith)
      go (suc n) e inside small =
          let more = suc-mul n (length_of p) in
          rw found.bits (record { inside = omega arith; small = omega arith })

  -- .. and behind them for those of the part behind the word.
  pub room_rest : {first : List ℕ} → p.m < length part → length first ≡ length out → Room (bits_in p (length part)) at out
      → Room (bits_in p (length (drop (stride p) part))) (at + s) first
  room_rest more long room =
      let words = (rest_of p (length part) range r.exact more).words in
      let same = suc-mul (words_in p (length part - stride p)) (length_of p) in
      let inside = rw words at room.inside in
      let small = rw words at room.small in
      rw (length-drop, found.bits) (record { inside = omega arith; small = omega arith })

  -- What is written: nothing, ..
  pub put_none : length part ≡ 0 → out ≡ with_bits at (bits_read p part) out
  unfolding with_bits
  put_none none = rw (bits_none p part (rw none (no_word p range)))

  -- .. the bits of the last word, ..
  pub put_last : {after : List ℕ} → 0 < length part → length part ≤ p.m
      → after ≡ with_bits at (bits_of s (message_of (index_for p part))) out → after ≡ with_bits at (bits_read p part) out
  put_last some last e =
      rw (bits_last p part (last_word p (length part) range r.exact some last).0, take_all p.m part last, ← found.bits) e

  -- .. or those of a word and of the part behind it.
  pub put_more : {first after : List ℕ} → p.m < length part → Room (bits_in p (length part)) at out
      → first ≡ with_bits at (bits_of s (message_of (index_for p (take p.m part)))) out
      → after ≡ with_bits (at + s) (bits_read p (drop (stride p) part)) first → after ≡ with_bits at (bits_read p part) out
  put_more {first} more room e f =
      let v = message_of (index_for p (take p.m part)) in
      let inside = room.inside in
      let joined = with_bits_more at (bits_of s v) (bits_read p (drop (stride p) part)) out (omega arith) (bits_of_bits s v) in
      rw (bits_more p part (rest_of p (length part) range r.exact more).words, ← found.bits, ← joined, length_bits_of) (rw e at f)
