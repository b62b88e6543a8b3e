-- Words that carry messages: the word that carries a message gives it back, and a legal word that is refused none of 14, 15, 16 carries one.
use Rattle.std.specs.Prelude.{◌≡◌, refl, Bool, false, List, [], ◌∷◌, map, ℕ, zero, suc, ◌-◌, ◌^◌, ◌≤◌, ◌<◌, length, replicate}
use Rattle.std.proofs.Common.{sym, ap, ◌∙◌, pow_pos}
use Rattle.std.proofs.Math.Bool.{true, and-eq-true_iff, true≢false}
use Rattle.std.proofs.Math.Nat.{pos_of_ne-zero}
use native.Mathlib.Omega.{arith}
use Rattle.std.proofs.Math.Dec.{eqb}
use borrow.Author.Tests.{ltb-false, le-ltb, eqb-true, eq-eqb}
use Rattle.messages.specs.Carrying.{carrying_refusal}
use Rattle.messages.specs.CarryingLaws.{carries_messages}
use Rattle.replies.specs.declared.Profile.{Profile}
use Rattle.replies.specs.Replies.{or_else}
use Rattle.replies.specs.ReplyLaws.{both_done, test_failed}
use Rattle.replies.specs.Ranges.{InRange}
use Rattle.numbers.specs.Step.{index_of}
use Rattle.numbers.specs.StepLaws.{message_of_index}
use Rattle.listing.specs.Every.{every}
use Rattle.listing.specs.EveryLaws.{every-replicate, every_equal}
use Rattle.code.specs.Code.{index}
use Rattle.code.proofs.Laws.{one_word_of_index, word_of_index_of_word, zeros_index, zeros_only, tops_index}
use Rattle.profiles.specs.Profiles.{is_word, length_of, LegalFor, index_for}
use Rattle.streams.specs.AcceptedLaws.{word_legal}
use Rattle.streams.specs.JoinedLaws.{legal_word}
use Rattle.write_stream.specs.Writing.{carrier}
use Rattle.write_stream.specs.CarrierLaws.{Carries, carries, index_below}
use Rattle.read_stream.specs.Reading.{silent_refusal}
use Rattle.bits.specs.RoundTrip.{AllMessages}
use Rattle.demands.specs.Outcomes.{carries_message, message_carried}

-- A word carries a message of s bits: it is legal, and its index is the message's.
pub record Carrier (p : Profile) (w : List ℕ) (message : ℕ) : Type 0 where
  pub legal : LegalFor p w
  pub its_index : index_for p w ≡ index_of message
  pub below : message < 2 ^ length_of p

-- A word whose index is not that of the word of one level only is not that word.
not_one_level : (q x m level : ℕ) (w : List ℕ) → length w ≡ m → (index q x w ≡ index q x (replicate m level) → ⊥) → every (λ c. eqb c level) w ≡ false
not_one_level q x m level w long other = go (every (λ c. eqb c level) w) refl
  where
    go : (b : Bool) → every (λ c. eqb c level) w ≡ b → b ≡ false
    go false e = refl
    go true e = absurd (other (ap (index q x) (rw long at (every_equal level w e))))

module _ (p : Profile) (table : List ℕ) (ready : (carrying_refusal p table).number ≡ 0) where
  -- The profile is in range, and words carry messages of s bits.
  pub in_range_lem : InRange p
  in_range_lem = (carries_messages p table refl ready).in_range

  pub carrying : Carries p (length_of p)
  carrying = carries (record { carrying = carries_messages p table refl ready; length = refl })

  -- The word of a message's index carries the message.
  pub carrier_carries : (message : ℕ) → message < 2 ^ length_of p → Carrier p (carrier p message) message
  carrier_carries message below =
      let one = one_word_of_index _ _ _ (index_of message) (index_below carrying below) in
      record { legal = one.found; its_index = one.its_index; below = below }

  -- 14, 15 and 16 refuse no word that carries a message, ..
  pub carrier_not_silent : {w : List ℕ} {message : ℕ} → Carrier p w message → (silent_refusal p w).number ≡ 0
  unfolding silent_refusal or_else
  carrier_not_silent {w} c =
      let at = c.its_index in
      let low = c.below in
      let top = tops_index p.q p.x p.m (omega (arith, in_range_lem.levels.least)) in
      let bottom = zeros_index p.q p.x p.m in
      rw (
        not_one_level p.q p.x p.m 0 w c.legal.cells (λ same. omega arith),
        le-ltb (2 ^ length_of p) (index_for p w) (omega arith),
        not_one_level p.q p.x p.m (p.q - 1) w c.legal.cells (λ same. omega (arith, carrying.within)),
      )

  -- .. and a legal word that they do not refuse carries its index less one.
  pub not_silent_carries : (w : List ℕ) → LegalFor p w → (silent_refusal p w).number ≡ 0 → Carrier p w (message_carried p w)
  unfolding silent_refusal
  not_silent_carries w legal e =
      let first = both_done _ _ e in
      let second = both_done _ _ first.second in
      let limit : index_for p w ≤ 2 ^ length_of p = ltb-false _ _ (test_failed _ 14 second.first) in
      let some : index_for p w ≡ 0 → ⊥ = λ none. true≢false (sym (all_0 none) ∙ test_failed _ 13 first.first) in
      let least = pos_of_ne-zero some in
      record { legal = legal; its_index = omega arith; below = omega arith }
    where
      all_0 : index_for p w ≡ 0 → every (λ c. eqb c 0) w ≡ true
      all_0 none = rw (zeros_only _ _ _ w in_range_lem.levels.least legal none) (every-replicate _ p.m 0 refl)

  -- The words that carry messages pass what each word that carries a message passes: ..
  carriers_pass : (test : List ℕ → Bool) → ((w : List ℕ) (message : ℕ) → Carrier p w message → test w ≡ true) → (messages : List ℕ)
      → AllMessages (length_of p) messages → every test (map (carrier p) messages) ≡ true
  carriers_pass test pass [] all = refl
  carriers_pass test pass (v ∷ messages) all = rw (pass (carrier p v) v (carrier_carries v (all 0))) (carriers_pass test pass messages (λ i. all (suc i)))

  -- .. they are words of the profile, ..
  pub carriers_words : (messages : List ℕ) → AllMessages (length_of p) messages → every (is_word p) (map (carrier p) messages) ≡ true
  carriers_words = carriers_pass (is_word p) (λ w v c. legal_word p w c.legal)

  -- .. carry messages, ..
  pub carriers_carry : (messages : List ℕ) → AllMessages (length_of p) messages → every (carries_message p) (map (carrier p) messages) ≡ true
  carriers_carry = carriers_pass (carries_message p) (λ w v c. eq-eqb _ 0 (carrier_not_silent c))

  -- .. and give them back.
  pub messages_back : (messages : List ℕ) → AllMessages (length_of p) messages → map (message_carried p) (map (carrier p) messages) ≡ messages
  messages_back [] all = refl
  messages_back (v ∷ messages) all =
      rw ((carrier_carries v (all 0)).its_index, message_of_index v, messages_back messages (λ i. all (suc i)))

  word_carries : (w : List ℕ) (words : List (List ℕ)) → every (is_word p) (w ∷ words) ≡ true → every (carries_message p) (w ∷ words) ≡ true
      → Carrier p w (message_carried p w) × (every (is_word p) words ≡ true) × (every (carries_message p) words ≡ true)
  word_carries w words h k =
      let first = (and-eq-true_iff (is_word p w) (every (is_word p) words)).0 h in
      let second = (and-eq-true_iff (carries_message p w) (every (carries_message p) words)).0 k in
      (not_silent_carries w (word_legal p w first.0) (eqb-true _ 0 second.0), first.1, second.1)

  -- Words that carry messages are the words of those messages, ..
  pub words_back : (words : List (List ℕ)) → every (is_word p) words ≡ true → every (carries_message p) words ≡ true
      → map (carrier p) (map (message_carried p) words) ≡ words
  words_back [] h k = refl
  words_back (w ∷ words) h k =
      let (c, hs, ks) = word_carries w words h k in
      rw (← c.its_index, word_of_index_of_word _ _ _ w c.legal, words_back words hs ks)

  -- .. which are of s bits.
  pub messages_carried : (words : List (List ℕ)) → every (is_word p) words ≡ true → every (carries_message p) words ≡ true
      → AllMessages (length_of p) (map (message_carried p) words)
  messages_carried [] h k i = pow_pos (length_of p)
  messages_carried (w ∷ words) h k zero = (word_carries w words h k).0.below
  messages_carried (w ∷ words) h k (suc i) = let both = word_carries w words h k in messages_carried words both.1 both.2 i
