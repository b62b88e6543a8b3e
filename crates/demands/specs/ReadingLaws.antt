-- Reading is done exactly for a stream whose words carry messages, with room; and the bits that it reads as.
use Rattle.std.specs.Prelude.{◌≡◌, refl, true, List, [], ◌∷◌, ◌++◌, map, ℕ, ◌*◌, ◌≤◌, length}
use Rattle.std.proofs.Common.{ap, ◌∙◌, append_assoc, eqb-true, eq-eqb}
use Rattle.std.proofs.lemmas.List.{map-append, length-map}
use Rattle.messages.specs.Carrying.{carrying_refusal}
use Rattle.messages.specs.CarryingLaws.{carries_messages}
use Rattle.replies.specs.declared.Profile.{Profile}
use Rattle.replies.specs.Replies.{done, or_else}
use Rattle.replies.specs.ReplyLaws.{both_done, has_room, room_enough}
use Rattle.replies.specs.Ranges.{InRange, most_words}
use Rattle.listing.specs.Every.{every}
use Rattle.profiles.specs.Profiles.{length_of}
use Rattle.bits.specs.Bits.{bytes_for, packed, bits_of_messages}
use Rattle.bits.specs.RoundTrip.{length-bits_of_messages}
use Rattle.streams.specs.Streams.{Stream, words_in, words_of, stream_refusal}
use Rattle.streams.specs.FitLaws.{not_refused_fits, fits_not_refused}
use Rattle.streams.specs.EachLaws.{each_implies, each_word, every_word}
use Rattle.streams.proofs.EachLaws.{each_done, throughout_done}
use Rattle.streams.specs.AcceptedLaws.{stream_count, words_found}
use Rattle.streams.proofs.AcceptedLaws.{stream_accepted, accepted_stream}
use Rattle.streams.specs.JoinedLaws.{stream_fits}
use Rattle.read_stream.specs.Reading.{silent_first, silence_refusal, bits_in, read_refusal, bits_read, reading_stream}
use Rattle.demands.specs.Outcomes.{Done, done_with, carries_message, message_carried}
use Rattle.demands.specs.OutcomeLaws.{not_refused, four_tests_done}

messages-append : (s : ℕ) (a b : List ℕ) → bits_of_messages s (a ++ b) ≡ bits_of_messages s a ++ bits_of_messages s b
unfolding bits_of_messages
messages-append s [] b = refl
messages-append s (v ∷ a) b = rw (messages-append s a b, append_assoc)

module _ (p : Profile) (range : InRange p) where
  -- The bits of a stream are those of the messages that its words carry.
  pub words_read : {u : List (List ℕ)} {a : List ℕ} → Stream p u a
      → bits_read p a ≡ bits_of_messages (length_of p) (map (message_carried p) u)
  unfolding bits_read
  words_read {u} {a} s = rw (words_found p range u a s)

  -- The words of a stream read as s bits each, ..
  pub read_count : {u : List (List ℕ)} {a : List ℕ} → Stream p u a → length (bits_read p a) ≡ length u * length_of p
  read_count {u} s = rw (words_read s, length-bits_of_messages, length-map)

  -- .. and those of two streams as the bits of the first, then those of the second.
  pub read-append : {u v : List (List ℕ)} {a b both : List ℕ} → Stream p u a → Stream p v b → Stream p (u ++ v) both
      → bits_read p both ≡ bits_read p a ++ bits_read p b
  read-append {u} {v} s t r = rw (words_read s, words_read t, words_read r, map-append) (messages-append (length_of p) _ _)

-- A stream of at most 256 words that carry messages is read where there is room for its bits.
pub reading_done : (p : Profile) (table : List ℕ) → (carrying_refusal p table).number ≡ 0 → {u : List (List ℕ)} {a : List ℕ} → Stream p u a
    → every (carries_message p) u ≡ true → length u ≤ most_words → (lent : List ℕ) → bytes_for (length u * length_of p) ≤ length lent
    → reading_stream p table a lent ≡ done_with (length (bits_read p a)) (packed (bits_read p a)) lent
unfolding reading_stream read_refusal silence_refusal or_else
reading_done p table ready {u} {a} s carry few lent room =
    let range = (carries_messages p table refl ready).in_range in
    let count = stream_count p range u a s in
    let n = words_in p (length a) in
    let fit = fits_not_refused p (length a) (stream_fits p range s few) in
    let enough = room_enough (bytes_for (bits_in p (length a))) (length lent) (rw count room) in
    let words = each_word p (carries_message p) n a (rw (words_found p range u a s) carry) in
    let heard = throughout_done p (silent_first p) n 0 a (each_implies p (λ t. eqb-true _ 0) n a words) in
    let cells : or_else (stream_refusal p a) (silence_refusal p a) ≡ done = rw (stream_accepted p range u a s) heard in
    let counted : bits_in p (length a) ≡ length (bits_read p a) = rw (count, read_count p range s) in
    four_tests_done _ _ lent ready fit enough cells ∙ ap (λ (n : ℕ). done_with n (packed (bits_read p a)) lent) counted

-- What reading asks: words that carry messages and a table that belongs, a stream of at most 256 words that carry messages, and room for its bits.
pub record Readable (p : Profile) (table cells lent : List ℕ) : Type 0 where
  pub ready : (carrying_refusal p table).number ≡ 0
  pub stream : Stream p (words_of p cells) cells
  pub carry : every (carries_message p) (words_of p cells) ≡ true
  pub few : length (words_of p cells) ≤ most_words
  pub room : bytes_for (length (words_of p cells) * length_of p) ≤ length lent

-- Reading that is done has what it asks.
pub done_readable : {p : Profile} {table cells lent : List ℕ} → Done (reading_stream p table cells lent) → Readable p table cells lent
unfolding reading_stream read_refusal silence_refusal
done_readable {p} {table} {cells} e =
    let first = both_done _ _ (not_refused _ _ _ _ e) in
    let second = both_done _ _ first.second in
    let third = both_done _ _ second.second in
    let range = (carries_messages p table refl first.first).in_range in
    let n = words_in p (length cells) in
    let fits = not_refused_fits p (length cells) refl second.first in
    let fourth = both_done _ _ third.second in
    let stream = accepted_stream p range cells fits.exact fourth.first in
    let heard = each_done p (silent_first p) n 0 cells fourth.second in
    let count = stream_count p range _ cells stream in
    record {
      ready = first.first;
      stream = stream;
      carry = every_word p (carries_message p) n cells (each_implies p (λ t. eq-eqb _ 0) n cells heard);
      few = rw (← count) fits.few;
      room = rw (← count) (has_room _ _ third.first);
    }
