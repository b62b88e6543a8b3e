-- Streams of a profile: they have no pattern throughout, they join, they turn, and they fit.
use Rattle.std.specs.Prelude.{◌≡◌, refl, true, List, [], ◌∷◌, ◌++◌, map, reverse, ℕ, ◌+◌, ◌≤◌, ◌<◌, length}
use Rattle.std.proofs.Math.Bool.{and-eq-true_iff}
use Rattle.std.proofs.lemmas.List.{map-append, reverse-append, length-map, length-reverse}
use Rattle.std.proofs.Common.{arith, eq-eqb}
use Rattle.replies.specs.declared.Profile.{Profile}
use Rattle.replies.specs.Ranges.{InRange}
use Rattle.listing.specs.Every.{every}
use Rattle.listing.specs.EveryLaws.{every_append, every-reverse, every_implies}
use Rattle.patterns.specs.Stream.{filled, joined, turned}
use Rattle.patterns.proofs.StreamLaws.{stream_joined, stream_turned}
use Rattle.code.proofs.Laws.{turned_legal, stream_legal}
use Rattle.profiles.specs.Profiles.{patterns_of, is_word, is_legal, LegalFor}
use Rattle.streams.specs.Streams.{Stream, turned_words}
use Rattle.streams.specs.FitLaws.{Fits, BothFit, length_fits}
use Rattle.streams.specs.AcceptedLaws.{word_legal, stream_exact, stream_count}

-- Turned words are as many, and those of two lists stand in the other order.
pub length_turned_words : (words : List (List ℕ)) → length (turned_words words) ≡ length words
length_turned_words words = rw (length-reverse (map reverse words), length-map words reverse)

pub turned_words-append : (u v : List (List ℕ)) → turned_words (u ++ v) ≡ turned_words v ++ turned_words u
turned_words-append u v = rw (map-append reverse u v) (reverse-append (map reverse u) (map reverse v))

-- A word of some cells has a first one.
pub filled_by-length : (w : List ℕ) → 0 < length w → filled w ≡ true
filled_by-length [] some = absurd (omega arith)
filled_by-length (c ∷ w) some = refl

-- A legal word is a word of the profile.
pub legal_word : (p : Profile) (w : List ℕ) → LegalFor p w → is_word p w ≡ true
legal_word p w r = rw (eq-eqb _ _ r.cells, r.levelled, r.passes)

every_turned : (p : Profile) (words : List (List ℕ)) → every (is_word p) words ≡ true → every (is_word p) (map reverse words) ≡ true
every_turned p [] h = refl
every_turned p (w ∷ words) h =
    let both = (and-eq-true_iff (is_word p w) (every (is_word p) words)).0 h in
    rw (legal_word p (reverse w) (turned_legal _ _ _ w (word_legal p w both.0))) (every_turned p words both.1)

module _ (p : Profile) (range : InRange p) where
  words_filled : (words : List (List ℕ)) → every (is_word p) words ≡ true → every filled words ≡ true
  words_filled =
      every_implies (is_word p) filled (λ w h. filled_by-length w (omega (arith, (word_legal p w h).cells, range.length.least)))

  -- A stream has no pattern throughout.
  pub stream_free : {words : List (List ℕ)} {cells : List ℕ} → Stream p words cells → is_legal p cells ≡ true
  stream_free {words} s =
      let passes = every_implies (is_word p) (is_legal p) (λ w h. (word_legal p w h).passes) words s.legal in
      rw (← s.bridged) (stream_legal _ _ words range.levels.least (words_filled words s.legal) passes)

  -- Two streams joined are the stream of the words of the first, then those of the second.
  pub joined_stream : {u v : List (List ℕ)} {a b : List ℕ} → Stream p u a → Stream p v b → Stream p (u ++ v) (joined (patterns_of p) a b)
  joined_stream {u} {v} s t =
      let both = stream_joined (patterns_of p) u v (words_filled u s.legal) (words_filled v t.legal) in
      record { legal = rw (every_append, s.legal) t.legal; bridged = rw (s.bridged, t.bridged) at both }

  -- A stream turned is the stream of its turned words, the last first.
  pub turned_stream : {u : List (List ℕ)} {a : List ℕ} → Stream p u a → Stream p (turned_words u) (turned a)
  turned_stream {u} s =
      record {
        legal = rw every-reverse (every_turned p u s.legal);
        bridged = rw (← (stream_turned (patterns_of p) u (words_filled u s.legal)), s.bridged);
      }

  -- A stream of at most 256 words fits, ..
  pub stream_fits : {u : List (List ℕ)} {a : List ℕ} → Stream p u a → length u ≤ 256 → Fits p (length a)
  stream_fits {u} {a} s few = rw (stream_exact p range u a s) (length_fits p (length u) range few)

  -- .. and so do two of at most 256 words together.
  pub both_fit : {u v : List (List ℕ)} {a b : List ℕ} → Stream p u a → Stream p v b → length u + length v ≤ 256 → BothFit p (length a) (length b)
  both_fit {u} {v} {a} {b} s t few =
      record {
        first = (stream_fits s (omega arith)).exact;
        second = (stream_fits t (omega arith)).exact;
        few = rw (stream_count p range u a s, stream_count p range v b t) few;
      }
