-- The stream of a list of words: it is pattern-free, joins, turns, and has a known length.
use Rattle.std.specs.Prelude.{◌≡◌, false, ℕ, ◌<◌, ◌+◌, ◌-◌, ◌*◌, length}
use Rattle.std.proofs.Math.Path.{refl}
use Rattle.std.proofs.Math.Bool.{true, and-true, and-eq-true_iff}
use Rattle.std.proofs.lemmas.Bool.{false≢true}
use mathlib.Core.List.{List, [], ◌∷◌, ◌++◌, map, reverse, reverse-cons}
use Rattle.std.proofs.Common.{suc-mul, sub-one, length-append}
use native.Mathlib.Omega.{arith}
use Rattle.std.proofs.lemmas.List.{length-replicate}
use borrow.Author.Tests.{eqb-true}
use Rattle.listing.specs.Every.{every}
use Rattle.listing.specs.EveryLaws.{every_append, every-reverse}
use Rattle.patterns.specs.Pattern.{Patterns, pattern_free}
use Rattle.patterns.specs.Stream.{bridge, filled, has_length, stream_of, joined, turned}
use Rattle.patterns.proofs.FreeLaws.{joined_free}
use Rattle.patterns.proofs.JoinLaws.{filled_turned, joined_assoc, turned_joined}

every_filled_turned : (words : List (List ℕ)) → every filled (map reverse words) ≡ every filled words
every_filled_turned [] = refl
every_filled_turned (w ∷ words) = rw (every_filled_turned words, filled_turned w)

module _ (S : Patterns) where
  -- A stream is its first word joined with the stream of the others.
  pub stream_cons : (w : List ℕ) (words : List (List ℕ)) → every filled (w ∷ words) ≡ true → stream_of S (w ∷ words) ≡ joined S w (stream_of S words)
  unfolding stream_of joined
  stream_cons [] words h = absurd (false≢true h)
  stream_cons (c ∷ w) [] h = refl
  stream_cons (c ∷ w) ([] ∷ words) h = absurd (false≢true h)
  stream_cons (c ∷ w) ((d ∷ v) ∷ []) h = refl
  stream_cons (c ∷ w) ((d ∷ v) ∷ u ∷ words) h = refl

  -- The stream of two lists of words: their streams joined.
  pub stream_joined : (words more : List (List ℕ)) → every filled words ≡ true → every filled more ≡ true → stream_of S (words ++ more) ≡ joined S (stream_of S words) (stream_of S more)
  stream_joined [] more h k = unfold stream_of joined in refl
  stream_joined (w ∷ words) more h k =
      let p = (and-eq-true_iff (filled w) (every filled words)).0 h in
      let all : every filled (w ∷ words ++ more) ≡ true = rw (every_append filled (w ∷ words) more, h) k in
      rw (stream_cons w (words ++ more) all, stream_joined words more p.1 k, stream_cons w words h, joined_assoc S)

  -- A turned stream is the stream of the turned words, last first.
  pub stream_turned : (words : List (List ℕ)) → every filled words ≡ true → turned (stream_of S words) ≡ stream_of S (reverse (map reverse words))
  stream_turned [] h = unfold stream_of in refl
  stream_turned (w ∷ words) h =
      let p = (and-eq-true_iff (filled w) (every filled words)).0 h in
      let all : every filled (reverse (map reverse words)) ≡ true = rw (every-reverse filled (map reverse words), every_filled_turned words) p.1 in
      let last : every filled (reverse w ∷ []) ≡ true = rw (filled_turned w, p.0) in
      let both = stream_joined (reverse (map reverse words)) (reverse w ∷ []) all last in
      rw (stream_cons w words h, turned_joined S w (stream_of S words), stream_turned words p.1, reverse-cons (reverse w) (map reverse words), both) (unfold stream_of in refl)

  -- The stream of pattern-free words is pattern-free, where the middle set is without top and top is not 0.
  pub stream_free : S.middle S.top ≡ false → 0 < S.top → (words : List (List ℕ)) → every filled words ≡ true → every (pattern_free S) words ≡ true → pattern_free S (stream_of S words) ≡ true
  stream_free apart nonzero [] h k = unfold stream_of pattern_free in refl
  stream_free apart nonzero (w ∷ words) h k =
      let p = (and-eq-true_iff (filled w) (every filled words)).0 h in
      let q = (and-eq-true_iff (pattern_free S w) (every (pattern_free S) words)).0 k in
      rw (stream_cons w words h) (joined_free S apart nonzero w (stream_of S words) q.0 (stream_free apart nonzero words p.1 q.1))

  length_step : (w v : List ℕ) (words : List (List ℕ)) → length (stream_of S (w ∷ v ∷ words)) ≡ length w + (S.reach + length (stream_of S (v ∷ words)))
  unfolding stream_of bridge
  length_step w v words = simp (length-append, length-replicate)

  -- The length of the stream of words of m cells: m for each word and the reach for each bridge.
  pub stream-length : (m : ℕ) (words : List (List ℕ)) → every (has_length m) words ≡ true → length (stream_of S words) ≡ length words * m + (length words - 1) * S.reach
  stream-length m [] h = unfold stream_of in omega arith
  stream-length m (w ∷ []) h = unfold stream_of in omega (arith, eqb-true (length w) m (rw and-true at h))
  stream-length m (w ∷ v ∷ words) h =
      let p = (and-eq-true_iff (has_length m w) (every (has_length m) (v ∷ words))).0 h in
      rw (length_step w v words, stream-length m (v ∷ words) p.1, eqb-true (length w) m p.0) (simp (suc-mul, sub-one) (omega arith))
