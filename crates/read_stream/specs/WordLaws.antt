-- What holds of each word of a part of a stream: of its first word, and of each word of the part behind it.
use Rattle.std.specs.Prelude.{◌≡◌, List, ℕ, zero, suc, ◌≤◌, ◌<◌, length, take, drop}
use Rattle.std.proofs.Common.{suc-mul, arith, length-drop, take_all}
use Rattle.replies.specs.declared.Profile.{Profile}
use Rattle.replies.specs.Ranges.{InRange}
use Rattle.profiles.specs.Profiles.{stride, stream_length}
use Rattle.streams.specs.Streams.{words_in}
use Rattle.streams.specs.FitLaws.{rest_of}
use Rattle.streams.specs.PartLaws.{rest_exact}
use Rattle.streams.specs.FromWords.{FromEach}

-- A part of a stream, and a fact of each of its words.
pub record EachWord (p : Profile) (fact : List ℕ → Type 0) (part : List ℕ) : Type 0 where
  pub exact : length part ≡ stream_length p (words_in p (length part))
  pub each : FromEach p (λ t. fact (take p.m t)) (words_in p (length part)) part

module _ {p : Profile} {fact : List ℕ → Type 0} (part : List ℕ) (words : EachWord p fact part) where
  -- A part that has cells begins with a word, ..
  pub first_word : 0 < length part → (p.m ≤ length part) × fact (take p.m part)
  first_word some = go (words_in p (length part)) words.exact words.each
    where
      go : (n : ℕ) → length part ≡ stream_length p n → FromEach p (λ t. fact (take p.m t)) n part → (p.m ≤ length part) × fact (take p.m part)
      go zero e each = absurd (omega arith)
      go (suc n) e each = (omega (arith, suc-mul n p.m), each.0)

  -- .. which is the whole part where it is the last, ..
  pub only_word : 0 < length part → length part ≤ p.m → fact part
  only_word some last = rw (take_all p.m part last) at (first_word some).1

  -- .. and the part behind the word and its bridge is such a part.
  pub words_behind : InRange p → p.m < length part → EachWord p fact (drop (stride p) part)
  words_behind range more =
      let each = rw (rest_of p (length part) range words.exact more).words at words.each in
      record { exact = rest_exact p part range words.exact more; each = rw length-drop each.1 }
