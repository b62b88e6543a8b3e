-- Laws of a test throughout a stream: no word, the last word, or a word and the rest of the stream; and how far in a refusal lies.
use Rattle.std.specs.Prelude.{◌≡◌, refl, Bool, true, false, cond, List, ℕ, zero, suc, ◌+◌, ◌-◌, ◌≤◌, ◌<◌, length, drop}
use Rattle.std.proofs.Common.{subst, le_trans, zero-add, arith, length-take, length-drop}
use Rattle.replies.specs.declared.Reply.{Reply}
use Rattle.replies.specs.declared.Profile.{Profile}
use Rattle.replies.specs.Replies.{done, is_done, refused, refused_from, refused_at_first, or_else, moved_by}
use Rattle.replies.specs.Ranges.{InRange}
use Rattle.profiles.specs.Profiles.{stride, stream_length}
use Rattle.cells.specs.Finding.{cell_refusal, pattern_refusal}
use Rattle.streams.specs.Streams.{words_in, bridge_refusal, part_refusal, throughout}
use Rattle.streams.specs.FitLaws.{no_word, words_of-length, length_step, rest_of}
use Rattle.streams.specs.FromWords.{FromEach}

module _ (p : Profile) (test : List ℕ → Reply) where
  -- A stream with no word has nothing to refuse.
  pub throughout_none : (place : ℕ) (part : List ℕ) → InRange p → throughout p test (words_in p 0) place part ≡ done
  throughout_none place part range = rw (no_word p range) (unfold throughout in refl)

-- The rest of a stream behind a word and its bridge is a stream again.
pub rest_exact : (p : Profile) (part : List ℕ) → InRange p → length part ≡ stream_length p (words_in p (length part)) → p.m < length part
    → length (drop (stride p) part) ≡ stream_length p (words_in p (length (drop (stride p) part)))
rest_exact p part range exact more = rw length-drop (rest_of p (length part) range exact more).exact

-- The first place at which a test holds is one of the n places, ..
from_place : (place : ℕ) (test : ℕ → Bool) (n number : ℕ) → (refused_from place test n number).place ≤ place + n
from_place place test zero number = omega arith
from_place place test (suc n) number = go (test place) (from_place (suc place) test n number)
  where
    go : (b : Bool) → (refused_from (suc place) test n number).place ≤ suc place + n
        → (cond b (refused number place) (refused_from (suc place) test n number)).place ≤ place + suc n
    go true l = omega arith
    go false l = omega arith

first_place : (test : ℕ → Bool) (n number : ℕ) → (refused_at_first test n number).place ≤ n
unfolding refused_at_first
first_place test n number = rw zero-add at (from_place 0 test n number)

-- .. two tests lie no further in than the further of them, ..
else_place : (a b : Reply) {most : ℕ} → a.place ≤ most → b.place ≤ most → (or_else a b).place ≤ most
unfolding or_else
else_place a b {most} l k = go (is_done a)
  where
    go : (s : Bool) → (cond s b a).place ≤ most
    go true = k
    go false = l

-- .. and a reply on a part counts on from where the part starts.
pub moved_place : (places : ℕ) (r : Reply) {most : ℕ} → r.place ≤ most → (moved_by places r).place ≤ places + most
unfolding moved_by
moved_place places r {most} l = go (is_done r)
  where
    go : (s : Bool) → (cond s done (refused r.number (r.place + places))).place ≤ places + most
    go true = omega arith
    go false = omega arith

-- A refusal from a word on lies in the word or its bridge.
pub part_place : (p : Profile) (part : List ℕ) → (part_refusal p part).place ≤ stride p
unfolding part_refusal cell_refusal pattern_refusal bridge_refusal
part_place p part =
    else_place _ _ (le_trans (first_place _ _ 10) (omega (arith, length-take (stride p) part)))
    (else_place _ _ (le_trans (first_place _ _ 11) (omega (arith, length-take p.m part)))
    (moved_place p.m _ (le_trans (first_place _ _ 13) (omega (arith, length-take p.x (drop p.m part))))))

-- What holds of the part from each word of a stream on holds of the stream, and of the part behind a word that is not the last.
module _ (p : Profile) (part : List ℕ) (range : InRange p) (exact : length part ≡ stream_length p (words_in p (length part))) (fact : List ℕ → Type 0)
    (each : FromEach p fact (words_in p (length part)) part) where
  pub each_first : 0 < length part → fact part
  each_first some = go (words_in p (length part)) exact each
    where
      go : (n : ℕ) → length part ≡ stream_length p n → FromEach p fact n part → fact part
      go zero e f = absurd (omega arith)
      go (suc n) e f = f.0

  pub each_behind : p.m < length part → FromEach p fact (words_in p (length (drop (stride p) part))) (drop (stride p) part)
  each_behind more = rw length-drop (go (words_in p (length part)) (rest_of p (length part) range exact more).words each)
    where
      go : (n : ℕ) → n ≡ suc (words_in p (length part - stride p)) → FromEach p fact n part
          → FromEach p fact (words_in p (length part - stride p)) (drop (stride p) part)
      go n e f = (subst (λ (k : ℕ). FromEach p fact k part) e f).1

-- The part from each word on is a stream.
pub each_exact : (p : Profile) → InRange p → (n : ℕ) (part : List ℕ) → length part ≡ stream_length p n
    → FromEach p (λ t. length t ≡ stream_length p (words_in p (length t))) n part
each_exact p range zero part e = tt
each_exact p range (suc zero) part e = (rw (e, words_of-length p 1 range) refl, tt)
each_exact p range (suc (suc n)) part e =
    let step = length_step p n in
    (rw (e, words_of-length p (suc (suc n)) range) refl, each_exact p range (suc n) (drop (stride p) part) (rw length-drop (omega arith)))
