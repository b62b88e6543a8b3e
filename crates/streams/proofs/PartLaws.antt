-- Laws of a test throughout a stream that rest on its definition: the last word, or a word and the rest of the stream; and how far in a refusal lies.
use Rattle.std.specs.Prelude.{◌≡◌, refl, Bool, true, false, cond, ◌||◌, List, ℕ, zero, suc, ◌+◌, ◌*◌, ◌≤◌, ◌<◌, leb, length, drop}
use Rattle.std.proofs.Common.{suc-mul, arith, length-drop}
use Rattle.replies.specs.declared.Reply.{Reply}
use Rattle.replies.specs.declared.Profile.{Profile}
use Rattle.replies.specs.Replies.{done, is_done, refused, moved_by, lowest}
use Rattle.replies.specs.Ranges.{InRange}
use Rattle.profiles.specs.Profiles.{stride, stream_length}
use Rattle.streams.specs.Streams.{words_in, part_refusal, throughout, stream_refusal}
use Rattle.streams.specs.FitLaws.{few_words, last_word, rest_of}
use Rattle.streams.specs.PartLaws.{part_place, moved_place}

-- A reply on a part is not changed by nothing further on.
moved_alone : (places : ℕ) (r : Reply) → lowest (moved_by places r) done ≡ moved_by places r
unfolding lowest moved_by
moved_alone places r = go (is_done r) refl
  where
    go : (s : Bool) → is_done r ≡ s → lowest (cond s done (refused r.number (r.place + places))) done ≡ cond s done (refused r.number (r.place + places))
    go true e = refl
    go false e = rw e

module _ (p : Profile) (test : List ℕ → Reply) where
  -- At the last word its own test decides.
  pub throughout_last : (place : ℕ) (part : List ℕ) → InRange p → length part ≡ stream_length p (words_in p (length part)) → 0 < length part
      → length part ≤ p.m → throughout p test (words_in p (length part)) place part ≡ moved_by place (test part)
  throughout_last place part range exact some most =
      rw (last_word p (length part) range exact some most).0 (unfold throughout in moved_alone place (test part))

  -- A word's test, and the same throughout the rest of the stream behind its bridge.
  pub throughout_step : (place : ℕ) (part : List ℕ) → InRange p → length part ≡ stream_length p (words_in p (length part)) → p.m < length part
      → throughout p test (words_in p (length part)) place part
      ≡ lowest (moved_by place (test part)) (throughout p test (words_in p (length (drop (stride p) part))) (place + stride p) (drop (stride p) part))
  throughout_step place part range exact more =
      rw ((rest_of p (length part) range exact more).words, length-drop) (unfold throughout in refl)

-- Two tests lie no further in than the further of them.
lowest_place : (a b : Reply) {most : ℕ} → a.place ≤ most → b.place ≤ most → (lowest a b).place ≤ most
unfolding lowest
lowest_place a b {most} l k = go (is_done a) (is_done b || leb a.number b.number)
  where
    go : (s t : Bool) → (cond s b (cond t a b)).place ≤ most
    go true t = k
    go false true = l
    go false false = k

-- A refusal throughout n words lies among their cells, where each word's does.
throughout_place : (p : Profile) (test : List ℕ → Reply) → ((part : List ℕ) → (test part).place ≤ stride p) → (n place : ℕ) (part : List ℕ)
    → (throughout p test n place part).place ≤ place + n * stride p
unfolding throughout
throughout_place p test within zero place part = omega arith
throughout_place p test within (suc n) place part =
    let more = throughout_place p test within n (place + stride p) (drop (stride p) part) in
    let here = moved_place place (test part) (within part) in
    lowest_place _ _ (rw suc-mul (omega arith)) (rw suc-mul (omega arith))

-- At most 256 words of at most 136 cells: so far in lies a refusal of a whole stream.
pub stream_place : (p : Profile) (cells : List ℕ) → InRange p → words_in p (length cells) ≤ 256 → (stream_refusal p cells).place ≤ 256 * 136
unfolding stream_refusal
stream_place p cells range few =
    let within = throughout_place p (part_refusal p) (part_place p) (words_in p (length cells)) 0 cells in
    omega (arith, within, few_words p (words_in p (length cells)) range few)
