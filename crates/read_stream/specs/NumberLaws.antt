-- Which numbers the two passes of reading can give: at most 13 of the stream's cells, at least 14 of its words. So the first pass that refuses has
-- the lowest number of all.
use Rattle.std.specs.Prelude.{◌≡◌, refl, Bool, true, false, cond, ◌||◌, List, eqb, ltb, take, drop}
use Prim.Native.Nat.{ℕ, zero, suc, ◌+◌, ◌-◌, ◌^◌, ◌≤◌}
use Rattle.std.proofs.Common.{arith}
use Rattle.std.proofs.Math.Dec.{leb}
use Rattle.replies.specs.declared.Reply.{Reply}
use Rattle.replies.specs.declared.Profile.{Profile}
use Rattle.replies.specs.Replies.{is_done, refused_if, refused_from, refused_at_first, or_else, moved_by, lowest}
use Rattle.replies.specs.NumberLaws.{picked}
use Rattle.listing.specs.Every.{every}
use Rattle.profiles.specs.Profiles.{index_for, length_of, stride}
use Rattle.cells.specs.Finding.{cell_refusal, pattern_refusal}
use Rattle.streams.specs.Streams.{bridge_refusal, part_refusal, throughout, stream_refusal}
use Rattle.read_stream.specs.Reading.{silent_refusal, silent_first, silence_refusal}

-- A property that 0 has, and the number of each test, the number that comes out has too.
module _ (P : ℕ → Type 0) (none : P 0) where
  abbrev Has : Reply → Type 0
  Has r = P r.number

  if_has : (test : Bool) (a b : Reply) → Has a → Has b → Has (cond test a b)
  if_has test a b x y = picked Has test (λ e. x) (λ e. y)

  else_has : (a b : Reply) → Has a → Has b → Has (or_else a b)
  unfolding or_else
  else_has a b x y = if_has (is_done a) b a y x

  moved_has : (places : ℕ) (r : Reply) → Has r → Has (moved_by places r)
  unfolding moved_by
  moved_has places r x = if_has (is_done r) _ _ none x

  lowest_has : (a b : Reply) → Has a → Has b → Has (lowest a b)
  unfolding lowest
  lowest_has a b x y = if_has (is_done a) b _ y (if_has (is_done b || leb a.number b.number) a b x y)

  from_has : (number : ℕ) → P number → (place : ℕ) (test : ℕ → Bool) (n : ℕ) → Has (refused_from place test n number)
  from_has number x place test zero = none
  from_has number x place test (suc n) = if_has (test place) _ _ x (from_has number x (suc place) test n)

  first_has : (number : ℕ) → P number → (test : ℕ → Bool) (n : ℕ) → Has (refused_at_first test n number)
  unfolding refused_at_first
  first_has number x test n = from_has number x 0 test n

  throughout_has : (p : Profile) (test : List ℕ → Reply) → ((part : List ℕ) → Has (test part)) → (n place : ℕ) (part : List ℕ)
      → Has (throughout p test n place part)
  unfolding throughout
  throughout_has p test each zero place part = none
  throughout_has p test each (suc n) place part =
      lowest_has _ _ (moved_has place _ (each part)) (throughout_has p test each n (place + stride p) (drop (stride p) part))

-- 10, 11, 13 of the stream.
abbrev Low : ℕ → Type 0
Low n = n ≤ 13

part_low : (low : Low 0) (p : Profile) (part : List ℕ) → Low (part_refusal p part).number
unfolding part_refusal cell_refusal pattern_refusal bridge_refusal
part_low low p part =
    else_has Low low _ _ (first_has Low low 10 (omega arith) _ _)
    (else_has Low low _ _ (first_has Low low 11 (omega arith) _ _) (moved_has Low low p.m _ (first_has Low low 13 (omega arith) _ _)))

pub stream_numbers : (p : Profile) (cells : List ℕ) → (stream_refusal p cells).number ≤ 13
unfolding stream_refusal
stream_numbers p cells =
    let low : Low 0 = omega arith in throughout_has Low low p (part_refusal p) (part_low low p) _ 0 cells

-- 14, 15, 16 of its words.
abbrev High : ℕ → Type 0
High n = (n ≡ 0 → ⊥) → 14 ≤ n

tests_high : (a b c : Bool) → High (or_else (refused_if a 14) (or_else (refused_if b 15) (refused_if c 16))).number
unfolding or_else
tests_high true b c some = omega arith
tests_high false true c some = omega arith
tests_high false false true some = omega arith
tests_high false false false some = absurd (some refl)

word_high : (p : Profile) (part : List ℕ) → High (silent_first p part).number
unfolding silent_refusal
word_high p part =
    let w = take p.m part in
    tests_high (every (λ c. eqb c 0) w) (ltb (2 ^ length_of p) (index_for p w)) (every (λ c. eqb c (p.q - 1)) w)

pub silence_numbers : (p : Profile) (cells : List ℕ) → ((silence_refusal p cells).number ≡ 0 → ⊥) → 14 ≤ (silence_refusal p cells).number
unfolding silence_refusal
silence_numbers p cells =
    let high : High 0 = λ some. absurd (some refl) in throughout_has High high p (silent_first p) (word_high p) _ 0 cells
