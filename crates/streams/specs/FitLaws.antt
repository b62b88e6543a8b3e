-- Laws of the length of a stream: how many words it has, what number 7 lets through, and what is left behind a word and its bridge.
use Rattle.std.specs.Prelude.{◌≡◌, refl, Bool, true, false, ◌||◌, List, ℕ, zero, suc, ◌+◌, ◌-◌, ◌*◌, ◌≤◌, ◌<◌, length, take}
use Rattle.std.proofs.Common.{sym, length-take-le, true≢false, mul-add, mul-le-mul, suc-mul, sub-one, arith, ltb-false, le-ltb, eqb-true, eq-eqb}
use Rattle.std.proofs.Math.Nat.{div-eq_of_lt, div-eq_of_eq-mul_left}
use Rattle.std.proofs.lemmas.Bool.{not-false}
use Rattle.replies.specs.declared.Reply.{Reply}
use Rattle.replies.specs.declared.Profile.{Profile}
use Rattle.replies.specs.Replies.{done}
use Rattle.replies.specs.ReplyLaws.{test_failed}
use Rattle.replies.specs.Ranges.{InRange}
use Rattle.profiles.specs.Profiles.{stride, stream_length}
use Rattle.streams.specs.Streams.{words_in, fits_none, fit_refusal, both_fit_refusal}

-- One word more, with a bridge, where there is a word already.
pub length_step : (p : Profile) (n : ℕ) → stream_length p (suc (suc n)) ≡ stride p + stream_length p (suc n)
length_step p n = rw (sub-one, sub-one, suc-mul, suc-mul) (omega arith)

-- With a bridge behind the last word too, each word takes m + x cells.
pub length_and_bridge : (p : Profile) (n : ℕ) → stream_length p (suc n) + p.x ≡ suc n * stride p
length_and_bridge p n = rw (sub-one, mul-add, suc-mul, suc-mul) (omega arith)

-- The cells of n words tell how many they are.
pub words_of-length : (p : Profile) (n : ℕ) → InRange p → words_in p (stream_length p n) ≡ n
unfolding words_in
words_of-length p zero range = let some = range.length.least in div-eq_of_lt (omega arith)
words_of-length p (suc n) range = let some = range.length.least in div-eq_of_eq-mul_left (omega arith) (length_and_bridge p n)

-- So many cells are those of some stream of at most 256 words.
pub record Fits (p : Profile) (cells : ℕ) : Type 0 where
  pub exact : cells ≡ stream_length p (words_in p cells)
  pub few : words_in p cells ≤ 256

pub record BothFit (p : Profile) (a b : ℕ) : Type 0 where
  pub first : a ≡ stream_length p (words_in p a)
  pub second : b ≡ stream_length p (words_in p b)
  pub few : words_in p a + words_in p b ≤ 256

fits_one : (p : Profile) (cells : ℕ) → fits_none p cells ≡ false → cells ≡ stream_length p (words_in p cells)
fits_one p cells e = eqb-true _ _ (not-false _ e)

-- Where not one of two tests holds, each has failed.
pub neither : (a b : Bool) → (a || b) ≡ false → (a ≡ false) × (b ≡ false)
neither false b e = (refl, e)
neither true b e = absurd (true≢false e)

-- What 7 does not refuse fits, ..
pub not_refused_fits : (p : Profile) (cells : ℕ) {r : Reply} → r ≡ fit_refusal p cells → r.number ≡ 0 → Fits p cells
unfolding fit_refusal
not_refused_fits p cells e none =
    let both = neither _ _ (test_failed _ 6 (rw e at none)) in record { exact = fits_one p cells both.0; few = ltb-false 256 _ both.1 }

pub not_refused_both_fit : (p : Profile) (a b : ℕ) {r : Reply} → r ≡ both_fit_refusal p a b → r.number ≡ 0 → BothFit p a b
unfolding both_fit_refusal
not_refused_both_fit p a b e none =
    let first = neither _ _ (test_failed _ 6 (rw e at none)) in
    let second = neither _ _ first.1 in
    record { first = fits_one p a first.0; second = fits_one p b second.0; few = ltb-false 256 _ second.1 }

-- .. and what fits, 7 does not refuse.
pub fits_not_refused : (p : Profile) (cells : ℕ) → Fits p cells → fit_refusal p cells ≡ done
unfolding fit_refusal
fits_not_refused p cells f = rw (eq-eqb _ _ f.exact, le-ltb 256 _ f.few)

pub both_fit_not_refused : (p : Profile) (a b : ℕ) → BothFit p a b → both_fit_refusal p a b ≡ done
unfolding both_fit_refusal
both_fit_not_refused p a b f = rw (eq-eqb _ _ f.first, eq-eqb _ _ f.second, le-ltb 256 _ f.few)

-- The cells of n words for n up to 256 fit.
pub length_fits : (p : Profile) (n : ℕ) → InRange p → n ≤ 256 → Fits p (stream_length p n)
length_fits p n range l = let e = words_of-length p n range in record { exact = rw e refl; few = rw e l }

-- 256 words with their bridges have at most 136 cells each, ..
pub few_words : (p : Profile) (n : ℕ) → InRange p → n ≤ 256 → n * stride p ≤ 256 * 136
few_words p n range few =
    let most : stride p ≤ 136 = omega (arith, range.length.most, range.reach.most) in
    mul-le-mul few most

-- .. so a stream has few cells.
pub few_cells : (p : Profile) (cells : ℕ) → InRange p → Fits p cells → cells ≤ 256 * 136
few_cells p cells range f = go (words_in p cells) f.exact f.few
  where
    go : (n : ℕ) → cells ≡ stream_length p n → n ≤ 256 → cells ≤ 256 * 136
    go zero e l = omega arith
    go (suc n) e l =
        let all = length_and_bridge p n in
        omega (arith, few_words p (suc n) range l)

-- A part of a stream, seen by its length: no word, ..
pub no_word : (p : Profile) → InRange p → words_in p 0 ≡ 0
unfolding words_in
no_word p range = let some = range.length.least in div-eq_of_lt (omega arith)

-- .. the last word, ..
pub last_word : (p : Profile) (cells : ℕ) → InRange p → cells ≡ stream_length p (words_in p cells) → 0 < cells → cells ≤ p.m
    → (words_in p cells ≡ 1) × (cells ≡ p.m)
last_word p cells range exact some most = go (words_in p cells) exact
  where
    go : (n : ℕ) → cells ≡ stream_length p n → (n ≡ 1) × (cells ≡ p.m)
    go zero e = absurd (omega arith)
    go (suc zero) e = (refl, omega arith)
    go (suc (suc n)) e =
        let step = length_step p n in
        let reach = range.reach.least in
        absurd (omega arith)

-- .. or a word, a bridge and the rest of the stream.
pub record Rest (p : Profile) (cells : ℕ) : Type 0 where
  pub within : stride p < cells
  pub exact : cells - stride p ≡ stream_length p (words_in p (cells - stride p))
  pub words : words_in p cells ≡ suc (words_in p (cells - stride p))

pub rest_of : (p : Profile) (cells : ℕ) → InRange p → cells ≡ stream_length p (words_in p cells) → p.m < cells → Rest p cells
rest_of p cells range exact more = go (words_in p cells) refl exact
  where
    go : (n : ℕ) → words_in p cells ≡ n → cells ≡ stream_length p n → Rest p cells
    go zero e f = absurd (omega arith)
    go (suc zero) e f = absurd (omega arith)
    go (suc (suc n)) e f =
        let step = length_step p n in
        let some = range.length.least in
        let first = suc-mul n p.m in
        let left : cells - stride p ≡ stream_length p (suc n) = omega arith in
        let count = words_of-length p (suc n) range in
        record { within = omega arith; exact = rw (left, count); words = rw (left, count, e) }

-- A word with its bridge is so long.
pub goes_on : (p : Profile) (part : List ℕ) → InRange p → length part ≡ stream_length p (words_in p (length part)) → p.m < length part
    → stride p < length part
goes_on p part range exact more = (rest_of p (length part) range exact more).within

pub first_cells : (p : Profile) (part : List ℕ) → InRange p → length part ≡ stream_length p (words_in p (length part)) → p.m < length part
    → stride p ≡ length (take (stride p) part)
first_cells p part range exact more = sym (length-take-le (stride p) part (omega (arith, goes_on p part range exact more)))
