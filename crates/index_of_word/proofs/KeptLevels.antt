-- Laws that stood in specs/Levels, which no proof rests on now.
use Rattle.std.specs.Prelude.{◌≡◌, refl, true, List, ◌∷◌, ℕ, suc, ◌+◌, ◌-◌, ◌*◌, ◌^◌, ◌≤◌, ◌<◌, length, take, drop, get_or}
use Rattle.std.proofs.Common.{pow-suc, add-zero, arith, lit<, drop-cons}
use Rattle.std.proofs.Math.Nat.{pow-zero, sub-zero, sub_self}
use Rattle.std.proofs.Math.Arith.{digits_lt}
use Rattle.listing.specs.Listing.{all_below}
use Rattle.listing.proofs.Order.{first_below, rest_below}
use Rattle.index_of_word.specs.IndexBehind.{digits}
use Rattle.index_of_word.specs.Levels.{Reading}

one_level_more : (t i : ℕ) {s a : ℕ} → s < t ^ i → a < t → s * t + a < t ^ suc i
one_level_more t i l h = rw (pow-suc t i) (digits_lt l h)

reading_cons : {t whole passed s a : ℕ} {left : List ℕ} → Reading t whole passed s (a ∷ left) → Reading t whole (suc passed) (s * t + a) left
unfolding digits
reading_cons {t} {whole} {passed} {s} {a} {left} r = record {
  low = rest_below t a left r.low;
  bounded = one_level_more t passed r.bounded (first_below t a left r.low);
  same = r.same;
}

module _ (t k at : ℕ) (cells : List ℕ) where
  -- Before the first.
  pub reading_none : all_below t (take k (drop at cells)) ≡ true
      → Reading t (digits t 0 (take k (drop at cells))) 0 0 (take (k - 0) (drop (at + 0) cells))
  reading_none b = rw (sub-zero, add-zero) (record { low = b; bounded = rw pow-zero (lit< tt); same = refl })

  -- One level more.
  pub reading_more : {whole i s : ℕ} → i < k → at + k ≤ length cells → Reading t whole i s (take (k - i) (drop (at + i) cells))
      → Reading t whole (i + 1) (s * t + get_or cells (at + i) 0) (take (k - (i + 1)) (drop (at + (i + 1)) cells))
  reading_more {whole} {i} {s} l h r =
      let one : k - i ≡ suc (k - (i + 1)) = omega arith in
      let on : at + (i + 1) ≡ suc (at + i) = omega arith in
      let next : i + 1 ≡ suc i = omega arith in
      let within : at + i < length cells = omega arith in
      let cons = rw (drop-cons cells (at + i) 0 within, one) at r in
      rw (on, next) (rw next at (reading_cons cons))

  -- After the last.
  pub reading_all : {whole s : ℕ} → Reading t whole k s (take (k - k) (drop (at + k) cells)) → s ≡ whole
  unfolding digits
  reading_all r = rw sub_self at r.same
