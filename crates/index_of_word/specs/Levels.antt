-- Guarded levels as one number: how large it is, and how it is read cell by cell.
use Rattle.std.specs.Prelude.{◌≡◌, refl, Bool, true, false, cond, List, [], ◌∷◌, ℕ, suc, ◌+◌, ◌*◌, ◌^◌, ◌≤◌, ◌<◌, ltb, length, take, drop, get_or, min}
use Rattle.std.proofs.Common.{le_refl, le_trans, mul-le-mul, pow-suc, zero-add, add-zero, add-suc, suc-add, arith, lit<, length-take, drop-cons, drop_of_length-le, lt-ltb, le-ltb, ltb-true, ltb-false}
use Rattle.std.proofs.Math.Nat.{min-le_left, pow-zero}
use Rattle.std.proofs.Math.Arith.{digits_lt}
use Rattle.listing.specs.Listing.{all_below}
use Rattle.listing.proofs.Order.{first_below, rest_below}
use Rattle.tables.specs.PowerLaws.{power_within}
use Rattle.index_of_word.specs.IndexBehind.{digits, guarded_cells, guarded_factor}

-- Where there are more cells than x behind a top, x of them are guarded and the last weighs t times a row.
pub cells_beyond : {x left : ℕ} → x < left → x ≡ guarded_cells x left
cells_beyond {x} {left} l = rw (lt-ltb x left l)

pub factor_beyond : (t : ℕ) {x left : ℕ} → x < left → t ≡ guarded_factor t x left
factor_beyond t {x} {left} l = rw (lt-ltb x left l)

-- The lesser of the two is how many.
pub least_guarded : (x left : ℕ) → min x left ≡ guarded_cells x left
least_guarded x left = go (ltb x left) refl
  where
    go : (b : Bool) → ltb x left ≡ b → min x left ≡ cond b x left
    go true s = let l = ltb-true x left s in omega arith
    go false s = let l = ltb-false x left s in omega arith

-- Otherwise all are guarded, and the last weighs row 0, which is 1.
pub cells_within : {x left : ℕ} → left ≤ x → left ≡ guarded_cells x left
cells_within {x} {left} l = rw (le-ltb x left l)

pub factor_within : (t : ℕ) {x left : ℕ} → left ≤ x → 1 ≡ guarded_factor t x left
factor_within t {x} {left} l = rw (le-ltb x left l)

-- The last weighs at most 31 times a row.
pub factor_small : {t : ℕ} (x left : ℕ) → t ≤ 31 → guarded_factor t x left ≤ 31
factor_small {t} x left small = go (ltb x left)
  where
    go : (b : Bool) → cond b t 1 ≤ 31
    go true = small
    go false = lit< tt

-- So they are few: no more than x, nor than there are, and at least one where there is one.
pub record Few (x left k : ℕ) : Type 0 where
  pub most : k ≤ x
  pub inside : k ≤ left
  pub some : 0 < k

pub guarded_few : {x left k : ℕ} → 0 < x → 0 < left → k ≡ guarded_cells x left → Few x left k
guarded_few {x} {left} {k} l h e = rw e (go (ltb x left) refl)
  where
    go : (b : Bool) → ltb x left ≡ b → Few x left (cond b x left)
    go true s = let f = ltb-true x left s in record { most = le_refl x; inside = omega arith; some = l }
    go false s = let f = ltb-false x left s in record { most = f; inside = le_refl left; some = h }

-- t times the number of at most eight guarded cells is at most 31^9.
pub times_within : {s t : ℕ} → s ≤ 31 ^ 8 → t ≤ 31 → s * t ≤ 31 ^ 9
times_within l h = mul-le-mul l h

-- k guarded cells, from `at` on.
pub record GuardedRun (t k at : ℕ) (cells : List ℕ) : Type 0 where
  pub small : t ≤ 31
  pub few : k ≤ 8
  pub inside : at + k ≤ length cells
  pub low : all_below t (take k (drop at cells)) ≡ true

-- So far `passed` levels are read as the number s, and those of `left` are to come; together they are the number `whole`.
pub record Reading (t whole passed s : ℕ) (left : List ℕ) : Type 0 where
  pub low : all_below t left ≡ true
  pub bounded : s < t ^ passed
  pub same : digits t s left ≡ whole

one_level_more : (t i : ℕ) {s a : ℕ} → s < t ^ i → a < t → s * t + a < t ^ suc i
one_level_more t i l h = rw (pow-suc t i) (digits_lt l h)

reading_cons : {t whole passed s a : ℕ} {left : List ℕ} → Reading t whole passed s (a ∷ left) → Reading t whole (suc passed) (s * t + a) left
unfolding digits
reading_cons {t} {whole} {passed} {s} {a} {left} r = record {
  low = rest_below t a left r.low;
  bounded = one_level_more t passed r.bounded (first_below t a left r.low);
  same = r.same;
}

-- The levels read so far are few, so their number is small.
pub reading_within : {t whole i s : ℕ} {left : List ℕ} → t ≤ 31 → i ≤ 8 → Reading t whole i s left → s ≤ 31 ^ 8
reading_within l h r = let p = power_within l h in let b = r.bounded in omega arith

digits_below : (t i s : ℕ) (w : List ℕ) → s < t ^ i → all_below t w ≡ true → digits t s w < t ^ (i + length w)
unfolding digits
digits_below t i s [] l b = rw add-zero l
digits_below t i s (a ∷ w) l b =
    rw (add-suc, ← suc-add) (digits_below t (suc i) (s * t + a) w (one_level_more t i l (first_below t a w b)) (rest_below t a w b))

-- The number of at most eight guarded levels.
pub digits_within : (t k : ℕ) (w : List ℕ) → t ≤ 31 → k ≤ 8 → all_below t (take k w) ≡ true → digits t 0 (take k w) ≤ 31 ^ 8
digits_within t k w l h b =
    let d = rw zero-add at (digits_below t 0 0 (take k w) (rw pow-zero (lit< tt)) b) in
    let p = power_within {k = length (take k w)} l (le_trans (rw length-take (min-le_left k (length w))) h) in
    omega arith

module _ (t : ℕ) (cells : List ℕ) where
  -- Before the first.
  pub reading_none : all_below t cells ≡ true → Reading t (digits t 0 cells) 0 0 cells
  reading_none b = record { low = b; bounded = rw pow-zero (lit< tt); same = refl }

  -- One level more.
  pub reading_more : {whole i s : ℕ} → i < length cells → Reading t whole i s (drop i cells)
      → Reading t whole (i + 1) (s * t + get_or cells i 0) (drop (i + 1) cells)
  reading_more {whole} {i} {s} l r =
      let next : i + 1 ≡ suc i = omega arith in
      rw next (reading_cons (rw (drop-cons cells i 0 l) at r))

  -- After the last.
  pub reading_all : {whole i s : ℕ} → length cells ≤ i → Reading t whole i s (drop i cells) → s ≡ whole
  unfolding digits
  reading_all l r = rw (drop_of_length-le cells l) at r.same
