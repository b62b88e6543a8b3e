-- The largest s with 2^s at most n: there is one, and it is the place of the highest bit of the highest limb in use.
use Rattle.std.specs.Prelude.{◌≡◌, List, [], ◌∷◌, ℕ, zero, suc, ◌+◌, ◌-◌, ◌*◌, ◌^◌, ◌≤◌, ◌<◌, get_or, take, drop}
use Rattle.std.proofs.Common.{sym, le_antisymm, le_trans, lt_of_not-le, zero-add, add-suc, add_comm, mul-suc, mul_comm, mul-le-mul_left, sub-one, arith, pow_mono, length-take, get_or-take}
use Rattle.std.proofs.Math.Nat.{suc_inj}
use Rattle.std.proofs.Math.Arith.{digits_lt}
use Rattle.std.specs.Int.Count.{count_leading_zeros}
use lib.Count.{leading_of_zero}
use Rattle.std.proofs.lemmas.Nat.{leading_top}
use Rattle.limbs.specs.Limbs.{base, number_at, used, used_with, AllLimbs}
use Rattle.limbs.specs.UsedLaws.{used-length, number_at_used, number_at_below_used}
use Rattle.limbs.specs.ValueLaws.{number_at_more, number_at_below, power_above}
use Rattle.code.specs.Messages.{Largest}

largest_within : {n s t : ℕ} → Largest n s → Largest n t → s ≤ t
largest_within {n} {s} {t} a b =
    let below = lt_of_not-le {n = suc t} {m = s} (λ more. let two = le_trans (pow_mono more) a.fits in let most = b.most in omega arith) in
    omega arith

-- There is one largest s.
pub one_largest : {n s t : ℕ} → Largest n s → Largest n t → s ≡ t
one_largest a b = le_antisymm (largest_within a b) (largest_within b a)

used_with_some : (x k n : ℕ) (xs : List ℕ) → ((j : ℕ) → k ≡ suc j → 0 < get_or xs j 0) → used_with x k ≡ suc n → 0 < get_or (x ∷ xs) n 0
used_with_some zero zero n xs more e = absurd (omega arith)
used_with_some (suc x) zero zero xs more e = omega arith
used_with_some (suc x) zero (suc n) xs more e = absurd (omega arith)
used_with_some x (suc k) zero xs more e = absurd (omega arith)
used_with_some x (suc k) (suc n) xs more e = more n (suc_inj e)

-- The highest limb in use is not 0.
highest_in_use : (l : List ℕ) (n : ℕ) → used l ≡ suc n → 0 < get_or l n 0
unfolding used
highest_in_use [] n e = absurd (omega arith)
highest_in_use (x ∷ xs) n e = used_with_some x (used xs) n xs (highest_in_use xs) e

-- The highest bit of a number of n + 1 limbs is that of its highest limb, 64 n places up.
largest_by_limb : (n : ℕ) (l : List ℕ) (b : ℕ) → AllLimbs l → Largest (get_or l n 0) b → Largest (number_at (suc n) l 0) (64 * n + b)
largest_by_limb n l b all top =
    let split : number_at (suc n) l 0 ≡ number_at n l 0 + base ^ n * get_or l n 0 = rw zero-add at (number_at_more n l 0) in
    let least = mul-le-mul_left (base ^ n) top.fits in
    let most = digits_lt top.most (number_at_below n l 0 all) in
    record {
      fits = rw (power_above 64 n b, split) (omega arith);
      most = rw (← add-suc, power_above 64 n (suc b), split, mul_comm (base ^ n) (2 ^ suc b), mul_comm (base ^ n), add_comm) most;
    }

-- The k limbs in use of a number of n limbs that is not 0, and its highest bit, by the zeros that lead in the highest limb in use.
pub record HighestBit (n : ℕ) (l : List ℕ) (k : ℕ) : Type 0 where
  pub some : 0 < k
  pub inside : k ≤ n
  pub zeros : count_leading_zeros 64 (get_or l (k - 1) 0) < 64
  pub largest : Largest (number_at n l 0) (64 * k - 1 - count_leading_zeros 64 (get_or l (k - 1) 0))

pub highest_bit : (n : ℕ) (l : List ℕ) → AllLimbs l → 0 < number_at n l 0 → (k : ℕ) → k ≡ used (take n (drop 0 l)) → HighestBit n l k
highest_bit n l all some zero e = let below = rw (← e) at (number_at_below_used n l 0 all) in absurd (omega arith)
highest_bit n l all some (suc k) e =
    let inside : suc k ≤ n = omega (arith, used-length (take n (drop 0 l)), length-take n (drop 0 l)) in
    let top : 0 < get_or l k 0 = rw get_or-take at (highest_in_use (take n (drop 0 l)) k (sym e)) in
    let bit = leading_top 64 (get_or l k 0) top (all k) in
    let whole = bit.1 in
    let place : 64 * suc k - 1 - count_leading_zeros 64 (get_or l k 0) ≡ 64 * k + bit.0 = rw mul-suc (omega arith) in
    let same : number_at (suc k) l 0 ≡ number_at n l 0 = rw (← e) at (number_at_used n l 0) in
    record {
      some = omega arith;
      inside = inside;
      zeros = rw (sub-one (suc k)) (omega arith);
      largest = rw (sub-one (suc k), place, ← same) (largest_by_limb k l bit.0 all (record { fits = bit.2; most = bit.3 }));
    }

-- A limb with fewer than 64 leading zeros is not 0.
some_bit : (limb : ℕ) → count_leading_zeros 64 limb < 64 → 0 < limb
some_bit zero few = absurd (omega (arith, leading_of_zero 64))
some_bit (suc limb) few = omega arith

-- The same by the highest limb in use: it is not 0, and its own highest bit is the number's, 64 places up for each limb below it.
pub record TopLimb (n : ℕ) (l : List ℕ) (k : ℕ) : Type 0 where
  pub some : 0 < k
  pub inside : k ≤ n
  pub top : 0 < get_or l (k - 1) 0
  pub largest : (b : ℕ) → Largest (get_or l (k - 1) 0) b → Largest (number_at n l 0) (64 * (k - 1) + b)

pub top_limb : (n : ℕ) (l : List ℕ) → AllLimbs l → 0 < number_at n l 0 → (k : ℕ) → k ≡ used (take n (drop 0 l)) → TopLimb n l k
top_limb n l all some k e =
    let highest = highest_bit n l all some k e in
    let top = some_bit (get_or l (k - 1) 0) highest.zeros in
    let bit = leading_top 64 (get_or l (k - 1) 0) top (all (k - 1)) in
    record {
      some = highest.some;
      inside = highest.inside;
      top = top;
      largest = λ b fits.
          let same : b ≡ bit.0 = one_largest fits (record { fits = bit.2; most = bit.3 }) in
          let place : 64 * k - 1 - count_leading_zeros 64 (get_or l (k - 1) 0) ≡ 64 * (k - 1) + b = omega (arith, bit.1, highest.some) in
          rw place at highest.largest;
    }
