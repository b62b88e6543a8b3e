-- The message length: it is the largest, and where there is none.
use Rattle.std.specs.Prelude.{◌≡◌, refl, ◌↔◌, Bool, true, false, cond, ℕ, zero, suc, ◌-◌, ◌*◌, ◌^◌, ◌≤◌, ◌<◌, leb}
use Rattle.std.proofs.Common.{le_refl, le_of_lt, le_trans, sub-le, sub-eq-zero_of_le, lt_of_not-le, mul_comm, lt_of_le_of_lt, mul-suc, mul-zero, arith, pow_pos, pow-add, pow_mono, lit<, leb-true, leb-false}
use Rattle.std.proofs.Math.Nat.{pow-zero, pow-succ', two-pow-succ, pow-le-pow_left}
use Rattle.std.proofs.Math.Pow.{pow-lt}
use Rattle.std.proofs.lemmas.Bool.{lt-leb}
use Rattle.code.specs.Code.{N}
use Rattle.code.specs.Messages.{Largest, words_kept_out, largest_power, message_length}
use Rattle.code.proofs.Theorem1.{count_of_one_cell}
use Rattle.code.proofs.Sizes.{count_within_power, four_from_two_cells}

largest_power_lem : (b n : ℕ) → 0 < n → n < 2 ^ suc b → Largest n (largest_power b n)
largest_power_lem zero n l h = record { fits = rw pow-zero l; most = h }
largest_power_lem (suc b) n l h = go (leb (2 ^ suc b) n) refl (largest_power_lem b n l)
  where
    go : (c : Bool) → leb (2 ^ suc b) n ≡ c → (n < 2 ^ suc b → Largest n (largest_power b n)) → Largest n (cond c (suc b) (largest_power b n))
    go true e r = record { fits = leb-true (2 ^ suc b) n e; most = h }
    go false e r = r (leb-false (2 ^ suc b) n e)

no_power_of_0 : (b : ℕ) → largest_power b 0 ≡ 0
no_power_of_0 zero = refl
no_power_of_0 (suc b) = rw (lt-leb (2 ^ suc b) 0 (pow_pos (suc b))) (no_power_of_0 b)

-- q^m is at most 2^(q m).
below_two_power : (q : ℕ) → q < 2 ^ q
below_two_power zero = lit< tt
below_two_power (suc q) = rw two-pow-succ (let r = below_two_power q in omega arith)

power_of_two_power : (q m : ℕ) → (2 ^ q) ^ m ≡ 2 ^ (q * m)
power_of_two_power q zero = rw (pow-zero, mul-zero, pow-zero)
power_of_two_power q (suc m) = rw (pow-succ' (2 ^ q) m, power_of_two_power q m, mul-suc, pow-add) (mul_comm (2 ^ q) (2 ^ (q * m)))

count_in_bits : (q x m : ℕ) → N q x m < 2 ^ suc (q * m)
count_in_bits q x m =
    let fits = le_trans (count_within_power q x m) (rw power_of_two_power at (pow-le-pow_left (le_of_lt (below_two_power q)) m)) in
    lt_of_le_of_lt fits (pow-lt (le_refl (suc (q * m))))

-- The message length is the largest s with 2^s at most N(m) - 2, where N(m) - 2 is not 0.
pub length_is_largest : (q x m : ℕ) → words_kept_out < N q x m → Largest (N q x m - words_kept_out) (message_length q x m)
unfolding message_length
length_is_largest q x m l = largest_power_lem (q * m) _ (omega arith) (lt_of_le_of_lt (sub-le _ 2) (count_in_bits q x m))

-- The words of the indices 1 to 2^s stand before the word of all top, whose index is N(m) - 1.
pub carrying_before_tops : (q x m : ℕ) → words_kept_out < N q x m → 2 ^ message_length q x m < N q x m - 1
carrying_before_tops q x m l = let f = (length_is_largest q x m l).fits in omega arith

no_length : (q x m : ℕ) → N q x m ≤ words_kept_out → message_length q x m ≡ 0
unfolding message_length
no_length q x m l = rw (sub-eq-zero_of_le l) (no_power_of_0 (q * m))

-- It is at least 1 exactly where N(m) is at least 4.
pub length_positive : (q x m : ℕ) → (1 ≤ message_length q x m) ↔ (4 ≤ N q x m)
length_positive q x m = (λ h. up h (leb 3 (N q x m)) refl, λ h. down h (message_length q x m) refl)
  where
    up : 1 ≤ message_length q x m → (b : Bool) → leb 3 (N q x m) ≡ b → 4 ≤ N q x m
    up h true e =
        let f = (length_is_largest q x m (leb-true 3 (N q x m) e)).fits in
        let two = pow_mono h in
        omega arith
    up h false e = let l = leb-false 3 (N q x m) e in let z = no_length q x m (omega arith) in absurd (omega arith)

    down : 4 ≤ N q x m → (s : ℕ) → message_length q x m ≡ s → 1 ≤ message_length q x m
    down h zero e = let f = rw e at (length_is_largest q x m (omega arith)).most in absurd (omega arith)
    down h (suc s) e = omega arith

-- It is 0 for m = 1 with q at most 3, and nowhere else.
pub length_zero : (q x m : ℕ) → 1 < q → 0 < m → (message_length q x m ≡ 0) ↔ ((m ≡ 1) × (q ≤ 3))
length_zero q x zero l h = absurd (omega arith)
length_zero q x (suc zero) l h =
    let p = length_positive q x 1 in
    let n = count_of_one_cell q x (omega arith) in (
      λ z. (refl, let below = lt_of_not-le (λ (four : 4 ≤ q). let s = p.1 (rw n four) in omega arith) in omega arith),
      λ r. let below = lt_of_not-le (λ (one : 1 ≤ message_length q x 1). let four = p.0 one in let three = r.1 in omega arith) in omega arith,
    )
length_zero q x (suc (suc m)) l h =
    let p = (length_positive q x (suc (suc m))).1 (four_from_two_cells q x m l) in (λ z. absurd (omega arith), λ r. absurd (omega arith))
