-- Laws of bits and limbs: the limbs of the number of bits, and the bits of a limb of a number.
use Rattle.std.specs.Prelude.{◌≡◌, refl, Bool, true, false, List, ℕ, suc, min, ◌+◌, ◌-◌, ◌*◌, ◌/◌, ◌%◌, ◌^◌, ◌≤◌, ◌<◌, ltb, length, get_or, set, take, drop}
use Rattle.std.proofs.Common.{sym, ap, ◌∙◌, zero-add, add-zero, mul-one, add_comm, mul_comm, mul_assoc, pow-suc, mod-eq_of_lt, lt_of_lt_of_le, div-one, add-one, arith, ltb-true, ltb-false, length-take, length-drop, length-set, take-append-drop, pow-add, pow_mono, drop-drop, drop-cons, get_or-take}
use Rattle.std.proofs.Math.Nat.{pow-zero, sub_self, div-eq_of_lt, add-mul-div_left, div-div-eq-div-mul}
use Rattle.std.proofs.Math.Arith.{digits_div, digits_mod}
use Rattle.std.proofs.lemmas.List.{set_at}
use Rattle.std.proofs.Math.Seq.{append_snoc}
use Rattle.limbs.specs.Limbs.{base, AllLimbs, value, limbs_of, number_at, holding}
use Rattle.limbs.specs.ValueLaws.{base_positive, power_positive, length-limbs_of, limbs_of_more, value-append, value_below, power_above}
use Rattle.bits.specs.Bits.{bits_of, number_of, bits_of_bytes, with_bits}
use Rattle.bits.specs.BitLaws.{AllBits, take_below, drop_bits, number_of-take_below, number_of-take_more, bits_of_above, length-bits_of_bytes, bits_of_bytes_bits}
use Rattle.bits.specs.MovingLaws.{number_from, Written, written_more}

-- One limb more of a number is held.
holding_more : (i v : ℕ) (l : List ℕ) → i < length l → set (holding i v l) i (v / base ^ i % base) ≡ holding (i + 1) v l
unfolding holding
holding_more i v l inside =
    rw (
      add-one,
      drop-cons l i 0,
      set_at (limbs_of i v) (get_or l i 0) (drop (suc i) l) (v / base ^ i % base) i (length-limbs_of i v),
      limbs_of_more,
      append_snoc,
    )

-- The lowest limb of the number of bits is that of the last 64, or of all where there are fewer; what stands above it is the number of the bits before those.
record LowestLimb (bits : List ℕ) (left k : ℕ) : Type 0 where
  limb : number_of (take left bits) % base ≡ number_of (take k (drop (left - k) bits))
  above : number_of (take left bits) / base ≡ number_of (take (left - k) bits)

lowest_of_few : (bits : List ℕ) (left : ℕ) → AllBits bits → left ≤ 64 → LowestLimb bits left left
unfolding number_of
lowest_of_few bits left all few =
    let small = lt_of_lt_of_le (number_of-take_below left bits all) (pow_mono {i = left} {j = 64} few) in
    record { limb = rw sub_self (mod-eq_of_lt small); above = rw sub_self (div-eq_of_lt small) }

lowest_of_many : (bits : List ℕ) (left : ℕ) → AllBits bits → 64 ≤ left → left ≤ length bits → LowestLimb bits left 64
lowest_of_many bits left all many inside =
    let whole : left - 64 + 64 ≡ left = omega arith in
    let split = rw whole at (number_of-take_more bits (left - 64) 64 (omega arith)) in
    let small = number_of-take_below 64 (drop (left - 64) bits) (drop_bits (left - 64) bits all) in
    record { limb = rw split (digits_mod _ small); above = rw split (digits_div _ small) }

lowest_limb : (bits : List ℕ) (left k : ℕ) → AllBits bits → left ≤ length bits → k ≡ min 64 left → LowestLimb bits left k
lowest_limb bits left k all inside least = go (ltb left 64) refl
  where
    go : (t : Bool) → ltb left 64 ≡ t → LowestLimb bits left k
    go true e =
        let h = ltb-true left 64 e in
        let few : k ≡ left = omega arith in
        rw few (lowest_of_few bits left all (omega arith))
    go false e =
        let h = ltb-false left 64 e in
        let many : k ≡ 64 = omega arith in
        rw many (lowest_of_many bits left all h inside)

-- A loop that has read the i lowest limbs of the number of s bits from bit place `at` on: what stands above them is the number of the first `left` bits.
pub record LimbsRead (bytes : List ℕ) (at s i left : ℕ) (before now : List ℕ) : Type 0 where
  pub held : now ≡ holding i (number_from bytes at s) before
  pub above : number_from bytes at s / base ^ i ≡ number_from bytes at left
  pub long : length now ≡ length before

-- Where the loop begins, all bits are left.
pub limbs_read_none : (bytes : List ℕ) (at s : ℕ) (before : List ℕ) → LimbsRead bytes at s 0 s before before
unfolding holding limbs_of
limbs_read_none bytes at s before = record { held = refl; above = div-one (number_from bytes at s); long = refl }

-- One limb more: the number of the last 64 bits that are left, or of all where there are fewer.
pub limbs_read_more : {bytes : List ℕ} {at s i left : ℕ} {before now : List ℕ} → LimbsRead bytes at s i left before now
    → {k : ℕ} → k ≡ min 64 left → {limb : ℕ} → limb ≡ number_from bytes (at + (left - k)) k
    → at + left ≤ 8 * length bytes → i < length before
    → LimbsRead bytes at s (i + 1) (left - k) before (set now i limb)
limbs_read_more {bytes} {at} {s} {i} {left} {before} {now} so {k} least {limb} read inside room =
    let enough : left ≤ length (drop at (bits_of_bytes bytes)) = rw (length-drop, length-bits_of_bytes) (omega arith) in
    let lowest = lowest_limb (drop at (bits_of_bytes bytes)) left k (drop_bits at (bits_of_bytes bytes) (bits_of_bytes_bits bytes)) enough least in
    let same : limb ≡ number_from bytes at s / base ^ i % base = read ∙ rw (so.above, lowest.limb, drop-drop) in
    record {
      held = rw (so.held, same) (holding_more i (number_from bytes at s) before room);
      above = rw (add-one, pow-suc base i, ← (div-div-eq-div-mul (number_from bytes at s) (base ^ i) base), so.above) lowest.above;
      long = length-set now i limb ∙ so.long;
    }

-- A limb has 64 bits: the powers of the base are powers of 2.
power_of_base : (j : ℕ) → base ^ j ≡ 2 ^ (64 * j)
power_of_base j = sym (rw (add-zero, pow-zero, mul-one) at (power_above 64 j 0))

-- What stands above the j lowest limbs of a list.
value_above : (l : List ℕ) (j : ℕ) → AllLimbs l → j ≤ length l → value l / base ^ j ≡ value (drop j l)
value_above l j all inside =
    let long : length (take j l) ≡ j = rw length-take (omega arith) in
    let split : value l ≡ value (take j l) + base ^ j * value (drop j l) = ap value (sym (take-append-drop j l)) ∙ rw long at (value-append (take j l) (drop j l)) in
    let small : value (take j l) < base ^ j = rw long at (value_below (take j l) (take_below base j l base_positive all)) in
    rw (split, add-mul-div_left (value (take j l)) (value (drop j l)) (power_positive j), div-eq_of_lt small, zero-add)

-- The k lowest bits of a limb are not touched by the limbs above it.
bits_of_limb : (k x w : ℕ) → k ≤ 64 → bits_of k (x + base * w) ≡ bits_of k x
bits_of_limb k x w small =
    let whole : 64 - k + k ≡ 64 = omega arith in
    let power : base ≡ 2 ^ (64 - k) * 2 ^ k = rw whole at (pow-add 2 (64 - k) k) in
    let above : x + base * w ≡ w * 2 ^ (64 - k) * 2 ^ k + x = rw (power, mul_comm (2 ^ (64 - k) * 2 ^ k) w, mul_assoc) (add_comm x _) in
    rw (above, bits_of_above)

-- The k lowest bits of the limb j of a number.
bits_of_row_limb : (n : ℕ) (l : List ℕ) (j k : ℕ) → AllLimbs l → n ≤ length l → j < n → k ≤ 64 → bits_of k (get_or l j 0) ≡ bits_of k (number_at n l 0 / 2 ^ (64 * j))
unfolding number_at value
bits_of_row_limb n l j k all inside below small =
    let long : length (take n l) ≡ n = rw length-take (omega arith) in
    rw (
      ← (power_of_base j),
      value_above (take n l) j (take_below base n l base_positive all) (omega arith),
      drop-cons (take n l) j 0 (omega arith),
      bits_of_limb k (get_or (take n l) j 0) (value (drop (suc j) (take n l))) small,
      get_or-take n l j 0 below,
    )

-- A loop that writes the bits of a number has written those of one limb more.
pub written_limb : (m : ℕ) (l : List ℕ) {n at done : ℕ} {before now : List ℕ} → Written n (number_at m l 0) at done before now
    → (i k : ℕ) {now' : List ℕ} → now' ≡ with_bits (at + done) (bits_of k (get_or l i 0)) now
    → n - done - k ≡ 64 * i → AllLimbs l → m ≤ length l → i < m → k ≤ 64 → done + k ≤ n → at + n ≤ 8 * length before
    → Written n (number_at m l 0) at (done + k) before now'
written_limb m l w i k wrote below all room one small few inside =
    written_more w k (64 * i) _ (wrote ∙ rw (bits_of_row_limb m l i k all room one small)) (λ _. refl) (omega arith) inside
