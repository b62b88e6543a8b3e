-- Laws of bits moved in parts: those to the end of a byte begun, whole bytes, and those left.
use Rattle.std.specs.Prelude.{◌≡◌, refl, Bool, true, false, List, ℕ, min, ◌+◌, ◌-◌, ◌*◌, ◌/◌, ◌%◌, ◌^◌, ◌≤◌, ◌<◌, ltb, length}
use Rattle.std.proofs.Common.{ap, sub-add_cancel, arith, ltb-true, ltb-false}
use Rattle.bits.specs.Bits.{bits_of, with_bits}
use Rattle.bits.specs.MovingLaws.{number_from, Gathered, gathered_first, gathered_more, Written, written_none, written_more}

-- k bits from bit place `at` on are as many as end the byte begun, n whole bytes, and some left that lie in one byte.
pub record Parts (at k begun n left : ℕ) : Type 0 where
  pub whole : k ≡ begun + (8 * n + left)
  pub aligned : 0 < 8 * n → 8 * ((at + begun) / 8) ≡ at + begun
  pub last : (at + k - left) % 8 + left ≤ 8
  pub end : at + k - left + left ≡ at + k

-- Bits left behind whole bytes lie in one byte.
left_in_byte : (at k begun q n left : ℕ) → 8 * q ≡ at + begun → k ≡ begun + (8 * n + left) → left < 8 → (at + k - left) % 8 + left ≤ 8
left_in_byte at k begun q n left start whole few =
    let place : at + k - left ≡ 8 * (q + n) = omega arith in
    rw place (omega arith)

-- So they are where those that end the byte begun are taken first.
pub in_parts : (at k begun : ℕ) → begun ≡ min ((8 - at % 8) % 8) k → Parts at k begun ((k - begun) / 8) ((k - begun) % 8)
in_parts at k begun least = go (ltb k ((8 - at % 8) % 8)) refl
  where
    go : (t : Bool) → ltb k ((8 - at % 8) % 8) ≡ t → Parts at k begun ((k - begun) / 8) ((k - begun) % 8)
    go true e =
        let few = ltb-true k ((8 - at % 8) % 8) e in
        let none : k - begun ≡ 0 = omega arith in
        record { whole = omega arith; aligned = λ some. omega arith; last = rw none (omega arith); end = omega arith }
    go false e =
        let many = ltb-false k ((8 - at % 8) % 8) e in
        let start : 8 * ((at + begun) / 8) ≡ at + begun = omega arith in
        let whole : k ≡ begun + (8 * ((k - begun) / 8) + (k - begun) % 8) = omega arith in
        let last = left_in_byte at k begun ((at + begun) / 8) ((k - begun) / 8) ((k - begun) % 8) start whole (omega arith) in
        record { whole = whole; aligned = λ some. start; last = last; end = sub-add_cancel (omega arith) }

-- The number of all k bits, read in parts.
pub gathered_parts : {bytes : List ℕ} {at k begun n left : ℕ} → Parts at k begun n left → at + k ≤ 8 * length bytes
    → {front number piece : ℕ} → front ≡ number_from bytes at begun
    → number ≡ front * 2 ^ (8 * n) + number_from bytes (8 * ((at + begun) / 8)) (8 * n)
    → piece ≡ number_from bytes (at + k - left) left
    → Gathered 0 bytes at k (number * 2 ^ left + piece)
gathered_parts {bytes} {at} {k} {begun} {n} {left} p inside {front} {number} first bytes_read last =
    let split : begun + 8 * n + left ≡ k = omega arith in
    let whole = gathered_more (gathered_first bytes at begun first) (8 * n) _ bytes_read p.aligned (omega arith) in
    rw split at (gathered_more whole left (at + k - left) (ap (λ (x : ℕ). number * 2 ^ left + x) last) (λ _. omega arith) (omega arith))

-- All k bits, written in parts.
pub written_parts : {limb at k begun n left : ℕ} → Parts at k begun n left → {before now₁ now₂ now₃ : List ℕ} → at + k ≤ 8 * length before
    → now₁ ≡ with_bits at (bits_of begun (limb / 2 ^ (k - begun))) before
    → now₂ ≡ with_bits (8 * ((at + begun) / 8)) (bits_of (8 * n) (limb / 2 ^ left)) now₁
    → now₃ ≡ with_bits (at + k - left) (bits_of left (limb / 2 ^ 0)) now₂
    → Written k limb at k before now₃
written_parts {limb} {at} {k} {begun} {n} {left} p {before} inside first bytes last =
    let split : 0 + begun + 8 * n + left ≡ k = omega arith in
    let front = written_more (written_none k limb at before) begun (k - begun) at first (λ _. omega arith) (omega arith) inside in
    let whole = written_more front (8 * n) left _ bytes (λ some. omega (arith, p.aligned some)) (omega arith) inside in
    rw split at (written_more whole left 0 (at + k - left) last (λ _. omega arith) (omega arith) inside)
