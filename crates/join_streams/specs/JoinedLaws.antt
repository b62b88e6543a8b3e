-- Laws of writing two streams joined: how long the joined stream is, and what copying both and writing the bridge leaves.
use Rattle.std.specs.Prelude.{◌≡◌, Bool, true, false, cond, ◌||◌, ℕ, zero, suc, ◌+◌, ◌-◌, ◌≤◌, ◌<◌, eqb, length, take, drop, get_or}
use Rattle.std.proofs.Math.Path.{refl, sym}
use borrow.Rule.Slice.PartMut.{put_mid}
use Rattle.std.proofs.Common.{◌∙◌, drop-drop, length-append, length-drop, length-take-le, ne_eqb}
use mathlib.Core.List.{List, [], ◌∷◌, ◌++◌, append_assoc, append-nil}
use native.Mathlib.Omega.{arith}
use Rattle.std.proofs.lemmas.List.{length-replicate}
use Rattle.patterns.specs.Pattern.{Patterns}
use Rattle.patterns.specs.Stream.{bridge, joined}
use Rattle.streams.specs.BesideLaws.{cells_behind, bridge_between}

-- How many bridge cells stand between streams of a and b cells: the reach where both have cells.
abbrev pub cells_between : ℕ → ℕ → ℕ → ℕ
cells_between reach a b = cond (eqb a 0 || eqb b 0) 0 reach

some_between : (reach a b : ℕ) → cells_between reach (suc a) (suc b) ≡ reach
some_between reach a b = rw (ne_eqb (suc a) 0 (omega arith), ne_eqb (suc b) 0 (omega arith))

none_between : (reach a : ℕ) → cells_between reach (suc a) 0 ≡ 0
none_between reach a = rw (ne_eqb (suc a) 0 (omega arith))

-- They are at most the reach.
pub between_most : (reach a b : ℕ) → cells_between reach a b ≤ reach
between_most reach a b = go (eqb a 0 || eqb b 0)
  where
    go : (none : Bool) → cond none 0 reach ≤ reach
    go true = omega arith
    go false = omega arith

module _ (S : Patterns) where
  -- The joined stream has the cells of both and of the bridge.
  pub joined_length : (a b : List ℕ) → length (joined S a b) ≡ length a + cells_between S.reach (length a) (length b) + length b
  unfolding joined bridge
  joined_length [] b = omega arith
  joined_length (c ∷ a) [] = omega (arith, none_between S.reach (length a))
  joined_length (c ∷ a) (d ∷ b) = rw some_between (simp (length-append, length-replicate) (omega arith))

  -- Where there are cells between the two, both have cells; ..
  pub record Bridged (a b between : ℕ) : Type 0 where
    pub first : 0 < a
    pub second : 0 < b
    pub apart : between ≡ S.reach

  pub bridged : (a b : ℕ) {between : ℕ} → between ≡ cells_between S.reach a b → (between ≡ 0 → ⊥) → Bridged a b between
  bridged zero b e n = absurd (n e)
  bridged (suc a) zero e n = absurd (n (e ∙ none_between S.reach a))
  bridged (suc a) (suc b) e n = record { first = omega arith; second = omega arith; apart = e ∙ some_between S.reach a b }

  -- .. else one of them has none.
  joined_apart : (a b : List ℕ) → 0 < S.reach → cells_between S.reach (length a) (length b) ≡ 0 → joined S a b ≡ a ++ b
  unfolding joined
  joined_apart [] b some none = refl
  joined_apart (c ∷ a) [] some none = sym (append-nil (c ∷ a))
  joined_apart (c ∷ a) (d ∷ b) some none = absurd (omega (arith, some_between S.reach (length a) (length b)))

  -- The second is written behind the first and the bridge.
  pub behind_first : (a b : List ℕ) {count : ℕ} → count ≡ length (joined S a b) → count ≡ length a + cells_between S.reach (length a) (length b) + length b
  behind_first a b e = e ∙ joined_length a b

  -- Both streams copied to the front of a lent list, so many cells apart as the bridge has.
  module _ (a b lent : List ℕ) {count : ℕ} (same : count ≡ length (joined S a b)) {one two : List ℕ}
      (copied-first : one ≡ a) (copied-second : two ≡ b) where
    abbrev pub written : List ℕ
    written = put_mid (count - length b) (count - (count - length b)) (one ++ drop (length a) lent) two

    both_copied : written ≡ a ++ (take (cells_between S.reach (length a) (length b)) (drop (length a) lent) ++ (b ++ drop count lent))
    both_copied =
        let between = cells_between S.reach (length a) (length b) in
        let all = behind_first a b same in
        let behind : count - length b ≡ length a + between = omega arith in
        let long : count - (length a + between) ≡ length b = omega arith in
        rw (behind, long, copied-first, copied-second, drop-drop (length b) (length a + between) (a ++ drop (length a) lent), all)
        (cells_behind a b lent between refl)

    -- Where there is no bridge, that is the joined stream.
    pub without_bridge : 0 < S.reach → count - length b ≤ length a → written ≡ joined S a b ++ drop (length (joined S a b)) lent
    without_bridge some none =
        let all = behind_first a b same in
        let gone : cells_between S.reach (length a) (length b) ≡ 0 = omega arith in
        both_copied ∙ rw (same, joined_apart a b some gone, gone, append_assoc)

    -- Else the bridge is written, by the cells beside it.
    pub with_bridge : length a < count - length b → length (joined S a b) ≤ length lent → {after : List ℕ}
        → after ≡ take (length a) written ++ (bridge S (get_or written (length a - 1) 0) (get_or written (length a + S.reach) 0) ++ drop (length a + S.reach) written)
        → after ≡ joined S a b ++ drop (length (joined S a b)) lent
    with_bridge some room e =
        let all = behind_first a b same in
        let between = cells_between S.reach (length a) (length b) in
        let gap = take between (drop (length a) lent) in
        let both = bridged (length a) (length b) refl (λ none. omega arith) in
        let wide : length gap ≡ between = length-take-le between (drop (length a) lent) (rw length-drop (omega arith)) in
        rw both_copied at e ∙ bridge_between S a b gap (drop count lent) both.first both.second (wide ∙ both.apart) ∙ rw same
