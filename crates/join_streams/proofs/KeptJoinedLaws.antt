-- Laws that stood in specs/JoinedLaws, which no proof rests on now.
use Rattle.std.specs.Prelude.{◌≡◌, ℕ, suc, ◌+◌, ◌-◌, ◌≤◌, ◌<◌, length, take, drop, get_or}
use Rattle.std.proofs.Math.Path.{refl, sym}
use Rattle.std.proofs.Common.{◌∙◌, zero-add, length-drop, length-take-le, ne_eqb}
use mathlib.Core.List.{List, [], ◌∷◌, ◌++◌, append_assoc, append-nil}
use native.Mathlib.Omega.{arith}
use Rattle.patterns.specs.Pattern.{Patterns}
use Rattle.patterns.specs.Stream.{bridge, joined}
use Rattle.streams.specs.BesideLaws.{cells_behind, bridge_between}
use Rattle.join_streams.specs.JoinedLaws.{cells_between, joined_length, bridged}

some_between : (reach a b : ℕ) → cells_between reach (suc a) (suc b) ≡ reach
some_between reach a b = rw (ne_eqb (suc a) 0 (omega arith), ne_eqb (suc b) 0 (omega arith))

module _ (S : Patterns) where
  -- So many are counted where so many cells stand between the two.
  pub joined_count : (a b : List ℕ) {between : ℕ} → between ≡ cells_between S.reach (length a) (length b)
      → length a + between + length b ≡ length (joined S a b)
  joined_count a b e = rw (e, joined_length S a b)

  -- .. else one of them has none.
  joined_apart : (a b : List ℕ) → 0 < S.reach → cells_between S.reach (length a) (length b) ≡ 0 → joined S a b ≡ a ++ b
  unfolding joined
  joined_apart [] b some none = refl
  joined_apart (c ∷ a) [] some none = sym (append-nil (c ∷ a))
  joined_apart (c ∷ a) (d ∷ b) some none = absurd (omega (arith, some_between S.reach (length a) (length b)))

  -- Both streams copied to the front of a lent list, so many cells apart as the bridge has.
  module _ (a b lent : List ℕ) {between : ℕ} (apart : between ≡ cells_between S.reach (length a) (length b)) {one two : List ℕ}
      (copied-first : one ≡ take 0 lent ++ (a ++ drop (0 + length a) lent))
      (copied-second : two ≡ take (length a + between) one ++ (b ++ drop (length a + between + length b) one)) where
    both_copied : two ≡ a ++ (take between (drop (length a) lent) ++ (b ++ drop (length a + between + length b) lent))
    both_copied = copied-second ∙ cells_behind a b lent between (rw zero-add at copied-first)

    -- Where there is no bridge, that is the joined stream.
    pub without_bridge : 0 < S.reach → between ≡ 0 → two ≡ joined S a b ++ drop (length (joined S a b)) lent
    without_bridge some none =
        both_copied ∙ rw (← joined_count a b apart, joined_apart a b some (sym apart ∙ none), append_assoc, none)

    -- Else the bridge is written, by the cells beside it.
    pub with_bridge : (between ≡ 0 → ⊥) → length (joined S a b) ≤ length lent → {after : List ℕ}
        → after ≡ take (length a) two ++ (bridge S (get_or two (length a - 1) 0) (get_or two (length a + S.reach) 0) ++ drop (length a + S.reach) two)
        → after ≡ joined S a b ++ drop (length (joined S a b)) lent
    with_bridge some room e =
        let gap = take between (drop (length a) lent) in
        let rest = drop (length a + between + length b) lent in
        let both = bridged S (length a) (length b) apart some in
        let long = joined_count a b apart in
        let wide : length gap ≡ between = length-take-le between (drop (length a) lent) (rw length-drop (omega arith)) in
        rw both_copied at e ∙ bridge_between S a b gap rest both.first both.second (wide ∙ both.apart) ∙ rw long
