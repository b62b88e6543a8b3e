-- Laws of replies: which of two tests decides, where a profile that is not refused lies, and the first place at which a test holds.
use Rattle.std.specs.Prelude.{◌≡◌, refl, Bool, true, false, cond, ◌||◌, ℕ, zero, suc, ◌+◌, ◌≤◌, ◌<◌, ltb}
use Rattle.std.proofs.Common.{◌∙◌, sym, true≢false, ⊎_elim, eq-or-lt_of_le, arith, ltb-false, le-ltb, eqb-true, eq-eqb, ne_eqb}
use Rattle.replies.specs.declared.Reply.{Reply}
use Rattle.replies.specs.declared.Profile.{Profile}
use Rattle.replies.specs.Replies.{done, is_done, refused, refused_if, refused_from, refused_at_first, or_else, outside_refusal, profile_refusal, room_refusal}
use Rattle.replies.specs.Ranges.{Between, InRange}

-- A first reply that refuses decides; one that is done leaves it to the second.
pub decides : (r a b : Reply) → r ≡ a → (r.number ≡ 0 → ⊥) → r ≡ or_else a b
unfolding or_else
decides r a b e n = rw (← e, ne_eqb r.number 0 n)

pub leaves : (r s a b : Reply) → r ≡ a → r.number ≡ 0 → s ≡ b → s ≡ or_else a b
unfolding or_else
leaves r s a b e z f = rw (← e, eq-eqb r.number 0 z) f

-- Where both together are done, each is.
pub record BothDone (a b : Reply) : Type 0 where
  pub first : a.number ≡ 0
  pub second : b.number ≡ 0

pub both_done : (a b : Reply) → (or_else a b).number ≡ 0 → BothDone a b
unfolding or_else
both_done a b = go (is_done a) refl
  where
    go : (t : Bool) → is_done a ≡ t → (cond t b a).number ≡ 0 → BothDone a b
    go true s e = record { first = eqb-true a.number 0 s; second = e }
    go false s e = absurd (true≢false (sym (eq-eqb a.number 0 e) ∙ s))

-- A test that does not refuse has failed.
pub test_failed : (test : Bool) (number : ℕ) → (refused_if test (suc number)).number ≡ 0 → test ≡ false
test_failed true number e = absurd (omega arith)
test_failed false number e = refl

-- What is not refused lies from low to high.
pub in_range_lem : (low high n number : ℕ) {r : Reply} → r ≡ outside_refusal low high n (suc number) → r.number ≡ 0 → Between low high n
unfolding outside_refusal
in_range_lem low high n number e none = go (ltb n low) (ltb high n) refl refl (test_failed (ltb n low || ltb high n) number (rw e at none))
  where
    go : (a b : Bool) → ltb n low ≡ a → ltb high n ≡ b → (a || b) ≡ false → Between low high n
    go false false s t f = record { least = ltb-false n low s; most = ltb-false high n t }
    go true b s t f = absurd (true≢false f)
    go false true s t f = absurd (true≢false f)

-- A profile that is not refused lies in the range of document 01.
pub profile_in_range : (p : Profile) {r : Reply} → r ≡ profile_refusal p → r.number ≡ 0 → InRange p
unfolding profile_refusal
profile_in_range p e none =
    let a = both_done _ _ (rw e at none) in
    let b = both_done _ _ a.second in
    record {
      levels = in_range_lem 2 32 p.q 0 refl a.first;
      length = in_range_lem 1 128 p.m 1 refl b.first;
      reach = in_range_lem 1 8 p.x 2 refl b.second;
    }

-- And one that lies in it is not refused.
between_not_refused : (low high n number : ℕ) → Between low high n → outside_refusal low high n number ≡ done
unfolding outside_refusal
between_not_refused low high n number b = rw (le-ltb n low b.least, le-ltb high n b.most)

pub range_not_refused : (p : Profile) → InRange p → profile_refusal p ≡ done
unfolding profile_refusal or_else
range_not_refused p range =
    rw (
      between_not_refused 2 32 p.q 1 range.levels,
      between_not_refused 1 128 p.m 2 range.length,
      between_not_refused 1 8 p.x 3 range.reach,
    )

-- An output is not refused where it has room, and only there.
pub room_enough : (needed lent : ℕ) → needed ≤ lent → room_refusal needed lent ≡ done
unfolding room_refusal
room_enough needed lent l = rw (le-ltb lent needed l)

pub has_room : (needed lent : ℕ) → (room_refusal needed lent).number ≡ 0 → needed ≤ lent
unfolding room_refusal
has_room needed lent e = ltb-false lent needed (test_failed _ 8 e)

-- A test that holds at none of the places from `place` to below `end`.
abbrev pub Nowhere : (ℕ → Bool) → ℕ → ℕ → Type 0
Nowhere test place end = (k : ℕ) → place ≤ k → k < end → test k ≡ false

first_from : (place : ℕ) (test : ℕ → Bool) (n number i : ℕ) → place ≤ i → i < place + n → Nowhere test place i → test i ≡ true
    → refused_from place test n number ≡ refused number i
first_from place test zero number i l h b t = absurd (omega arith)
first_from place test (suc n) number i l h b t = ⊎_elim
    (λ (s : place ≡ i). rw (s, t))
    (λ (s : place < i). rw (b place (omega arith) s) (first_from (suc place) test n number i s (omega arith) (λ k j. b k (omega arith)) t))
    (eq-or-lt_of_le l)

none_from : (place : ℕ) (test : ℕ → Bool) (n number : ℕ) → Nowhere test place (place + n) → refused_from place test n number ≡ done
none_from place test zero number b = refl
none_from place test (suc n) number b =
    rw (b place (omega arith) (omega arith)) (none_from (suc place) test n number (λ k l h. b k (omega arith) (omega arith)))

done_from : (place : ℕ) (test : ℕ → Bool) (n number : ℕ) → (refused_from place test n (suc number)).number ≡ 0 → Nowhere test place (place + n)
done_from place test zero number e k l h = absurd (omega arith)
done_from place test (suc n) number e k l h = go (test place) refl (λ d. done_from (suc place) test n number d k) e
  where
    go : (b : Bool) → test place ≡ b → ((refused_from (suc place) test n (suc number)).number ≡ 0 → suc place ≤ k → k < suc place + n → test k ≡ false)
        → (cond b (refused (suc number) place) (refused_from (suc place) test n (suc number))).number ≡ 0 → test k ≡ false
    go true s more d = absurd (omega arith)
    go false s more d = ⊎_elim (λ (j : place ≡ k). rw (← j) s) (λ (j : place < k). more d j (omega arith)) (eq-or-lt_of_le l)

-- Refused at the first place at which the test holds; done where it holds at none, and only there.
pub first_refused : (test : ℕ → Bool) (n number i : ℕ) → Nowhere test 0 i → test i ≡ true → i < n → refused_at_first test n number ≡ refused number i
unfolding refused_at_first
first_refused test n number i b t l = first_from 0 test n number i (omega arith) (omega arith) b t

pub none_refused : (test : ℕ → Bool) (n number : ℕ) → Nowhere test 0 n → refused_at_first test n number ≡ done
unfolding refused_at_first
none_refused test n number b = none_from 0 test n number (λ k l h. b k l (omega arith))

pub holds_nowhere : (test : ℕ → Bool) (n number : ℕ) → (refused_at_first test n (suc number)).number ≡ 0 → Nowhere test 0 n
unfolding refused_at_first
holds_nowhere test n number e k l h = done_from 0 test n number e k l (omega arith)
