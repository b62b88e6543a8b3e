-- Settling the leftmost level by its weight: the level is how often the weight goes into the index, at most up to top.
use Rattle.std.specs.Prelude.{◌≡◌, Bool, cond, leb}
use Rattle.std.proofs.Math.Path.{refl, ap, fun_ext}
use Rattle.std.proofs.Common.{ap₂, ◌∙◌, ⊎_elim, zero-add, zero-mul, suc-mul, eq-or-lt_of_le, arith, lt-ltb, le-ltb}
use Rattle.std.proofs.Math.Bool.{true, false}
use mathlib.Core.List.{List, ◌∷◌}
use Prim.Native.Nat.{ℕ, zero, suc, ◌+◌, ◌-◌, ◌*◌, ◌/◌, ◌≤◌, ◌<◌}
use Rattle.std.proofs.Math.Nat.{lt-div-mul-add}
use Rattle.patterns.specs.Walk.{walk, may_stand, guard_after}
use Rattle.listing.specs.Listing.{Settled, settle, levels_from, levels, count_of, behind, word_of}
use Rattle.listing.specs.Sums.{sum_const}
use Rattle.listing.proofs.FirstCell.{count_by_first, count_same, count_none}
use Rattle.code.specs.Code.{below_top}
use Rattle.code.specs.Stretches.{following}
use Rattle.code.proofs.Stretches.{following_low}
use Rattle.division.specs.Division.{times_in}
use Rattle.division.specs.DivisionLaws.{times_few, times_inside}

-- A weight goes k times into an index, at most cap times.
pub record Goes (cap i w k : ℕ) : Type 0 where
  pub within : k * w ≤ i
  pub most : k ≤ cap
  pub last : k < cap → i < suc k * w

-- Once less into what is left when it was taken once.
goes_less : (cap i w k : ℕ) → Goes (suc cap) i w (suc k) → Goes cap (i - w) w k
goes_less cap i w k g = record {
  within = omega (arith, suc-mul k w);
  most = omega arith;
  last = λ l. omega (arith, g.last (omega arith), suc-mul (suc k) w, suc-mul k w);
}

abbrev settled : ℕ → ℕ → Settled
settled level left = record { level = level; left = left }

-- Where as many words begin with each level below top, their number goes into an index as often as its level says.
module _ (count : ℕ → ℕ) (t w : ℕ) (even : (c : ℕ) → c < t → count c ≡ w) where
  settle_here : (n c i : ℕ) → i < count c → settle count (levels_from c (suc n)) i ≡ settled c i
  settle_here n c i l = rw (lt-ltb i (count c) l)

  settle_above : (n c i : ℕ) → count c ≤ i → settle count (levels_from c (suc n)) i ≡ settle count (levels_from (suc c) n) (i - count c)
  settle_above n c i l = rw (le-ltb i (count c) l)

  settle_from : (n c i k : ℕ) → c + n ≡ t → Goes n i w k → i < n * w + count t → settle count (levels_from c (suc n)) i ≡ settled (c + k) (i - k * w)
  settle_from zero c i k e g l =
      let top : c ≡ t = omega arith in
      let none : k ≡ 0 = omega arith in
      let below : i < count c = rw top (omega (arith, zero-mul w)) in
      settle_here 0 c i below ∙ rw (none, zero-mul) (ap₂ settled (omega arith) (omega arith))
  settle_from (suc n) c i zero e g l =
      let below : i < w = omega (arith, g.last (omega arith), suc-mul 0 w, zero-mul w) in
      settle_here (suc n) c i (rw (even c (omega arith)) below) ∙ rw zero-mul (ap₂ settled (omega arith) (omega arith))
  settle_from (suc n) c i (suc k) e g l =
      let has = even c (omega arith) in
      let takes = suc-mul k w in
      let on = settle_from n (suc c) (i - w) k (omega arith) (goes_less n i w k g) (omega (arith, suc-mul n w)) in
      let next : settle count (levels_from (suc c) (suc n)) (i - count c) ≡ settled (suc c + k) (i - w - k * w) = rw has on in
      settle_above (suc n) c i (rw has (omega arith)) ∙ next ∙ ap₂ settled (omega arith) (omega arith)

  settle_levels : (i k : ℕ) → Goes t i w k → i < t * w + count t → settle count (levels (suc t)) i ≡ settled k (i - k * w)
  settle_levels i k g l = rw (zero-add k) at (settle_from t 0 i k (zero-add t) g l)

  -- What is left is below the number of words that begin with the level.
  left_below : (i k : ℕ) → Goes t i w k → i < t * w + count t → i - k * w < count k
  left_below i k g l = ⊎_elim
      (λ (e : k ≡ t). rw e (let f = g.within in omega (arith, rw e at f)))
      (λ (h : k < t). rw (even k h) (let f = g.last h in omega (arith, suc-mul k w)))
      (eq-or-lt_of_le g.most)

-- One cell where the guard is g, with n cells behind it, at an index below the number of words that may follow.
module _ (t x g n i k : ℕ) (goes : Goes t i (following t x (g - 1) n) k) (below : i < following t x g (suc n)) where
  abbrev weight : ℕ
  weight = following t x (g - 1) n

  abbrev beginning : ℕ → ℕ
  beginning c = count_of (suc t) (behind c (walk (below_top t x) g)) n

  even : (c : ℕ) → c < t → beginning c ≡ weight
  even c l = following_low t x g c n l

  below_all : i < t * weight + beginning t
  unfolding following
  below_all = rw (count_by_first (suc t) (walk (below_top t x) g) n, sum_const beginning weight t even) at below

  left_here : i - k * weight < beginning k
  left_here = left_below beginning t weight even i k goes below_all

  -- The level may stand.
  stands : may_stand (below_top t x) g k ≡ true
  unfolding walk
  stands = go (may_stand (below_top t x) g k) refl
    where
      go : (b : Bool) → may_stand (below_top t x) g k ≡ b → b ≡ true
      go true e = refl
      go false e =
          let none : beginning k ≡ 0 = count_same (suc t) _ (λ v. false) n (λ v. rw e) ∙ count_none (suc t) n in
          let l = left_here in
          absurd (omega arith)

  -- So what follows it is what may follow where the guard is the one behind it.
  behind_level : behind k (walk (below_top t x) g) ≡ walk (below_top t x) (guard_after (below_top t x) g k)
  unfolding walk
  behind_level = fun_ext (λ v. rw stands)

  -- The level is the first cell, and the rest is the shorter task at what is left.
  pub level_first : word_of (suc t) (walk (below_top t x) g) (suc n) i
      ≡ k ∷ word_of (suc t) (walk (below_top t x) (guard_after (below_top t x) g k)) n (i - k * weight)
  unfolding word_of
  level_first =
      ap (λ (s : Settled). s.level ∷ word_of (suc t) (behind s.level (walk (below_top t x) g)) n s.left)
      (settle_levels beginning t weight even i k goes below_all)
      ∙ ap (λ (p : List ℕ → Bool). k ∷ word_of (suc t) p n (i - k * weight)) behind_level

  -- What is left is below the number of words that may follow behind the level.
  pub left_follows : i - k * weight < following t x (guard_after (below_top t x) g k) n
  unfolding following
  left_follows = rw behind_level at left_here

-- The times that a weight goes into an index are those of the division.
pub times_go : (cap i w : ℕ) → 0 < w → Goes cap i w (times_in cap i w)
unfolding times_in
times_go cap i w l = record { within = times_inside cap i w l; most = times_few cap i w; last = go (leb (i / w) cap) }
  where
    go : (b : Bool) → cond b (i / w) cap < cap → i < suc (cond b (i / w) cap) * w
    go true h = rw suc-mul (lt-div-mul-add l)
    go false h = absurd (omega arith)
