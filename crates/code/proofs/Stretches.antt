-- How many words may follow in an open or a guarded stretch.
use Rattle.std.specs.Prelude.{◌≡◌, refl, Bool, true, false, cond, ◌&&◌, List, ◌∷◌, ℕ, zero, suc, ◌+◌, ◌-◌, ◌*◌, ◌^◌, ◌≤◌, ◌<◌, leb}
use Rattle.std.proofs.Common.{ap, ap₂, ◌∙◌, sym, zero-le, le_refl, add-le-add, mul-le-mul_left, mul_assoc, one-mul, add-zero, sub-one, arith, lt-ltb, le-ltb, ne_eqb, eq-eqb}
use Rattle.std.proofs.Math.Nat.{pow-zero, pow-succ', suc-sub-suc, sub-zero}
use Rattle.std.proofs.Math.Dec.{leb-zero, leb-suc-zero, leb-suc-suc}
use Rattle.patterns.specs.Pattern.{pattern_free}
use Rattle.patterns.specs.Walk.{walk, may_stand, top_may_stand, guard_after}
use Rattle.patterns.proofs.WalkLaws.{top_may_stand_fresh, walk_is-pattern_free}
use Rattle.listing.specs.Listing.{count_of, behind}
use Rattle.listing.specs.Sums.{sum_const}
use Rattle.listing.proofs.FirstCell.{count_by_first, count_same, count_none}
use Rattle.listing.proofs.Order.{count_nil}
use Rattle.code.specs.Code.{below_top, legal, N}
use Rattle.code.specs.Stretches.{following}

walk_cons : (t x g c : ℕ) (w : List ℕ) → walk (below_top t x) g (c ∷ w) ≡ (may_stand (below_top t x) g c && walk (below_top t x) (guard_after (below_top t x) g c) w)
unfolding walk
walk_cons t x g c w = refl

-- Behind a cell below top the guard is one less.
pub walk_low : (t x g c : ℕ) (w : List ℕ) → c < t → walk (below_top t x) g (c ∷ w) ≡ walk (below_top t x) (g - 1) w
walk_low t x g c w l = rw (walk_cons, ne_eqb c t (omega arith), lt-ltb c t l)

-- Behind a top, where it may stand, the guard is whole.
pub walk_top : (t x g : ℕ) (w : List ℕ) → walk (below_top t x) g (t ∷ w) ≡ (top_may_stand (below_top t x) g && walk (below_top t x) (suc x) w)
walk_top t x g w = rw (walk_cons, eq-eqb t t refl)

-- As many words may follow behind any cell below top as where the guard is one less.
pub following_low : (t x g c m : ℕ) → c < t → count_of (suc t) (behind c (walk (below_top t x) g)) m ≡ following t x (g - 1) m
unfolding following
following_low t x g c m l = count_same (suc t) _ _ m (λ w. walk_low t x g c w l)

following_top : (t x g m : ℕ) (b : Bool) → top_may_stand (below_top t x) g ≡ b → count_of (suc t) (behind t (walk (below_top t x) g)) m ≡ cond b (following t x (suc x) m) 0
unfolding following
following_top t x g m true e = count_same (suc t) _ _ m (λ w. walk_top t x g w ∙ rw e)
following_top t x g m false e = count_same (suc t) _ (λ w. false) m (λ w. walk_top t x g w ∙ rw e) ∙ count_none (suc t) m

following_step : (t x g m : ℕ) (b : Bool) → top_may_stand (below_top t x) g ≡ b → following t x g (suc m) ≡ t * following t x (g - 1) m + cond b (following t x (suc x) m) 0
unfolding following
following_step t x g m b e =
    count_by_first (suc t) _ m ∙ ap₂ (λ (u v : ℕ). u + v) (sum_const _ (following t x (g - 1) m) t (λ c l. following_low t x g c m l)) (following_top t x g m b e)

-- One word of no cells may follow.
pub following_none : (t x g : ℕ) → following t x g 0 ≡ 1
unfolding following walk
following_none t x g = count_nil (suc t) _ refl

-- In an open stretch: below top it stays open, a top makes it guarded.
pub following_open : (t x m : ℕ) → following t x 0 (suc m) ≡ t * following t x 0 m + following t x (suc x) m
following_open t x m = following_step t x 0 m true refl

-- In a guarded stretch no top may stand.
pub following_guarded : (t x g m : ℕ) → suc g ≤ x → following t x (suc g) (suc m) ≡ t * following t x g m
following_guarded t x g m l =
    following_step t x (suc g) m false (rw (ne_eqb (suc g) 0 (omega arith), ne_eqb (suc g) (suc x) (omega arith))) ∙ rw (sub-one, add-zero)

-- Just behind a top another may stand.
pub following_fresh : (t x m : ℕ) → following t x (suc x) (suc m) ≡ t * following t x x m + following t x (suc x) m
following_fresh t x m = following_step t x (suc x) m true (top_may_stand_fresh (below_top t x)) ∙ rw sub-one

-- A factor goes into both cases.
pub scaled : (t u v : ℕ) (b : Bool) → t * cond b u v ≡ cond b (t * u) (t * v)
scaled t u v true = refl
scaled t u v false = refl

-- g cells below top, then an open stretch; or only cells below top, where there are fewer than g.
pub following_weight : (t x g m : ℕ) → g ≤ x → following t x g m ≡ cond (leb g m) (t ^ g * following t x 0 (m - g)) (t ^ m)
following_weight t x zero m l = rw (leb-zero, sub-zero, pow-zero, one-mul)
following_weight t x (suc g) zero l = following_none t x (suc g) ∙ rw (leb-suc-zero, pow-zero)
following_weight t x (suc g) (suc m) l =
    following_guarded t x g m l ∙ ap (λ (u : ℕ). t * u) (following_weight t x g m (omega arith)) ∙ scaled t _ _ (leb g m)
    ∙ rw (leb-suc-suc, suc-sub-suc, pow-succ' t g, pow-succ' t m, mul_assoc)

-- A legal word walks through from an open stretch.
pub legal_walks : (t x : ℕ) (w : List ℕ) → walk (below_top t x) 0 w ≡ legal (suc t) x w
unfolding legal
legal_walks t x w =
    walk_is-pattern_free (below_top t x) (le-ltb t t (le_refl t)) w ∙ ap (λ (top : ℕ). pattern_free (below_top top x) w) (sym (sub-one (suc t)))

-- The words that may follow in an open stretch are the legal words.
pub following_legal : (t x m : ℕ) → following t x 0 m ≡ N (suc t) x m
unfolding following N
following_legal t x m = count_same (suc t) _ _ m (legal_walks t x)

-- N(m + 1) without a difference: the words that begin below top, and those that begin with top.
pub count_splits : (t x m : ℕ) → N (suc t) x (suc m) ≡ t * N (suc t) x m + following t x (suc x) m
count_splits t x m = rw (← following_legal t x (suc m), ← following_legal t x m) (following_open t x m)

-- Nowhere may more words follow than in an open stretch.
pub following_most : (t x g m : ℕ) → following t x g m ≤ following t x 0 m
following_most t x g zero = rw (following_none t x g, following_none t x 0) (le_refl 1)
following_most t x g (suc m) =
    rw (following_step t x g m _ refl, following_open t x m)
    (add-le-add (mul-le-mul_left t (following_most t x (g - 1) m)) (at_most (top_may_stand (below_top t x) g)))
  where
    at_most : (b : Bool) → cond b (following t x (suc x) m) 0 ≤ following t x (suc x) m
    at_most true = le_refl _
    at_most false = zero-le
