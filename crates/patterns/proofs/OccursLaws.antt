-- A pattern as a place among the cells, parts of pattern-free cells, and turned cells.
use Rattle.std.specs.Prelude.{◌≡◌, ◌↔◌, Bool, ℕ, zero, suc, ◌≤◌, eqb, length}
use Rattle.std.proofs.Math.Path.{refl}
use Rattle.std.proofs.Common.{sym, ◌∙◌, arith, eqb-true, eq-eqb}
use Rattle.std.proofs.Math.Bool.{true, false, and-false, or-true, and-eq-true_iff}
use Rattle.std.proofs.lemmas.Bool.{false≢true, eqb-false}
use mathlib.Core.List.{List, [], ◌∷◌, ◌++◌, reverse, append-nil, append_assoc, reverse-append, reverse-cons, reverse-reverse}
use Rattle.std.proofs.lemmas.List.{length-reverse}
use Rattle.listing.specs.Every.{every}
use Rattle.listing.specs.EveryLaws.{every-reverse}
use Rattle.patterns.specs.Pattern.{Patterns, middle_then_top, pattern_of, pattern_up_to, pattern_free}
use Rattle.patterns.specs.Occurs.{Occurs}

-- Two tests of which each implies the other are equal.
same_test : (a b : Bool) → (a ≡ true → b ≡ true) → (b ≡ true → a ≡ true) → a ≡ b
same_test true b f g = sym (f refl)
same_test false true f g = g refl
same_test false false f g = refl

module _ (S : Patterns) where
  -- The cells begin with r cells of the middle set and then a top.
  record Closes (r : ℕ) (w : List ℕ) : Type 0 where
    mids : List ℕ
    right : List ℕ
    splits : w ≡ mids ++ (S.top ∷ right)
    in_middle : every S.middle mids ≡ true
    long : length mids ≡ r

  closes : (r : ℕ) (w : List ℕ) → middle_then_top S r w ≡ true → Closes r w
  closes r [] h = absurd (false≢true h)
  closes zero (c ∷ w) h = record { mids = []; right = w; splits = rw (eqb-true c S.top h); in_middle = refl; long = refl }
  closes (suc r) (c ∷ w) h =
      let p = (and-eq-true_iff (S.middle c) (middle_then_top S r w)).0 h in
      let t = closes r w p.1 in
      record {
        mids = c ∷ t.mids;
        right = t.right;
        splits = rw (← t.splits);
        in_middle = (and-eq-true_iff (S.middle c) (every S.middle t.mids)).1 (p.0, t.in_middle);
        long = rw t.long;
      }

  occurs_first : (r : ℕ) (w : List ℕ) → 1 ≤ r → r ≤ S.reach → pattern_of S r w ≡ true → Occurs S w
  occurs_first r [] l u h = absurd (false≢true h)
  occurs_first r (c ∷ w) l u h =
      let p = (and-eq-true_iff (eqb c S.top) (middle_then_top S r w)).0 h in
      let t = closes r w p.1 in
      record {
        left = [];
        mids = t.mids;
        right = t.right;
        splits = rw (← t.splits, eqb-true c S.top p.0);
        in_middle = t.in_middle;
        at_least_one = rw t.long l;
        within_reach = rw t.long u;
      }

  occurs_up_to : (x : ℕ) (w : List ℕ) → x ≤ S.reach → pattern_up_to S x w ≡ true → Occurs S w
  occurs_up_to zero w u h = absurd (false≢true h)
  occurs_up_to (suc x) w u h = go (pattern_up_to S x w) refl (occurs_up_to x w (omega arith))
    where
      go : (b : Bool) → pattern_up_to S x w ≡ b → (pattern_up_to S x w ≡ true → Occurs S w) → Occurs S w
      go true e f = f e
      go false e f = occurs_first (suc x) w (omega arith) u (rw e at h)

  larger : (a w b : List ℕ) → Occurs S w → Occurs S (a ++ (w ++ b))
  larger a w b o =
      record {
        left = a ++ o.left;
        mids = o.mids;
        right = o.right ++ b;
        splits = rw o.splits (simp append_assoc);
        in_middle = o.in_middle;
        at_least_one = o.at_least_one;
        within_reach = o.within_reach;
      }

  occurs : (w : List ℕ) → pattern_free S w ≡ false → Occurs S w
  unfolding pattern_free
  occurs [] h = absurd (false≢true (sym h))
  occurs (c ∷ w) h = go (pattern_up_to S S.reach (c ∷ w)) refl (occurs w)
    where
      go : (b : Bool) → pattern_up_to S S.reach (c ∷ w) ≡ b → (pattern_free S w ≡ false → Occurs S w) → Occurs S (c ∷ w)
      go true e f = occurs_up_to S.reach (c ∷ w) (omega arith) e
      go false e f = rw append-nil at (larger (c ∷ []) w [] (f (rw e at h)))

  closed : (m l : List ℕ) → every S.middle m ≡ true → middle_then_top S (length m) (m ++ (S.top ∷ l)) ≡ true
  closed [] l h = eq-eqb S.top S.top refl
  closed (c ∷ m) l h = let p = (and-eq-true_iff (S.middle c) (every S.middle m)).0 h in rw p.0 (closed m l p.1)

  up_to : (x r : ℕ) (w : List ℕ) → 1 ≤ r → r ≤ x → pattern_of S r w ≡ true → pattern_up_to S x w ≡ true
  up_to zero r w l u h = absurd (omega arith)
  up_to (suc x) r w l u h = go (eqb r (suc x)) refl (up_to x r w l)
    where
      go : (b : Bool) → eqb r (suc x) ≡ b → (r ≤ x → pattern_of S r w ≡ true → pattern_up_to S x w ≡ true) → pattern_up_to S (suc x) w ≡ true
      go true e f = rw (← (eqb-true r (suc x) e), h, or-true)
      go false e f = let n = eqb-false r (suc x) e in rw (f (omega arith) h)

  not_free : {w : List ℕ} (a : List ℕ) (o : Occurs S w) → pattern_free S (a ++ (S.top ∷ (o.mids ++ (S.top ∷ o.right)))) ≡ false
  unfolding pattern_free
  not_free [] o =
      let first : pattern_of S (length o.mids) (S.top ∷ (o.mids ++ (S.top ∷ o.right))) ≡ true = rw (eq-eqb S.top S.top refl) (closed o.mids o.right o.in_middle) in
      rw (up_to S.reach (length o.mids) (S.top ∷ (o.mids ++ (S.top ∷ o.right))) o.at_least_one o.within_reach first)
  not_free (c ∷ a) o = rw (not_free a o, and-false)

  -- Cells are not pattern-free where and only where a pattern stands among them.
  pub not_free_iff_occurs : (w : List ℕ) → (pattern_free S w ≡ false) ↔ Occurs S w
  not_free_iff_occurs w = (occurs w, λ o. rw o.splits (not_free o.left o))

  free_by_places : (v w : List ℕ) → (Occurs S v → Occurs S w) → pattern_free S w ≡ true → pattern_free S v ≡ true
  free_by_places v w f h = go (pattern_free S v) refl
    where
      go : (b : Bool) → pattern_free S v ≡ b → pattern_free S v ≡ true
      go true e = e
      go false e = absurd (false≢true (sym ((not_free_iff_occurs w).1 (f ((not_free_iff_occurs v).0 e))) ∙ h))

  -- The first cells of pattern-free cells are pattern-free.
  pub front_free : (a b : List ℕ) → pattern_free S (a ++ b) ≡ true → pattern_free S a ≡ true
  front_free a b = free_by_places a (a ++ b) (larger [] a b)

  -- The last cells of pattern-free cells are pattern-free.
  pub back_free : (a b : List ℕ) → pattern_free S (a ++ b) ≡ true → pattern_free S b ≡ true
  back_free a b = free_by_places b (a ++ b) (λ o. rw append-nil at (larger a b [] o))

  turned_place : (w : List ℕ) → Occurs S w → Occurs S (reverse w)
  turned_place w o =
      record {
        left = reverse o.right;
        mids = reverse o.mids;
        right = reverse o.left;
        splits = rw o.splits (simp (reverse-append, reverse-cons, append_assoc));
        in_middle = rw (every-reverse S.middle o.mids) o.in_middle;
        at_least_one = rw (length-reverse o.mids) o.at_least_one;
        within_reach = rw (length-reverse o.mids) o.within_reach;
      }

  -- Turned cells are pattern-free where and only where the cells are.
  pub turned_free : (w : List ℕ) → pattern_free S (reverse w) ≡ pattern_free S w
  turned_free w =
      let back : Occurs S (reverse w) → Occurs S w = λ o. rw reverse-reverse at (turned_place (reverse w) o) in
      same_test (pattern_free S (reverse w)) (pattern_free S w) (free_by_places w (reverse w) (turned_place w)) (free_by_places (reverse w) w back)
