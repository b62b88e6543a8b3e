-- A forbidden pattern by its places: its first top, the cells below top after it, and its closing top.
use Rattle.std.specs.Prelude.{◌≡◌, refl, Bool, true, false, List, [], ◌∷◌, ℕ, zero, suc, ◌+◌, ◌-◌, ◌≤◌, ◌<◌, ltb, eqb, length, drop, get_or}
use Rattle.std.proofs.Math.Bool.{and-eq-true_iff, or-true}
use Rattle.std.proofs.lemmas.Bool.{false≢true}
use Rattle.std.proofs.Common.{add-zero, zero-add, suc-add, arith, length-drop, get_or-drop, ltb-true, lt-ltb, eqb-true, eq-eqb}
use Rattle.patterns.specs.Pattern.{middle_then_top, pattern_of, pattern_up_to}
use Rattle.code.specs.Code.{below_top}
use Rattle.cells.specs.Finding.{pattern_at}

-- The cells after a place, up to another, are below top.
abbrev pub LowBetween : ℕ → List ℕ → ℕ → ℕ → Type 0
LowBetween top cells i end = (k : ℕ) → i < k → k < end → get_or cells k 0 < top

-- A forbidden pattern has its first top at i: where its closing top stands, and what the cells from i to there are.
pub record Begins (top x : ℕ) (cells : List ℕ) (i : ℕ) : Type 0 where
  pub closing : ℕ
  pub apart : i + 2 ≤ closing
  pub within : closing ≤ i + x + 1
  pub inside : closing < length cells
  pub first : get_or cells i 0 ≡ top
  pub between : LowBetween top cells i closing
  pub last : get_or cells closing 0 ≡ top

module _ (top x : ℕ) where
  -- The cells begin with r cells below top and then a top.
  record Closes (r : ℕ) (w : List ℕ) : Type 0 where
    inside : r < length w
    between : (k : ℕ) → k < r → get_or w k 0 < top
    last : get_or w r 0 ≡ top

  closes : (r : ℕ) (w : List ℕ) → middle_then_top (below_top top x) r w ≡ true → Closes r w
  closes r [] h = absurd (false≢true h)
  closes zero (c ∷ w) h = record { inside = omega arith; between = λ k l. absurd (omega arith); last = eqb-true c top h }
  closes (suc r) (c ∷ w) h =
      let p = (and-eq-true_iff (ltb c top) (middle_then_top (below_top top x) r w)).0 h in
      let t = closes r w p.1 in
      record { inside = omega (arith, t.inside); between = go t.between (ltb-true c top p.0); last = t.last }
    where
      go : ((k : ℕ) → k < r → get_or w k 0 < top) → c < top → (k : ℕ) → k < suc r → get_or (c ∷ w) k 0 < top
      go f l zero h = l
      go f l (suc k) h = f k (omega arith)

  closed : (r : ℕ) (w : List ℕ) → Closes r w → middle_then_top (below_top top x) r w ≡ true
  closed r [] t = absurd (omega (arith, t.inside))
  closed zero (c ∷ w) t = eq-eqb c top t.last
  closed (suc r) (c ∷ w) t =
      rw (lt-ltb c top (t.between 0 (omega arith)))
      (closed r w (record { inside = omega (arith, t.inside); between = λ k l. t.between (suc k) (omega arith); last = t.last }))

  -- The cells begin with a pattern that has r cells between its tops.
  opens : (r : ℕ) (w : List ℕ) → 1 ≤ r → r ≤ x → pattern_of (below_top top x) r w ≡ true → Begins top x w 0
  opens r [] l u h = absurd (false≢true h)
  opens r (c ∷ w) l u h =
      let p = (and-eq-true_iff (eqb c top) (middle_then_top (below_top top x) r w)).0 h in
      let t = closes r w p.1 in
      record {
        closing = suc r;
        apart = omega arith;
        within = omega arith;
        inside = omega (arith, t.inside);
        first = eqb-true c top p.0;
        between = go t.between;
        last = t.last;
      }
    where
      go : ((k : ℕ) → k < r → get_or w k 0 < top) → LowBetween top (c ∷ w) 0 (suc r)
      go f zero i h = absurd (omega arith)
      go f (suc k) i h = f k (omega arith)

  opened : (r : ℕ) (w : List ℕ) → suc r < length w → get_or w 0 0 ≡ top → LowBetween top w 0 (suc r) → get_or w (suc r) 0 ≡ top
      → pattern_of (below_top top x) r w ≡ true
  opened r [] i f b l = absurd (omega arith)
  opened r (c ∷ w) i f b l =
      rw (eq-eqb c top f) (closed r w (record { inside = omega arith; between = λ k h. b (suc k) (omega arith) (omega arith); last = l }))

  -- A pattern of fewer cells between the tops is one of up to more.
  up_to_more : (d r : ℕ) (w : List ℕ) → pattern_up_to (below_top top x) r w ≡ true → pattern_up_to (below_top top x) (d + r) w ≡ true
  up_to_more zero r w h = rw zero-add h
  up_to_more (suc d) r w h = rw (suc-add, up_to_more d r w h)

  up_to_opens : (y : ℕ) (w : List ℕ) → y ≤ x → pattern_up_to (below_top top x) y w ≡ true → Begins top x w 0
  up_to_opens zero w u h = absurd (false≢true h)
  up_to_opens (suc y) w u h = go (pattern_up_to (below_top top x) y w) refl (up_to_opens y w (omega arith))
    where
      go : (b : Bool) → pattern_up_to (below_top top x) y w ≡ b → (pattern_up_to (below_top top x) y w ≡ true → Begins top x w 0) → Begins top x w 0
      go true e f = f e
      go false e f = opens (suc y) w (omega arith) u (rw e at h)

  opened_up_to : (w : List ℕ) → Begins top x w 0 → pattern_up_to (below_top top x) x w ≡ true
  opened_up_to w b =
      let r = b.closing - 2 in
      let back : suc (suc r) ≡ b.closing = omega (arith, b.apart) in
      let far : (x - suc r) + suc r ≡ x = omega (arith, b.within, b.apart) in
      let here = opened (suc r) w (rw back b.inside) b.first (rw back b.between) (rw back b.last) in
      rw far at (up_to_more (x - suc r) (suc r) w (rw here (or-true (pattern_up_to (below_top top x) r w))))

  -- The cells from a place on, and all the cells.
  from_place : (cells : List ℕ) (i : ℕ) → Begins top x (drop i cells) 0 → Begins top x cells i
  from_place cells i b =
      record {
        closing = i + b.closing;
        apart = omega (arith, b.apart);
        within = omega (arith, b.within);
        inside = omega (arith, b.inside, length-drop i cells);
        first = rw (get_or-drop i cells 0 0, add-zero) at b.first;
        between = go b.between;
        last = rw (get_or-drop i cells b.closing 0) at b.last;
      }
    where
      go : LowBetween top (drop i cells) 0 b.closing → LowBetween top cells i (i + b.closing)
      go f k l h =
          let back : i + (k - i) ≡ k = omega arith in
          rw (get_or-drop i cells (k - i) 0, back) at (f (k - i) (omega arith) (omega arith))

  at_place : (cells : List ℕ) (i : ℕ) → Begins top x cells i → Begins top x (drop i cells) 0
  at_place cells i b =
      let back : i + (b.closing - i) ≡ b.closing = omega (arith, b.apart) in
      record {
        closing = b.closing - i;
        apart = omega (arith, b.apart);
        within = omega (arith, b.within);
        inside = omega (arith, b.inside, b.apart, length-drop i cells);
        first = rw (get_or-drop i cells 0 0, add-zero) b.first;
        between = λ k l h. rw (get_or-drop i cells k 0) (b.between (i + k) (omega arith) (omega arith));
        last = rw (get_or-drop i cells (b.closing - i) 0, back) b.last;
      }

  -- The test holds at a place where and only where a pattern begins there.
  pub pattern_begins : (cells : List ℕ) (i : ℕ) → pattern_at (below_top top x) cells i ≡ true → Begins top x cells i
  pattern_begins cells i h = from_place cells i (up_to_opens x (drop i cells) (omega arith) h)

  pub begins_pattern : (cells : List ℕ) (i : ℕ) → Begins top x cells i → pattern_at (below_top top x) cells i ≡ true
  begins_pattern cells i b = opened_up_to (drop i cells) (at_place cells i b)

  pub no_pattern : (cells : List ℕ) (i : ℕ) → (Begins top x cells i → ⊥) → pattern_at (below_top top x) cells i ≡ false
  no_pattern cells i n = go (pattern_at (below_top top x) cells i) refl
    where
      go : (b : Bool) → pattern_at (below_top top x) cells i ≡ b → b ≡ false
      go true e = absurd (n (pattern_begins cells i e))
      go false e = refl
