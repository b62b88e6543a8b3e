-- The index keeps the order, no two words have the same, and it stays below the count.
use Rattle.std.specs.Prelude.{◌≡◌, refl, ◌⊎◌, Bool, true, false, List, [], ◌∷◌, ℕ, suc, ◌+◌, ◌≤◌, ◌<◌, ltb, eqb, length}
use Rattle.std.proofs.Common.{ap, ap₂, ◌∙◌, sym, inl, inr, le_refl, arith, ltb-true, ltb-false, eqb-true, lt-ltb, le-ltb, ne_eqb, eq-eqb}
use Rattle.std.proofs.lemmas.Bool.{false≢true, eqb-false}
use Rattle.std.proofs.Math.Bool.{and-eq-true_iff}
use Rattle.std.proofs.Math.Nat.{suc_inj}
use Rattle.listing.specs.Listing.{Word, count_of, listed, all_words, before, index_in, behind, all_below}
use Rattle.listing.specs.Sums.{sum_below, sum_mono}
use Rattle.listing.proofs.FirstCell.{count_by_first, before_cons, index_by_first, index_first}

-- One word has no cells, where it passes.
pub count_nil : (q : ℕ) (p : List ℕ → Bool) → p [] ≡ true → count_of q p 0 ≡ 1
unfolding count_of listed all_words
count_nil q p e = rw e

pub before_nil : (w : List ℕ) → before [] w ≡ false
unfolding before
before_nil w = refl

-- Nothing stands before the word of no cells.
pub nothing_before_nil : (v : List ℕ) → before v [] ≡ false
unfolding before
nothing_before_nil [] = refl
nothing_before_nil (a ∷ v) = refl

-- The first cell is below q, and so are the rest.
pub first_below : (q a : ℕ) (w : List ℕ) → all_below q (a ∷ w) ≡ true → a < q
first_below q a w b = ltb-true a q ((and-eq-true_iff (ltb a q) (all_below q w)).0 b).0

pub rest_below : (q a : ℕ) (w : List ℕ) → all_below q (a ∷ w) ≡ true → all_below q w ≡ true
rest_below q a w b = ((and-eq-true_iff (ltb a q) (all_below q w)).0 b).1

-- All words with the first cell a or a lower one are among all words.
first_within : (q : ℕ) (p : List ℕ → Bool) (a m : ℕ) → a < q → sum_below (λ c. count_of q (behind c p) m) a + count_of q (behind a p) m ≤ count_of q p (suc m)
first_within q p a m l = rw (count_by_first q p m) (sum_mono (λ c. count_of q (behind c p) m) (suc a) q l)

below_count : (q : ℕ) (p : List ℕ → Bool) (w : List ℕ) → all_below q w ≡ true → p w ≡ true → index_in q p w < count_of q p (length w)
below_count q p [] b e = let f = index_first q p [] nothing_before_nil in let g = count_nil q p e in omega arith
below_count q p (a ∷ w) b e =
    let l = first_below q a w b in
    let i = index_by_first q p a w l in
    let r = below_count q (behind a p) w (rest_below q a w b) e in
    let t = first_within q p a (length w) l in
    omega arith

-- The index of a word is below the count.
pub index_below_count : (q : ℕ) (p : List ℕ → Bool) (m : ℕ) (w : List ℕ) → Word q p m w → index_in q p w < count_of q p m
index_below_count q p m w r = rw r.cells at (below_count q p w r.levelled r.passes)

lower_same_higher : (a b : ℕ) → (a < b) ⊎ ((a ≡ b) ⊎ (b < a))
lower_same_higher a b = go (ltb a b) refl (eqb a b) refl
  where
    go : (l : Bool) → ltb a b ≡ l → (s : Bool) → eqb a b ≡ s → (a < b) ⊎ ((a ≡ b) ⊎ (b < a))
    go true t s u = inl (ltb-true a b t)
    go false t true u = inr (inl (eqb-true a b u))
    go false t false u = let le = ltb-false a b t in let ne = eqb-false a b u in inr (inr (omega arith))

before_lower_first : (a b : ℕ) (v w : List ℕ) → a < b → before (a ∷ v) (b ∷ w) ≡ true
before_lower_first a b v w l = rw (before_cons, lt-ltb a b l)

before_same_first : (a b : ℕ) (v w : List ℕ) → a ≡ b → before (a ∷ v) (b ∷ w) ≡ before v w
before_same_first a b v w e = rw (before_cons, e, le-ltb b b (le_refl b), eq-eqb b b refl)

before_higher_first : (a b : ℕ) (v w : List ℕ) → b < a → before (a ∷ v) (b ∷ w) ≡ false
before_higher_first a b v w l = rw (before_cons, le-ltb a b (omega arith), ne_eqb a b (omega arith))

-- Of two words of one length, one stands before the other, or they are the same.
pub either_before : (v w : List ℕ) → length v ≡ length w → (before v w ≡ true) ⊎ ((v ≡ w) ⊎ (before w v ≡ true))
either_before [] [] e = inr (inl refl)
either_before [] (b ∷ w) e = absurd (omega arith)
either_before (a ∷ v) [] e = absurd (omega arith)
either_before (a ∷ v) (b ∷ w) e = go (lower_same_higher a b) (either_before v w (suc_inj e))
  where
    go : (a < b) ⊎ ((a ≡ b) ⊎ (b < a)) → (before v w ≡ true) ⊎ ((v ≡ w) ⊎ (before w v ≡ true))
        → (before (a ∷ v) (b ∷ w) ≡ true) ⊎ ((a ∷ v ≡ b ∷ w) ⊎ (before (b ∷ w) (a ∷ v) ≡ true))
    go (inl l) r = inl (before_lower_first a b v w l)
    go (inr (inr l)) r = inr (inr (before_lower_first b a w v l))
    go (inr (inl s)) (inl t) = inl (before_same_first a b v w s ∙ t)
    go (inr (inl s)) (inr (inl t)) = inr (inl (ap₂ (λ (c : ℕ) (u : List ℕ). c ∷ u) s t))
    go (inr (inl s)) (inr (inr t)) = inr (inr (before_same_first b a w v (sym s) ∙ t))

before_lower : (q : ℕ) (p : List ℕ → Bool) (v w : List ℕ) → length v ≡ length w → all_below q v ≡ true → all_below q w ≡ true → p v ≡ true
    → before v w ≡ true → index_in q p v < index_in q p w
before_lower q p [] w e bv bw ev t = absurd (false≢true (sym (before_nil w) ∙ t))
before_lower q p (a ∷ v) [] e bv bw ev t = absurd (omega arith)
before_lower q p (a ∷ v) (b ∷ w) e bv bw ev t =
    go (lower_same_higher a b) (before_lower q (behind a p) v w (suc_inj e) (rest_below q a v bv) (rest_below q b w bw) ev)
  where
    of_v : index_in q p (a ∷ v) ≡ sum_below (λ c. count_of q (behind c p) (length v)) a + index_in q (behind a p) v
    of_v = index_by_first q p a v (first_below q a v bv)

    of_w : index_in q p (b ∷ w) ≡ sum_below (λ c. count_of q (behind c p) (length v)) b + index_in q (behind b p) w
    of_w = rw (suc_inj e) (index_by_first q p b w (first_below q b w bw))

    go : (a < b) ⊎ ((a ≡ b) ⊎ (b < a)) → (before v w ≡ true → index_in q (behind a p) v < index_in q (behind a p) w)
        → index_in q p (a ∷ v) < index_in q p (b ∷ w)
    go (inl l) r =
        let i = below_count q (behind a p) v (rest_below q a v bv) ev in
        let s = sum_mono (λ c. count_of q (behind c p) (length v)) (suc a) b l in
        let x = of_v in
        let y = of_w in
        omega arith
    go (inr (inr l)) r = absurd (false≢true (sym (before_higher_first a b v w l) ∙ t))
    go (inr (inl s)) r =
        let i = r (sym (before_same_first a b v w s) ∙ t) in
        let x = of_v in
        let y = rw (← s) at of_w in
        rw (← s) (omega arith)

-- A word that stands before another has the lower index.
pub index_keeps_order : (q : ℕ) (p : List ℕ → Bool) (m : ℕ) (v w : List ℕ) → Word q p m v → Word q p m w
    → before v w ≡ true → index_in q p v < index_in q p w
index_keeps_order q p m v w rv rw' t = before_lower q p v w (rv.cells ∙ sym rw'.cells) rv.levelled rw'.levelled rv.passes t

-- A word with the lower index stands before the other.
pub lower_index_before : (q : ℕ) (p : List ℕ → Bool) (m : ℕ) (v w : List ℕ) → Word q p m v → Word q p m w
    → index_in q p v < index_in q p w → before v w ≡ true
lower_index_before q p m v w rv rw' l = go (either_before v w (rv.cells ∙ sym rw'.cells))
  where
    go : (before v w ≡ true) ⊎ ((v ≡ w) ⊎ (before w v ≡ true)) → before v w ≡ true
    go (inl t) = t
    go (inr (inl s)) = let e = ap (index_in q p) s in absurd (omega arith)
    go (inr (inr t)) = let r = index_keeps_order q p m w v rw' rv t in absurd (omega arith)

-- No two words have the same index.
pub index_injective : (q : ℕ) (p : List ℕ → Bool) (m : ℕ) (v w : List ℕ) → Word q p m v → Word q p m w
    → index_in q p v ≡ index_in q p w → v ≡ w
index_injective q p m v w rv rw' e = go (either_before v w (rv.cells ∙ sym rw'.cells))
  where
    go : (before v w ≡ true) ⊎ ((v ≡ w) ⊎ (before w v ≡ true)) → v ≡ w
    go (inl t) = let r = index_keeps_order q p m v w rv rw' t in absurd (omega arith)
    go (inr (inl s)) = s
    go (inr (inr t)) = let r = index_keeps_order q p m w v rw' rv t in absurd (omega arith)
