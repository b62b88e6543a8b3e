-- Joined streams: an empty one adds nothing, they join in either grouping, and they turn.
use Rattle.std.specs.Prelude.{◌≡◌, true, ℕ, zero, suc, eqb, replicate}
use Rattle.std.proofs.Math.Path.{refl, sym, ap}
use Rattle.std.proofs.Common.{◌∙◌, add-one}
use Rattle.std.proofs.lemmas.Bool.{false≢true}
use Rattle.std.proofs.Math.Bool.{and_comm}
use mathlib.Core.List.{List, [], ◌∷◌, ◌++◌, reverse, append_assoc, reverse-append, reverse-cons, reverse-reverse}
use Rattle.std.proofs.lemmas.List.{replicate-append-replicate}
use Rattle.patterns.specs.Pattern.{Patterns}
use Rattle.patterns.specs.Stream.{bridge, first_cell, last_cell, filled, joined, turned}

-- One element many times is the same turned.
reverse-replicate : {A : Type 0} (n : ℕ) (a : A) → reverse (replicate n a) ≡ replicate n a
reverse-replicate zero a = refl
reverse-replicate (suc n) a = rw (reverse-cons a (replicate n a), reverse-replicate n a, replicate-append-replicate n 1 a, add-one)

last-append : (a : List ℕ) (d : ℕ) (b : List ℕ) → last_cell (a ++ (d ∷ b)) ≡ last_cell (d ∷ b)
last-append [] d b = refl
last-append (c ∷ []) d b = refl
last-append (c ∷ e ∷ a) d b = last-append (e ∷ a) d b

last_turned : (a : List ℕ) → last_cell (reverse a) ≡ first_cell a
last_turned [] = refl
last_turned (c ∷ a) = rw (reverse-cons c a) (last-append (reverse a) c [])

first_turned : (a : List ℕ) → first_cell (reverse a) ≡ last_cell a
first_turned a = sym (last_turned (reverse a)) ∙ ap last_cell (reverse-reverse a)

filled-append : (a : List ℕ) (d : ℕ) (b : List ℕ) → filled (a ++ (d ∷ b)) ≡ true
filled-append [] d b = refl
filled-append (c ∷ a) d b = refl

-- Turned cells are empty where and only where the cells are.
pub filled_turned : (a : List ℕ) → filled (reverse a) ≡ filled a
filled_turned [] = refl
filled_turned (c ∷ a) = rw (reverse-cons c a) (filled-append (reverse a) c [])

module _ (S : Patterns) where
  -- A bridge is the same from either side.
  pub bridge_either_way : (a b : ℕ) → bridge S a b ≡ bridge S b a
  unfolding bridge
  bridge_either_way a b = rw (and_comm (eqb a S.top) (eqb b S.top))

  -- A turned bridge is the same bridge.
  pub bridge_turned : (a b : ℕ) → reverse (bridge S a b) ≡ bridge S a b
  unfolding bridge
  bridge_turned a b = simp reverse-replicate

  -- An empty stream before a stream adds nothing.
  pub joined_empty_left : (b : List ℕ) → joined S [] b ≡ b
  unfolding joined
  joined_empty_left b = refl

  -- An empty stream behind a stream adds nothing.
  pub joined_empty_right : (a : List ℕ) → joined S a [] ≡ a
  unfolding joined
  joined_empty_right [] = refl
  joined_empty_right (c ∷ a) = refl

  joined_filled : (a b : List ℕ) → filled a ≡ true → filled b ≡ true → joined S a b ≡ a ++ (bridge S (last_cell a) (first_cell b) ++ b)
  unfolding joined
  joined_filled [] b h k = absurd (false≢true h)
  joined_filled (c ∷ a) [] h k = absurd (false≢true k)
  joined_filled (c ∷ a) (d ∷ b) h k = refl

  last_joined : (a : List ℕ) (d : ℕ) (b : List ℕ) → last_cell (joined S a (d ∷ b)) ≡ last_cell (d ∷ b)
  unfolding joined
  last_joined [] d b = refl
  last_joined (c ∷ a) d b = ap last_cell (sym (append_assoc (c ∷ a) (bridge S (last_cell (c ∷ a)) d) (d ∷ b))) ∙ last-append ((c ∷ a) ++ bridge S (last_cell (c ∷ a)) d) d b

  -- Three streams are joined to the same stream in either grouping.
  pub joined_assoc : (a b c : List ℕ) → joined S (joined S a b) c ≡ joined S a (joined S b c)
  unfolding joined
  joined_assoc [] b c = refl
  joined_assoc (p ∷ a) [] c = refl
  joined_assoc (p ∷ a) (q ∷ b) [] = refl
  joined_assoc (p ∷ a) (q ∷ b) (r ∷ c) = ap (λ (l : ℕ). joined S (p ∷ a) (q ∷ b) ++ (bridge S l r ++ (r ∷ c))) (last_joined (p ∷ a) q b) ∙ simp append_assoc

  -- A joined stream turned is the turned streams joined in the other order.
  pub turned_joined : (a b : List ℕ) → turned (joined S a b) ≡ joined S (turned b) (turned a)
  unfolding joined
  turned_joined [] b = sym (joined_empty_right (turned b))
  turned_joined (c ∷ a) [] = refl
  turned_joined (c ∷ a) (d ∷ b) =
      let over = bridge S (last_cell (c ∷ a)) d in
      let other = joined_filled (reverse (d ∷ b)) (reverse (c ∷ a)) (filled_turned (d ∷ b)) (filled_turned (c ∷ a)) in
      rw (other, last_turned (d ∷ b), first_turned (c ∷ a), bridge_either_way d (last_cell (c ∷ a)), reverse-append (c ∷ a) (over ++ (d ∷ b)), reverse-append over (d ∷ b), bridge_turned, append_assoc)
