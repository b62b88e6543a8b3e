-- Laws that stood in specs/WalkLaws, which no proof rests on now.
use Rattle.std.specs.Prelude.{◌≡◌, Bool, true, false, List, ℕ, ◌+◌, ◌≤◌, ◌<◌, ltb, length, drop, get_or}
use Rattle.std.proofs.Math.Bool.{or-false}
use Rattle.std.proofs.Common.{le_refl, add-one, drop_of_length-le, drop-cons, eq-eqb, ne_eqb, le-ltb}
use Rattle.listing.specs.Every.{every}
use Rattle.listing.specs.Listing.{before}
use Rattle.listing.proofs.Order.{before_nil}
use Rattle.listing.proofs.FirstCell.{before_cons}

module _ (test : ℕ → Bool) (word : List ℕ) where
  -- From a cell that passes on, as from the next on; from one that does not, not all pass; from behind the last, all do.
  pub every_next : (i : ℕ) → i < length word → test (get_or word i 0) ≡ true → every test (drop (i + 1) word) ≡ every test (drop i word)
  every_next i l e = rw (add-one, drop-cons word i 0 l, e)

  pub every_not : (i : ℕ) → i < length word → test (get_or word i 0) ≡ false → every test (drop i word) ≡ false
  every_not i l e = rw (drop-cons word i 0 l, e)

  pub every_behind : (i : ℕ) → length word ≤ i → every test (drop i word) ≡ true
  every_behind i l = rw (drop_of_length-le word l)

module _ (v w : List ℕ) where
  -- From equal cells on, as from the next on; differing cells decide; behind the last cell neither stands before the other.
  pub before_next : (i : ℕ) → i < length v → i < length w → get_or v i 0 ≡ get_or w i 0 → before (drop (i + 1) v) (drop (i + 1) w) ≡ before (drop i v) (drop i w)
  before_next i l h e = rw (add-one, drop-cons v i 0 l, drop-cons w i 0 h, before_cons, eq-eqb _ _ e, e, le-ltb (get_or w i 0) (get_or w i 0) (le_refl _))

  pub before_here : (i : ℕ) → i < length v → i < length w → (get_or v i 0 ≡ get_or w i 0 → ⊥) → before (drop i v) (drop i w) ≡ ltb (get_or v i 0) (get_or w i 0)
  before_here i l h n = rw (drop-cons v i 0 l, drop-cons w i 0 h, before_cons, ne_eqb _ _ n) (or-false _)

  pub before_behind : (i : ℕ) → length v ≤ i → before (drop i v) (drop i w) ≡ false
  before_behind i l = rw (drop_of_length-le v l) (before_nil _)
