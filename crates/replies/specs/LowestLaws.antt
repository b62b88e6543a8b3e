-- Laws of replies on parts of an input: which of two decides, and what it says that none is refused.
use Rattle.std.specs.Prelude.{◌≡◌, refl, Bool, true, false, cond, ◌||◌, ℕ, ◌+◌, leb}
use Rattle.std.proofs.Common.{eqb-true, eq-eqb, ne_eqb}
use Rattle.std.proofs.lemmas.Bool.{eqb-false}
use Rattle.replies.specs.declared.Reply.{Reply}
use Rattle.replies.specs.Replies.{done, is_done, refused, moved_by, lowest}
use Rattle.replies.specs.ReplyLaws.{BothDone}

-- Which of two decides: the second where the first is done, else the first unless the second has a lower number.
pub second_decides : (a b : Reply) → a.number ≡ 0 → b ≡ lowest a b
unfolding lowest
second_decides a b e = rw (eq-eqb a.number 0 e)

module _ (a b : Reply) (some : a.number ≡ 0 → ⊥) where
  pub first_decides : (is_done b || leb a.number b.number) ≡ true → a ≡ lowest a b
  unfolding lowest
  first_decides e = rw (ne_eqb a.number 0 some, e)

  pub lower_decides : (is_done b || leb a.number b.number) ≡ false → b ≡ lowest a b
  unfolding lowest
  lower_decides e = rw (ne_eqb a.number 0 some, e)

-- The lowest of two is done where both are, and only there.
pub lowest_of_done : (a b : Reply) → a ≡ done → b ≡ done → lowest a b ≡ done
unfolding lowest
lowest_of_done a b e f = rw (e, f)

pub lowest_done : (a b : Reply) → (lowest a b).number ≡ 0 → BothDone a b
unfolding lowest
lowest_done a b = go (is_done a) refl (is_done b) refl (leb a.number b.number)
  where
    go : (s : Bool) → is_done a ≡ s → (t : Bool) → is_done b ≡ t → (l : Bool) → (cond s b (cond (t || l) a b)).number ≡ 0 → BothDone a b
    go true s t f l e = record { first = eqb-true a.number 0 s; second = e }
    go false s true f l e = record { first = e; second = eqb-true b.number 0 f }
    go false s false f true e = absurd (eqb-false a.number 0 s e)
    go false s false f false e = absurd (eqb-false b.number 0 f e)

-- A reply on a part that starts further in is done where the part's is, and only there.
pub moved_of_done : (places : ℕ) (r : Reply) → r ≡ done → moved_by places r ≡ done
unfolding moved_by
moved_of_done places r e = rw e

pub moved_done : (places : ℕ) (r : Reply) → (moved_by places r).number ≡ 0 → r.number ≡ 0
unfolding moved_by
moved_done places r = go (is_done r) refl
  where
    go : (s : Bool) → is_done r ≡ s → (cond s done (refused r.number (r.place + places))).number ≡ 0 → r.number ≡ 0
    go true s e = eqb-true r.number 0 s
    go false s e = e
