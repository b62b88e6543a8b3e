-- Replies: the lowest number that applies to the whole input, with its first place; and what a call that writes leaves.
-- The numbers are those of document 01.
use Rattle.std.specs.Prelude.{◌≡◌, Bool, cond, ◌||◌, List, ◌++◌, ℕ, zero, suc, ◌+◌, ltb, leb, eqb, length, drop}
use Rattle.replies.specs.declared.Reply.{Reply}
use Rattle.replies.specs.declared.Profile.{Profile}
use Rattle.replies.specs.declared.Written.{Written}

-- A profile of q levels, word length m and reach x. Every definition and example that writes a profile out does it by this.
abbrev pub profile_of : ℕ → ℕ → ℕ → Profile
profile_of q m x = record { q = q; m = m; x = x }

-- Done: number 0 at place 0.
abbrev pub done : Reply
done = record { number = 0; place = 0 }

abbrev pub is_done : Reply → Bool
is_done r = eqb r.number 0

-- Refused with a number at a place.
abbrev pub refused : ℕ → ℕ → Reply
refused number place = record { number = number; place = place }

-- Refused at place 0 where a test holds.
abbrev pub refused_if : Bool → ℕ → Reply
refused_if test number = cond test (refused number 0) done

-- Refused at the first of n places, from `place` on, at which a test holds.
abbrev pub refused_from : ℕ → (ℕ → Bool) → ℕ → ℕ → Reply
refused_from place test zero number = done
refused_from place test (suc n) number = cond (test place) (refused number place) (refused_from (suc place) test n number)

-- Refused at the first of the places 0, 1, .., n - 1 at which a test holds.
unfoldable pub refused_at_first : (ℕ → Bool) → ℕ → ℕ → Reply
refused_at_first test n number = refused_from 0 test n number

-- Two tests in the order of their numbers: the first that refuses decides.
unfoldable pub or_else : Reply → Reply → Reply
or_else a b = cond (is_done a) b a

-- A reply on a part of the input that starts so many places in: the place of a refusal counts on from there.
unfoldable pub moved_by : ℕ → Reply → Reply
moved_by places r = cond (is_done r) done (refused r.number (r.place + places))

-- Two replies on an input, the second on what stands further on: the lowest number decides, and of one number the first place.
unfoldable pub lowest : Reply → Reply → Reply
lowest a b = cond (is_done a) b (cond (is_done b || leb a.number b.number) a b)

-- Refused where n is not from low to high.
unfoldable pub outside_refusal : ℕ → ℕ → ℕ → ℕ → Reply
outside_refusal low high n number = refused_if (ltb n low || ltb high n) number

-- 1, 2, 3: q, m, x outside its range.
abbrev pub levels_refusal : ℕ → Reply
levels_refusal q = outside_refusal 2 32 q 1

abbrev pub length_refusal : ℕ → Reply
length_refusal m = outside_refusal 1 128 m 2

abbrev pub reach_refusal : ℕ → Reply
reach_refusal x = outside_refusal 1 8 x 3

unfoldable pub profile_refusal : Profile → Reply
profile_refusal p = or_else (levels_refusal p.q) (or_else (length_refusal p.m) (reach_refusal p.x))

-- 9: lent output too short.
unfoldable pub room_refusal : ℕ → ℕ → Reply
room_refusal needed lent = refused_if (ltb lent needed) 9

-- The whole outcome of a call that writes: its answer, and the lent list afterwards.
pub record OutcomeOf (A : Type 0) : Type 0 where
  pub answer : A
  pub lent : List ℕ

-- Most calls answer with a reply and a count.
abbrev pub Outcome : Type 0
Outcome = OutcomeOf Written

-- A call's answer and what it leaves in the lent list are those of an outcome.
abbrev pub Comes : {A : Type 0} → OutcomeOf A → A → List ℕ → Type 0
Comes outcome answer after = (answer ≡ outcome.answer) × (after ≡ outcome.lent)

-- A refusal writes to no lent buffer and counts 0. Done writes exactly the content from the front and gives the count.
unfoldable pub writing_counted : Reply → ℕ → List ℕ → List ℕ → Outcome
writing_counted refusal count content lent =
    cond (is_done refusal) (record { answer = record { reply = done; count = count }; lent = content ++ drop (length content) lent })
    (record { answer = record { reply = refusal; count = 0 }; lent = lent })

-- Where cells or limbs are written, the count is theirs.
abbrev pub writing : Reply → List ℕ → List ℕ → Outcome
writing refusal content lent = writing_counted refusal (length content) content lent
