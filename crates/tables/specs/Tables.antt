-- Tables of counts: which belong to a profile, numbers 5 and 6, and the outcomes of building one and of handing out the shipped one.
use Rattle.std.specs.Prelude.{Bool, cond, not, List, [], ◌++◌, ◌≡◌, ℕ, zero, suc, ◌+◌, ◌*◌, ◌≤◌, ltb, eqb, length}
use Rattle.limbs.specs.Limbs.{limbs_of, number_at}
use Rattle.replies.specs.declared.Reply.{Reply}
use Rattle.replies.specs.declared.Profile.{Profile}
use Rattle.replies.specs.Replies.{done, refused, refused_if, refused_at_first, or_else, length_refusal, profile_refusal, room_refusal, Outcome, writing, profile_of}
use Rattle.profiles.specs.Profiles.{count_for}

-- A table holds rows N(0) to N(m), ten limbs a row.
abbrev pub table_length : ℕ → ℕ
table_length m = 10 * (m + 1)

-- Row i of a table is right: it holds N(i).
abbrev pub row_right : Profile → List ℕ → ℕ → Bool
row_right p table i = eqb (number_at 10 table (10 * i)) (count_for p i)

-- A table belongs to words of m cells if every one of these rows is right.
pub record Belongs (p : Profile) (m : ℕ) (table : List ℕ) : Type 0 where
  pub long : table_length m ≤ length table
  pub rows : (i : ℕ) → i ≤ m → number_at 10 table (10 * i) ≡ count_for p i

-- 5: a table shorter than its rows. 6: a table that does not belong, at its first wrong row; what follows row m is ignored.
unfoldable pub table_refusal : Profile → List ℕ → Reply
table_refusal p table =
    or_else (refused_if (ltb (length table) (table_length p.m)) 5) (refused_at_first (λ i. not (row_right p table i)) (p.m + 1) 6)

-- 6: row i of a table does not hold the number v.
abbrev pub row_refusal : ℕ → ℕ → List ℕ → Reply
row_refusal i v table = cond (eqb (number_at 10 table (10 * i)) v) done (refused 6 i)

-- The rows N(0) to N(n - 1).
unfoldable pub rows_below : Profile → ℕ → List ℕ
rows_below p zero = []
rows_below p (suc n) = rows_below p n ++ limbs_of 10 (count_for p n)

-- The table of a profile: the rows N(0) to N(m).
abbrev pub table_of : Profile → List ℕ
table_of p = rows_below p (p.m + 1)

-- Building a table.
unfoldable pub building : Profile → List ℕ → Outcome
building p lent = writing (or_else (profile_refusal p) (room_refusal (table_length p.m) (length lent))) (table_of p) lent

-- The shipped table is that of q = 4 and x = 1.
abbrev pub shipped_profile : ℕ → Profile
shipped_profile m = profile_of 4 m 1

-- Handing out the shipped table.
unfoldable pub handing_out : ℕ → List ℕ → Outcome
handing_out m lent = writing (or_else (length_refusal m) (room_refusal (table_length m) (length lent))) (table_of (shipped_profile m)) lent
