-- The outcome of asking for the word of an index.
use Rattle.std.specs.Prelude.{◌≡◌, List, ◌++◌, ℕ, ◌≤◌, leb, length, drop}
use Rattle.limbs.specs.Limbs.{value}
use Rattle.numbers.specs.declared.Index.{Index}
use Rattle.replies.specs.declared.Reply.{Reply}
use Rattle.replies.specs.declared.Profile.{Profile}
use Rattle.replies.specs.Replies.{done, refused, refused_if, or_else, profile_refusal, room_refusal, Outcome, writing}
use Rattle.profiles.specs.Profiles.{word_count, word_for, LegalFor, index_for, OneFor}
use Rattle.tables.specs.Tables.{table_refusal}

-- The tests, in the order of their numbers: profile, table, room for m cells, and 12: an index at or above N(m).
unfoldable pub index_refusal : Profile → List ℕ → Index → List ℕ → Reply
index_refusal p table i lent =
    or_else (profile_refusal p)
    (or_else (table_refusal p table) (or_else (room_refusal p.m (length lent)) (refused_if (leb (word_count p) (value i.0)) 12)))

-- The cells of the word, written where nothing is refused.
unfoldable pub spelling : Profile → List ℕ → Index → List ℕ → Outcome
spelling p table i lent = writing (index_refusal p table i lent) (word_for p (value i.0)) lent

-- Profile, table and room are in order.
pub record InOrder (p : Profile) (table lent : List ℕ) : Type 0 where
  pub profile : (profile_refusal p).number ≡ 0
  pub belongs : (table_refusal p table).number ≡ 0
  pub room : p.m ≤ length lent

-- There is a word: it is the one with that many before it, and it is written from the front.
pub record Given (p : Profile) (i : ℕ) (lent : List ℕ) (outcome : Outcome) : Type 0 where
  pub one : OneFor p i
  pub written : outcome ≡ record { answer = record { reply = done; count = p.m }; lent = word_for p i ++ drop p.m lent }

-- There is none: 12, and nothing is written.
pub record NoWord (p : Profile) (i : ℕ) (lent : List ℕ) (outcome : Outcome) : Type 0 where
  pub none : (w : List ℕ) → LegalFor p w → index_for p w ≡ i → ⊥
  pub refusal : outcome ≡ record { answer = record { reply = refused 12 0; count = 0 }; lent = lent }
