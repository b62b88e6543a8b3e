-- What every call on messages tests first, and what is known where it is not refused.
use Rattle.std.specs.Prelude.{◌||◌, List, ◌≡◌, ℕ, ◌-◌, eqb}
use Rattle.replies.specs.declared.Reply.{Reply}
use Rattle.replies.specs.declared.Profile.{Profile}
use Rattle.replies.specs.Replies.{refused_if, or_else, profile_refusal}
use Rattle.replies.specs.Ranges.{InRange}
use Rattle.code.specs.Messages.{words_kept_out}
use Rattle.profiles.specs.Profiles.{word_count, length_of}
use Rattle.tables.specs.Tables.{Belongs, table_refusal}

-- 4: s is 0, or N(m) - 2 is 0.
unfoldable pub message_refusal : Profile → Reply
message_refusal p = refused_if (eqb (length_of p) 0 || eqb (word_count p - words_kept_out) 0) 4

-- Every call on messages tests, in the order of the numbers: profile, message length, table.
unfoldable pub carrying_refusal : Profile → List ℕ → Reply
carrying_refusal p table = or_else (profile_refusal p) (or_else (message_refusal p) (table_refusal p table))

-- A profile in range that has words that carry messages, and a table that belongs to it.
pub record CarriesMessages (p : Profile) (table : List ℕ) : Type 0 where
  pub in_range : InRange p
  pub carries : (message_refusal p).number ≡ 0
  pub belongs : Belongs p p.m table
