-- The outcome of asking for the index of a word.
use Rattle.std.specs.Prelude.{cond, not, List, ℕ, eqb, length}
use Rattle.limbs.specs.Limbs.{limbs_of}
use Rattle.replies.specs.declared.Reply.{Reply}
use Rattle.replies.specs.declared.Profile.{Profile}
use Rattle.replies.specs.Replies.{done, is_done, refused_if, or_else, profile_refusal}
use Rattle.profiles.specs.Profiles.{index_for, patterns_of}
use Rattle.cells.specs.Finding.{cells_refusal}
use Rattle.tables.specs.Tables.{table_refusal}
use Rattle.index_of_word.specs.declared.Indexed.{Indexed}

-- The tests, in the order of their numbers: profile, table, length (7: a word is exactly m cells), cells.
unfoldable pub word_refusal : Profile → List ℕ → List ℕ → Reply
word_refusal p table cells =
    or_else (profile_refusal p)
    (or_else (table_refusal p table) (or_else (refused_if (not (eqb (length cells) p.m)) 7) (cells_refusal p.q (patterns_of p) cells)))

-- The index in ten limbs where nothing is refused, else 0.
unfoldable pub indexing : Profile → List ℕ → List ℕ → Indexed
indexing p table cells =
    cond (is_done (word_refusal p table cells)) (record { reply = done; index = record { 0 = limbs_of 10 (index_for p cells) } })
    (record { reply = word_refusal p table cells; index = record { 0 = limbs_of 10 0 } })
