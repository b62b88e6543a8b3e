-- Laws that stood in specs/Answers, which no proof rests on now.
use Rattle.std.specs.Prelude.{◌≡◌, not, List, ℕ, eqb, length}
use Rattle.std.proofs.Common.{eq-eqb, ne_eqb}
use Rattle.limbs.specs.Limbs.{limbs_of}
use Rattle.replies.specs.declared.Reply.{Reply}
use Rattle.replies.specs.declared.Profile.{Profile}
use Rattle.replies.specs.Replies.{done, refused_if, profile_refusal}
use Rattle.replies.specs.ReplyLaws.{decides, leaves}
use Rattle.code.specs.Code.{index}
use Rattle.profiles.specs.Profiles.{index_for, patterns_of}
use Rattle.cells.specs.Finding.{cells_refusal}
use Rattle.tables.specs.Tables.{table_refusal}
use Rattle.index_of_word.specs.Indexing.{word_refusal, indexing}
use Rattle.index_of_word.specs.Answers.{no_limbs}

-- The first test that refuses decides.
module _ (p : Profile) (table cells : List ℕ) {profile : Reply} (e : profile ≡ profile_refusal p) where
  pub profile_decides : (profile.number ≡ 0 → ⊥) → profile ≡ word_refusal p table cells
  unfolding word_refusal
  profile_decides n = decides profile _ _ e n

  pub table_decides : {rows : Reply} → profile.number ≡ 0 → rows ≡ table_refusal p table → (rows.number ≡ 0 → ⊥) → rows ≡ word_refusal p table cells
  unfolding word_refusal
  table_decides {rows} z f n = leaves profile rows _ _ e z (decides rows _ _ f n)

  pub length_decides : {rows long : Reply} → profile.number ≡ 0 → rows ≡ table_refusal p table → rows.number ≡ 0
      → long ≡ refused_if (not (eqb (length cells) p.m)) 7 → (long.number ≡ 0 → ⊥) → long ≡ word_refusal p table cells
  unfolding word_refusal
  length_decides {rows} {long} z f y g n = leaves profile long _ _ e z (leaves rows long _ _ f y (decides long _ _ g n))

  pub cells_decide : {rows long cell : Reply} → profile.number ≡ 0 → rows ≡ table_refusal p table → rows.number ≡ 0
      → long ≡ refused_if (not (eqb (length cells) p.m)) 7 → long.number ≡ 0 → cell ≡ cells_refusal p.q (patterns_of p) cells
      → cell ≡ word_refusal p table cells
  unfolding word_refusal
  cells_decide {rows} {long} {cell} z f y g w h = leaves profile cell _ _ e z (leaves rows cell _ _ f y (leaves long cell _ _ g w h))

-- The answer where nothing is refused, and where something is.
pub indexing_done : (p : Profile) (table cells : List ℕ) {sum : List ℕ} → (word_refusal p table cells).number ≡ 0
    → sum ≡ limbs_of 10 (index_for p cells) → record { reply = done; index = record { 0 = sum } } ≡ indexing p table cells
unfolding indexing
indexing_done p table cells e f = rw (eq-eqb _ 0 e, f)

pub indexing_refused : (p : Profile) (table cells : List ℕ) → ((word_refusal p table cells).number ≡ 0 → ⊥)
    → record { reply = word_refusal p table cells; index = record { 0 = no_limbs } } ≡ indexing p table cells
unfolding indexing limbs_of
indexing_refused p table cells n = rw (ne_eqb (word_refusal p table cells).number 0 n)
