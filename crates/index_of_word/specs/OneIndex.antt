-- Where profile and table are in order, a legal word is given its index, whole: the number of legal words before it. No other cells are given one.
use Rattle.std.specs.Prelude.{◌≡◌, Bool, cond, List, ℕ}
use Rattle.std.proofs.Math.Path.{refl}
use Rattle.std.proofs.Math.Bool.{true, false}
use Rattle.std.proofs.Math.Nat.{lt_trans}
use Rattle.std.proofs.Common.{le_refl}
use borrow.Author.Tests.{eqb-true, eq-eqb}
use Rattle.limbs.specs.Limbs.{value, limbs_of}
use Rattle.limbs.specs.ValueLaws.{value-limbs_of_below}
use Rattle.replies.specs.declared.Profile.{Profile}
use Rattle.replies.specs.Replies.{done, is_done, or_else, profile_refusal}
use Rattle.replies.specs.ReplyLaws.{profile_in_range}
use Rattle.code.proofs.Laws.{index_below-N}
use Rattle.profiles.specs.Profiles.{LegalFor, index_for}
use Rattle.cells.specs.Finding.{cells_refusal}
use Rattle.cells.specs.CellLaws.{below_not_refused, legal_not_refused}
use Rattle.tables.specs.Tables.{table_refusal}
use Rattle.tables.specs.CountingLaws.{count_in_ten}
use Rattle.index_of_word.specs.declared.Indexed.{Indexed}
use Rattle.index_of_word.specs.Indexing.{word_refusal, indexing}
use Rattle.index_of_word.specs.Answers.{not_refused_word}

module _ (p : Profile) (table cells : List ℕ) where
  module _ (profile : (profile_refusal p).number ≡ 0) (belongs : (table_refusal p table).number ≡ 0) (word : LegalFor p cells) where
    word_passes : word_refusal p table cells ≡ done
    unfolding word_refusal cells_refusal or_else
    word_passes =
        rw (
          eq-eqb _ 0 profile,
          eq-eqb _ 0 belongs,
          eq-eqb _ _ word.cells,
          below_not_refused _ cells word.levelled,
          legal_not_refused _ _ cells word.passes,
        )

    -- A legal word is given its index.
    pub index_given : ((indexing p table cells).reply ≡ done) × (value (indexing p table cells).index.0 ≡ index_for p cells)
    unfolding indexing
    index_given =
        let range = profile_in_range p refl profile in
        let fits = lt_trans (index_below-N _ _ p.m cells word) (count_in_ten p range p.m (le_refl _)) in
        rw word_passes (refl, value-limbs_of_below 10 fits)

  -- What is given an index is a legal word.
  pub only_words_given : (indexing p table cells).reply.number ≡ 0 → LegalFor p cells
  unfolding indexing
  only_words_given = go (is_done (word_refusal p table cells)) refl
    where
      go : (b : Bool) → is_done (word_refusal p table cells) ≡ b
          → (cond {A = Indexed} b (record { reply = done; index = record { 0 = limbs_of 10 (index_for p cells) } })
          (record { reply = word_refusal p table cells; index = record { 0 = limbs_of 10 0 } })).reply.number ≡ 0 → LegalFor p cells
      go true e none = (not_refused_word p table cells (eqb-true _ 0 e)).word
      go false e none = (not_refused_word p table cells none).word
