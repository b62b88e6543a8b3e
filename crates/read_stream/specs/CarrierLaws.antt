-- Words that carry messages: a word that passes the tests of reading is legal, and its index is at least that of the first message.
use Rattle.std.specs.Prelude.{◌≡◌, refl, false, List, ℕ, ◌≤◌, ◌<◌, eqb, length, take}
use Rattle.std.proofs.Common.{sym, ◌∙◌, true≢false, pos_of_ne-zero}
use Rattle.replies.specs.declared.Profile.{Profile}
use Rattle.replies.specs.ReplyLaws.{both_done, test_failed}
use Rattle.replies.specs.Ranges.{InRange}
use Rattle.numbers.specs.Step.{first_index}
use Rattle.listing.specs.Every.{every}
use Rattle.listing.specs.EveryLaws.{every-replicate}
use Rattle.code.specs.Code.{LegalWord, index}
use Rattle.code.proofs.Laws.{zeros_only}
use Rattle.profiles.specs.Profiles.{is_word, LegalFor, index_for}
use Rattle.streams.specs.Streams.{words_in, stream_refusal}
use Rattle.streams.specs.FitLaws.{Fits}
use Rattle.streams.specs.EachLaws.{each_implies, each_of_both, each_word}
use Rattle.streams.proofs.EachLaws.{each_done}
use Rattle.streams.specs.AcceptedLaws.{word_legal}
use Rattle.streams.proofs.AcceptedLaws.{accepted_stream}
use Rattle.read_stream.specs.Reading.{silent_refusal, silent_first, silence_refusal}
use Rattle.read_stream.specs.WordLaws.{EachWord}

-- A word that carries a message.
pub record Carrier (p : Profile) (w : List ℕ) : Type 0 where
  pub word : LegalFor p w
  pub first : first_index ≤ index_for p w

-- A legal word other than that of all 0 has an index of at least that.
not_zeros : (q x m : ℕ) (w : List ℕ) → 1 < q → LegalWord q x m w → every (λ c. eqb c 0) w ≡ false → first_index ≤ index q x w
not_zeros q x m w l r other =
    pos_of_ne-zero (λ none. true≢false (sym (every-replicate (λ c. eqb c 0) m 0 refl) ∙ rw (zeros_only q x m w l r none) at other))

-- A legal word that 14, 15, 16 do not refuse carries a message.
not_silent_carries : {p : Profile} → InRange p → (w : List ℕ) → LegalFor p w → (silent_refusal p w).number ≡ 0 → Carrier p w
unfolding silent_refusal
not_silent_carries {p} range w word none =
    let other = test_failed _ 13 (both_done _ _ none).first in
    record { word = word; first = not_zeros _ _ _ w range.levels.least word other }

module _ {p : Profile} (cells : List ℕ) (range : InRange p) (fits : Fits p (length cells)) where
  -- The words of a stream that 10, 11, 13 do not refuse are legal, ..
  pub words_legal : (stream_refusal p cells).number ≡ 0 → EachWord p (LegalFor p) cells
  words_legal none =
      let n = words_in p (length cells) in
      let words = each_word p (is_word p) n cells (accepted_stream p range cells fits.exact none).legal in
      record { exact = fits.exact; each = each_implies p (λ t. word_legal p (take p.m t)) n cells words }

  -- .. and where 14, 15, 16 do not refuse them either, they carry messages.
  pub words_carry : (stream_refusal p cells).number ≡ 0 → (silence_refusal p cells).number ≡ 0 → EachWord p (Carrier p) cells
  unfolding silence_refusal
  words_carry none heard =
      let n = words_in p (length cells) in
      let silent = each_done p (silent_first p) n 0 cells heard in
      record {
        exact = fits.exact;
        each = each_of_both p (λ t. not_silent_carries range (take p.m t)) n cells (words_legal none).each silent;
      }
