-- Laws of what is printed for any input: for the line of a profile what is printed for the profile, for any other bytes that the line is refused.
use Rattle.std.specs.Prelude.{◌≡◌, refl, Bool, true, false, List, ℕ, ◌≤◌, leb, length, take}
use Rattle.std.proofs.Common.{sym, ◌∙◌, arith, length-take, take_all, leb-true, leb-false}
use Rattle.replies.specs.declared.Profile.{Profile}
use Rattle.text.specs.Text.{bytes}
use Rattle.text.specs.Line.{line_of, three_digits, profile_in, is_line_of}
use Rattle.text.specs.Put.{Put}
use Rattle.text.specs.PutLaws.{put_front}
use Rattle.text.specs.LineLaws.{line_read, line_of_itself, is_line_lem, line_short}
use Rattle.code_as_text.specs.Printed.{answer_text, printed, deciding, PrintsFor}
use Rattle.code_as_text.specs.AnswerLaws.{printed_answer, printed_refused}

-- For the line of a profile whose numbers have at most three digits each, what is printed for the profile is printed.
pub printed_for_line : (p : Profile) → three_digits p ≡ true → printed (line_of p) ≡ answer_text p
printed_for_line p short = printed_answer (line_of p) (sym (line_read p short)) (sym (line_of_itself p short)) refl

-- For any other bytes it is printed that the line is refused.
pub printed_otherwise : (line : List ℕ) → ((p : Profile) → three_digits p ≡ true → line ≡ line_of p → ⊥) → printed line ≡ bytes "refused line\n"
printed_otherwise line none = printed_refused line refl refl (go (is_line_of line (profile_in line)) refl)
  where
    go : (t : Bool) → is_line_of line (profile_in line) ≡ t → t ≡ false
    go true e = let both = is_line_lem line (profile_in line) e in absurd (none (profile_in line) both.1 both.0)
    go false e = refl

-- As many bytes as decide, or more, are no line.
long_is_no_line : (line : List ℕ) → deciding ≤ length line → (p : Profile) → three_digits p ≡ true → line ≡ line_of p → ⊥
long_is_no_line line long p short same =
    let most = line_short p short in
    let more = rw same at long in
    omega arith

-- Thirteen bytes decide, and so do more: no line has more than twelve, so what stands behind them changes nothing.
pub more_decide : (most : ℕ) → deciding ≤ most → (input : List ℕ) → printed (take most input) ≡ printed input
more_decide most enough input = go (leb (length input) most) refl
  where
    go : (t : Bool) → leb (length input) most ≡ t → printed (take most input) ≡ printed input
    go true e = rw (take_all most input (leb-true (length input) most e))
    go false e =
        let long = leb-false (length input) most e in
        printed_otherwise (take most input) (long_is_no_line (take most input) (rw length-take (omega arith)))
        ∙ sym (printed_otherwise input (long_is_no_line input (omega arith)))

pub thirteen_decide : (input : List ℕ) → printed (take deciding input) ≡ printed input
thirteen_decide = more_decide deciding (omega arith)

-- What is put for the bytes that were read is printed for every input that starts with them, if enough were asked for.
pub prints_for : (read lent : List ℕ) (most : ℕ) {count : ℕ} {after : List ℕ} → deciding ≤ most → Put lent 0 (printed read) after count
    → PrintsFor read most count after
prints_for read lent most enough put input same = put_front put ∙ rw (← same) (more_decide most enough input)
