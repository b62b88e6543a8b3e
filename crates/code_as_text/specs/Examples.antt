-- Worked examples of the definitions.
use Rattle.std.specs.Prelude.{◌≡◌, refl}
use Rattle.std.proofs.Common.{arith}
use Rattle.messages.specs.Carrying.{message_refusal}
use Rattle.replies.specs.Replies.{or_else, outside_refusal, profile_refusal}
use Rattle.patterns.specs.Pattern.{pattern_free}
use Rattle.listing.specs.Same.{same}
use Rattle.listing.specs.Listing.{all_words, listed, count_of, word_of}
use Rattle.code.specs.Code.{legal, N, word}
use Rattle.code.specs.Formulas.{counts_down_from, count_by_recursion}
use Rattle.code.proofs.Theorem1.{recursion_counts}
use Rattle.code.specs.Messages.{message_length}
use Rattle.text.specs.Text.{bytes, decimal, levels_text}
use Rattle.text.specs.Line.{profile_text, number_in, behind_number, profile_in, is_line_of}
use Rattle.code_as_text.specs.Printed.{header, message_text, word_line, word_lines, answer_text, printed}

pub record Examples : Type 0 where
  -- Seven words, of which those of the indices 1 to 4 carry the messages 0 to 3.
  pub seven_words :
      printed (bytes "2 3 1\n") ≡ bytes "2 3 1 7 2\n0 0,0,0 -\n1 0,0,1 0\n2 0,1,0 1\n3 0,1,1 2\n4 1,0,0 3\n5 1,1,0 -\n6 1,1,1 -\n"
  -- Where number 4 would be given, s is 0 and no word carries a message.
  pub no_messages : printed (bytes "3 1 1\n") ≡ bytes "3 1 1 3 0\n0 0 -\n1 1 -\n2 2 -\n"
  pub levels_refused : printed (bytes "0 0 0\n") ≡ bytes "refused 1\n"
  pub length_refused : printed (bytes "2 0 0\n") ≡ bytes "refused 2\n"
  pub reach_refused : printed (bytes "2 3 9\n") ≡ bytes "refused 3\n"
  pub no_newline : printed (bytes "2 3 1") ≡ bytes "refused line\n"
  pub leading_zero : printed (bytes "02 3 1\n") ≡ bytes "refused line\n"
  pub two_spaces : printed (bytes "2  3 1\n") ≡ bytes "refused line\n"
  pub four_digits : printed (bytes "1000 3 1\n") ≡ bytes "refused line\n"

pub examples : Examples
unfolding printed answer_text header word_lines word_line message_text is_line_of profile_in number_in behind_number profile_text decimal levels_text same
    profile_refusal or_else outside_refusal message_refusal message_length word word_of N legal count_of listed all_words pattern_free
examples = record {
  seven_words = refl;
  no_messages = refl;
  levels_refused = refl;
  length_refused = refl;
  reach_refused = refl;
  no_newline = refl;
  leading_zero = refl;
  two_spaces = refl;
  four_digits = refl;
}

-- A code of 4,229 words is not listed. They are counted by theorem 1's recursion.
pub too_many : printed (bytes "3 8 1\n") ≡ bytes "too many\n"
unfolding printed answer_text is_line_of profile_in number_in behind_number profile_text decimal same profile_refusal or_else outside_refusal
    count_by_recursion counts_down_from
too_many = rw (← recursion_counts 3 1 8 (omega arith))
