-- Worked examples of the definitions.
use Rattle.std.specs.Prelude.{◌≡◌, refl, Bool, true, false, List, [], ◌∷◌, ℕ}
use Rattle.listing.specs.Same.{same}
use Rattle.replies.specs.Replies.{profile_of}
use Rattle.text.specs.Text.{bytes, decimal, levels_text}
use Rattle.text.specs.Line.{profile_text, line_of, number_in, behind_number, profile_in, is_line_of}

pub record Texts : Type 0 where
  pub ascii : bytes "0,9" ≡ 48 ∷ 44 ∷ 57 ∷ []
  pub zero : decimal 0 ≡ bytes "0"
  pub one_digit : decimal 7 ≡ bytes "7"
  pub last_digit_0 : decimal 10 ≡ bytes "10"
  pub four_digits : decimal 4096 ≡ bytes "4096"
  pub no_level : levels_text [] ≡ bytes ""
  pub one_level : levels_text (31 ∷ []) ≡ bytes "31"
  pub levels : levels_text (0 ∷ 1 ∷ 31 ∷ 2 ∷ []) ≡ bytes "0,1,31,2"
  pub same_bytes : same (bytes "10") (bytes "10") ≡ true
  pub other_byte : same (bytes "10") (bytes "11") ≡ false
  pub longer : same (bytes "10") (bytes "100") ≡ false
  pub shorter : same (bytes "10") (bytes "1") ≡ false

pub texts : Texts
unfolding decimal levels_text same
texts = record {
  ascii = refl;
  zero = refl;
  one_digit = refl;
  last_digit_0 = refl;
  four_digits = refl;
  no_level = refl;
  one_level = refl;
  levels = refl;
  same_bytes = refl;
  other_byte = refl;
  longer = refl;
  shorter = refl;
}

-- Some bytes are the line of the numbers that are read from them.
abbrev is_line : List ℕ → Bool
is_line line = is_line_of line (profile_in line)

pub record Lines : Type 0 where
  pub line : line_of (profile_of 2 3 1) ≡ bytes "2 3 1\n"
  pub read : profile_in (bytes "32 128 8\n") ≡ profile_of 32 128 8
  pub right : is_line_of (bytes "2 3 1\n") (profile_of 2 3 1) ≡ true
  pub three_digits_each : is_line (bytes "999 999 999\n") ≡ true
  pub other_numbers : is_line_of (bytes "2 3 1\n") (profile_of 2 3 2) ≡ false
  pub leading_zero : is_line (bytes "02 3 1\n") ≡ false
  pub four_digits : is_line (bytes "2 1000 1\n") ≡ false
  pub two_spaces : is_line (bytes "2  3 1\n") ≡ false
  pub other_space : is_line (bytes "2\t3 1\n") ≡ false
  pub space_behind : is_line (bytes "2 3 1 \n") ≡ false
  pub no_newline : is_line (bytes "2 3 1") ≡ false
  pub byte_behind : is_line (bytes "2 3 1\n\n") ≡ false
  pub number_missing : is_line (bytes "2 3\n") ≡ false
  pub no_bytes : is_line [] ≡ false

pub lines : Lines
unfolding decimal same profile_text number_in behind_number profile_in is_line_of
lines = record {
  line = refl;
  read = refl;
  right = refl;
  three_digits_each = refl;
  other_numbers = refl;
  leading_zero = refl;
  four_digits = refl;
  two_spaces = refl;
  other_space = refl;
  space_behind = refl;
  no_newline = refl;
  byte_behind = refl;
  number_missing = refl;
  no_bytes = refl;
}
