-- The line that the listing program reads: q m x as decimals with single spaces and a newline. Each number has one to three digits.
use Rattle.std.specs.Prelude.{Bool, cond, ◌&&◌, List, [], ◌∷◌, ◌++◌, ℕ, ◌+◌, ◌-◌, ◌*◌, ltb, leb}
use Rattle.replies.specs.declared.Profile.{Profile}
use Rattle.replies.specs.Replies.{profile_of}
use Rattle.listing.specs.Same.{same}
use Rattle.text.specs.Text.{byte, bytes, decimal}

-- q m x with single spaces.
unfoldable pub profile_text : Profile → List ℕ
profile_text p = decimal p.q ++ (bytes " " ++ (decimal p.m ++ (bytes " " ++ decimal p.x)))

-- The line: q m x and a newline.
abbrev pub line_of : Profile → List ℕ
line_of p = profile_text p ++ bytes "\n"

-- Each number has at most three digits.
abbrev pub three_digits : Profile → Bool
three_digits p = ltb p.q 1000 && (ltb p.m 1000 && ltb p.x 1000)

-- The number that the digits at the front of any bytes spell, behind a number v; from 1000 on it does not matter which.
abbrev pub is_digit : ℕ → Bool
is_digit c = leb (byte "0") c && leb c (byte "9")

abbrev pub with_digit : ℕ → ℕ → ℕ
with_digit v c = cond (ltb v 1000) (10 * v + (c - byte "0")) v

unfoldable pub number_in : ℕ → List ℕ → ℕ
number_in v [] = v
number_in v (c ∷ more) = cond (is_digit c) (number_in (with_digit v c) more) v

-- What stands behind those digits and the byte after them.
unfoldable pub behind_number : List ℕ → List ℕ
behind_number [] = []
behind_number (c ∷ more) = cond (is_digit c) (behind_number more) more

-- The first three numbers of any bytes, as a profile.
unfoldable pub profile_in : List ℕ → Profile
profile_in line =
    let second = behind_number line in
    profile_of (number_in 0 line) (number_in 0 second) (number_in 0 (behind_number second))

-- Some bytes are the line of a profile, and its numbers have at most three digits.
unfoldable pub is_line_of : List ℕ → Profile → Bool
is_line_of line p = three_digits p && same line (line_of p)
