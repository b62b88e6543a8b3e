-- Laws of the line of three numbers: a line is read as the numbers that it has, and no other bytes pass for a line.
use Rattle.std.specs.Prelude.{◌≡◌, refl, true, ◌&&◌, List, [], ◌∷◌, ◌++◌, ℕ, ◌≤◌, ◌<◌, ltb, length}
use Rattle.std.proofs.Common.{ap, ◌∙◌, append-nil, append_assoc, arith, length-append, ltb-true}
use Rattle.std.proofs.Math.Bool.{and-eq-true_iff}
use Rattle.replies.specs.declared.Profile.{Profile}
use Rattle.text.specs.Text.{byte, bytes, decimal}
use Rattle.text.specs.DecimalLaws.{decimal-length}
use Rattle.listing.specs.Same.{same}
use Rattle.listing.specs.SameLaws.{same_as_itself, same_equal}
use Rattle.text.specs.Line.{profile_text, line_of, three_digits, profile_in, is_line_of}
use Rattle.text.specs.PartLaws.{in_row}
use Rattle.text.specs.NumberLaws.{number_before, behind_both}

-- The parts of q m x with single spaces.
abbrev pub profile_parts : Profile → List (List ℕ)
profile_parts p = decimal p.q ∷ bytes " " ∷ decimal p.m ∷ bytes " " ∷ decimal p.x ∷ []

pub profile_parts_lem : (p : Profile) → profile_text p ≡ in_row (profile_parts p)
unfolding profile_text
profile_parts_lem p = rw append-nil

-- Each of the three numbers of a profile is below 1000.
record Short (p : Profile) : Type 0 where
  levels : p.q < 1000
  length : p.m < 1000
  reach : p.x < 1000

-- Numbers of at most three digits are.
short : (p : Profile) → three_digits p ≡ true → Short p
short p e =
    let first = (and-eq-true_iff (ltb p.q 1000) (ltb p.m 1000 && ltb p.x 1000)).0 e in
    let others = (and-eq-true_iff (ltb p.m 1000) (ltb p.x 1000)).0 first.1 in
    record {
      levels = ltb-true p.q 1000 first.0;
      length = ltb-true p.m 1000 others.0;
      reach = ltb-true p.x 1000 others.1;
    }

-- Numbers of at most three digits, with single spaces, have at most eleven bytes.
pub profile_short : (p : Profile) → three_digits p ≡ true → length (profile_text p) ≤ 11
unfolding profile_text
profile_short p e =
    let each = short p e in
    let q = decimal-length 2 p.q each.levels in
    let m = decimal-length 2 p.m each.length in
    let x = decimal-length 2 p.x each.reach in
    simp length-append (omega arith)

-- A line of numbers of at most three digits has at most twelve bytes.
pub line_short : (p : Profile) → three_digits p ≡ true → length (line_of p) ≤ 12
line_short p e = let shorter = profile_short p e in rw length-append (omega arith)

-- A line of numbers of at most three digits is read as these numbers.
pub line_read : (p : Profile) → three_digits p ≡ true → profile_in (line_of p) ≡ p
unfolding profile_in profile_text
line_read p e =
    let each = short p e in
    let third = decimal p.x ++ bytes "\n" in
    let second = decimal p.m ++ (bytes " " ++ third) in
    let parts : line_of p ≡ decimal p.q ++ (bytes " " ++ second) = simp append_assoc in
    ap profile_in parts ∙ rw (
      number_before p.q (byte " ") second each.levels refl,
      behind_both p.q (byte " ") second refl,
      number_before p.m (byte " ") third each.length refl,
      behind_both p.m (byte " ") third refl,
      number_before p.x (byte "\n") [] each.reach refl,
    )

-- Such a line is the line of its numbers.
pub line_of_itself : (p : Profile) → three_digits p ≡ true → is_line_of (line_of p) p ≡ true
unfolding is_line_of
line_of_itself p e = rw (e, same_as_itself (line_of p))

-- Bytes that pass for the line of some numbers are that line, and the numbers have at most three digits.
pub is_line_lem : (line : List ℕ) (p : Profile) → is_line_of line p ≡ true → (line ≡ line_of p) × (three_digits p ≡ true)
unfolding is_line_of
is_line_lem line p e =
    let each = (and-eq-true_iff (three_digits p) (same line (line_of p))).0 e in
    (same_equal line (line_of p) each.1, each.0)
