-- Laws of reading a line: the numbers that are taken out of it, and the test of it against their line.
use Rattle.std.specs.Prelude.{◌≡◌, refl, Bool, true, false, not, ◌&&◌, ◌||◌, List, [], ◌∷◌, ℕ, ltb, leb, eqb}
use Rattle.std.proofs.Common.{ap, ◌∙◌, leb-true, leb-false, lt-ltb, le-ltb}
use Rattle.std.specs.Cmp.Lexicographic.{pointwise}
use Rattle.replies.specs.declared.Profile.{Profile}
use Rattle.replies.specs.Replies.{profile_of}
use Rattle.listing.specs.Same.{same}
use Rattle.text.specs.Line.{line_of, three_digits, number_in, behind_number, profile_in, is_line_of}

-- Three numbers, each read from what stands behind the one before, are those of the line.
pub numbers_read : (line second third : List ℕ) {q m x : ℕ} → q ≡ number_in 0 line → second ≡ behind_number line
    → m ≡ number_in 0 second → third ≡ behind_number second → x ≡ number_in 0 third
    → ◌≡◌ {A = Profile} (profile_of q m x) (profile_in line)
unfolding profile_in
numbers_read line second third q behind-q m behind-m x = rw (q, m, x, behind-m, behind-q)

-- Some number of a profile has more than three digits.
abbrev pub too_long : Profile → Bool
too_long p = leb 1000 p.q || leb 1000 p.m || leb 1000 p.x

-- A number is below another exactly where the other is not at most it.
below_test : (a b : ℕ) → ltb a b ≡ not (leb b a)
below_test a b = go (leb b a) refl
  where
    go : (t : Bool) → leb b a ≡ t → ltb a b ≡ not t
    go true e = le-ltb a b (leb-true b a e)
    go false e = lt-ltb a b (leb-false b a e)

-- Three tests all fail exactly where none of them passes.
none_of_three : (a b c : Bool) → (not a && (not b && not c)) ≡ not (a || b || c)
none_of_three true b c = refl
none_of_three false true c = refl
none_of_three false false c = refl

-- Numbers have at most three digits exactly where none has more.
three_digits_lem : (p : Profile) → three_digits p ≡ not (too_long p)
three_digits_lem p =
    rw (below_test p.q 1000, below_test p.m 1000, below_test p.x 1000)
    (none_of_three (leb 1000 p.q) (leb 1000 p.m) (leb 1000 p.x))

-- So they have where the test for more fails.
pub not_too_long : (p : Profile) → too_long p ≡ false → three_digits p ≡ true
not_too_long p e = three_digits_lem p ∙ ap not e

-- No bytes are a line of longer numbers.
pub too_long_no_line : (line : List ℕ) (p : Profile) → too_long p ≡ true → false ≡ is_line_of line p
unfolding is_line_of
too_long_no_line line p e = rw (three_digits_lem p, e)

-- Where the numbers have at most three digits, bytes are their line exactly where they are the same as it.
pub line_compared : (line : List ℕ) (p : Profile) {made : List ℕ} {answer : Bool} → three_digits p ≡ true → made ≡ line_of p
    → answer ≡ same line made → answer ≡ is_line_of line p
unfolding is_line_of
line_compared line p three right e = e ∙ rw (right, three)

-- What `==` says of two slices is that test.
pub pointwise_same : (a b : List ℕ) → pointwise eqb a b ≡ same a b
unfolding same
pointwise_same [] [] = refl
pointwise_same [] (c ∷ b) = refl
pointwise_same (c ∷ a) [] = refl
pointwise_same (c ∷ a) (d ∷ b) = rw (pointwise_same a b)
