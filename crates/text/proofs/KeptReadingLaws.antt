-- Laws that stood in specs/ReadingLaws, which no proof rests on now.
use Rattle.std.specs.Prelude.{◌≡◌, List, ℕ, drop}
use Rattle.replies.specs.declared.Profile.{Profile}
use Rattle.replies.specs.Replies.{profile_of}
use Rattle.text.specs.Line.{number_in, behind_number, profile_in}

-- Three numbers, each read from the place behind the one before, are those of the line.
pub numbers_read : (line : List ℕ) (second third : ℕ) {q m x : ℕ} → q ≡ number_in 0 line → drop second line ≡ behind_number line
    → m ≡ number_in 0 (drop second line) → drop third line ≡ behind_number (drop second line) → x ≡ number_in 0 (drop third line)
    → ◌≡◌ {A = Profile} (profile_of q m x) (profile_in line)
unfolding profile_in
numbers_read line second third q behind-q m behind-m x = rw (q, m, x, behind-m, behind-q)
