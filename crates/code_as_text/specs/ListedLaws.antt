-- Laws of what is put for a listed code: the parts of its header and of the line of an index, the lines of several, and the whole.
use Rattle.std.specs.Prelude.{◌≡◌, List, [], ◌∷◌, ◌++◌, ℕ, suc, ◌+◌, ◌≤◌, ◌<◌, length}
use Rattle.std.proofs.Math.Numerals.{add-one}
use Rattle.std.proofs.Common.{arith}
use Rattle.replies.specs.declared.Profile.{Profile}
use Rattle.replies.specs.Ranges.{InRange}
use Rattle.profiles.specs.Profiles.{word_count, word_for}
use Rattle.text.specs.Text.{bytes, decimal, levels_text}
use Rattle.text.specs.Line.{profile_text}
use Rattle.text.specs.Put.{Fits, Put}
use Rattle.text.specs.PutLaws.{first_fits, more_fits, put_nothing, put_more}
use Rattle.text.specs.PartLaws.{in_row}
use Rattle.code_as_text.specs.Printed.{stated_length, last_carrying, header, message_text, word_line, word_lines, most_bytes}
use Rattle.code_as_text.specs.FitLaws.{code_fits, lines_grow}

-- The parts of a header, of which n words and messages of s bits are said.
abbrev pub header_parts : Profile → ℕ → ℕ → List (List ℕ)
header_parts p n s = profile_text p ∷ bytes " " ∷ decimal n ∷ bytes " " ∷ decimal s ∷ bytes "\n" ∷ []

-- A header has these parts.
pub header_parts_lem : (p : Profile) {n s : ℕ} → n ≡ word_count p → s ≡ stated_length p → header p ≡ in_row (header_parts p n s)
unfolding header
header_parts_lem p count length = rw (count, length)

-- The parts of the line of an index, whose word has these cells.
abbrev pub line_parts : ℕ → List ℕ → ℕ → List (List ℕ)
line_parts i cells last = decimal i ∷ bytes " " ∷ levels_text cells ∷ bytes " " ∷ message_text last i ∷ bytes "\n" ∷ []

-- A line has these parts.
pub line_parts_lem : (p : Profile) (i : ℕ) {last : ℕ} {cells : List ℕ} → last ≡ last_carrying (stated_length p) → cells ≡ word_for p i
    → word_line p i ≡ in_row (line_parts i cells last)
unfolding word_line
line_parts_lem p i carrying spelt = rw (carrying, spelt)

-- Before any line is put the lines of no index are.
pub no_lines : (p : Profile) (lent : List ℕ) (at : ℕ) → at ≤ length lent → Put lent at (word_lines p 0) lent at
unfolding word_lines
no_lines p lent at room = put_nothing lent at room

module _ (p : Profile) {lent now : List ℕ} {at next : ℕ} (i : ℕ) (lines : Put lent at (word_lines p i) now next) where
  -- Where the lines of n indices fit, the line of an index i below n fits behind the lines of those below i, ..
  pub line_fits : (n : ℕ) → i < n → Fits lent at (word_lines p n) → Fits now next (word_line p i)
  unfolding word_lines
  line_fits n below room =
      let grown = lines_grow p (suc i) n below in
      more_fits (word_line p i) lines (omega arith)

  -- .. and once it is put the lines of one index more are.
  pub line_put : {after : List ℕ} {last : ℕ} → Put now next (word_line p i) after last → Put lent at (word_lines p (i + 1)) after last
  unfolding word_lines
  line_put line = rw add-one (put_more lines line)

module _ (p : Profile) {n : ℕ} (count : n ≡ word_count p) where
  module _ (range : InRange p) (few : n ≤ 4096) (lent : List ℕ) (room : most_bytes ≤ length lent) where
    -- The whole of a code of n words, at most 4,096, fits where the most bytes do.
    code_room : Fits lent 0 (header p ++ word_lines p n)
    code_room = rw count (let most = code_fits p range (rw count at few) in omega arith)

    -- So its header fits, ..
    pub header_fits : Fits lent 0 (header p)
    header_fits = first_fits lent 0 (header p) (word_lines p n) code_room

    -- .. and the lines of its words fit behind the header.
    pub lines_fit : {now : List ℕ} {next : ℕ} → Put lent 0 (header p) now next → Fits now next (word_lines p n)
    lines_fit front = more_fits (word_lines p n) front code_room

  -- The header and the lines of all words behind it are the whole code.
  pub code_put : {lent now after : List ℕ} {next last : ℕ} → Put lent 0 (header p) now next → Put now next (word_lines p n) after last
      → Put lent 0 (header p ++ word_lines p (word_count p)) after last
  code_put front lines = rw (← count) (put_more front lines)
