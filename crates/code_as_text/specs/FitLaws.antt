-- How long the printed text is: the whole of a code of at most 4,096 words fits, and so does whatever is printed.
use Rattle.std.specs.Prelude.{◌≡◌, refl, cond, ◌&&◌, List, ◌++◌, ℕ, zero, suc, ◌*◌, ◌^◌, ◌≤◌, ◌<◌, ltb, leb, length}
use Rattle.std.proofs.Common.{⊎_elim, le_refl, arith, length-append, ltb-false, eqb-true}
use Rattle.std.proofs.Math.Nat.{le-suc_iff}
use Rattle.messages.specs.Carrying.{message_refusal}
use Rattle.messages.specs.LengthLaws.{length_below}
use Rattle.replies.specs.declared.Profile.{Profile}
use Rattle.replies.specs.Replies.{is_done, profile_refusal}
use Rattle.replies.specs.NumberLaws.{picked, profile_number}
use Rattle.replies.specs.ReplyLaws.{profile_in_range}
use Rattle.replies.specs.Ranges.{InRange}
use Rattle.numbers.specs.Step.{first_index, message_of}
use Rattle.profiles.specs.Profiles.{word_count}
use Rattle.text.specs.Text.{bytes, decimal}
use Rattle.text.specs.DecimalLaws.{decimal-length}
use Rattle.text.specs.Line.{profile_text, profile_in, is_line_of}
use Rattle.code_as_text.specs.Printed.{stated_length, last_carrying, header, message_text, word_line, word_lines, answer_text, printed, most_bytes}
use Rattle.code_as_text.specs.SmallCodes.{small_codes}

-- A text of at most so many bytes.
abbrev Within : ℕ → List ℕ → Type 0
Within most text = length text ≤ most

-- The message that an index below 10^4 carries takes at most 4 bytes, and so does a hyphen.
message_within_4 : (last i : ℕ) → i < 10 ^ 4 → length (message_text last i) ≤ 4
unfolding message_text
message_within_4 last i l = picked (Within 4) (leb first_index i && leb i last) (λ e. decimal-length 3 (message_of i) (omega arith)) (λ e. omega arith)

-- The line of an index takes at most 61 bytes: 4 for the index, 50 for the levels, 4 for the message, two spaces and a newline.
line_within_61 : {p : Profile} → InRange p → word_count p ≤ 4096 → (i : ℕ) → i < word_count p → length (word_line p i) ≤ 61
unfolding word_line
line_within_61 {p} range few i l =
    let index = decimal-length 3 i (omega arith) in
    let levels = small_codes range few i l in
    let message = message_within_4 (last_carrying (stated_length p)) i (omega arith) in
    simp length-append (omega arith)

-- The lines of the first n indices take at most 61 bytes each.
lines_within_61_each : {p : Profile} → InRange p → word_count p ≤ 4096 → (n : ℕ) → n ≤ word_count p → length (word_lines p n) ≤ 61 * n
unfolding word_lines
lines_within_61_each range few zero l = omega arith
lines_within_61_each range few (suc n) l =
    let before = lines_within_61_each range few n (omega arith) in
    let line = line_within_61 range few n l in
    rw length-append (omega arith)

-- The message length that is stated is below 640.
stated_below_640 : {p : Profile} → InRange p → stated_length p < 640
stated_below_640 {p} range =
    picked (λ s. s < 640) (is_done (message_refusal p)) (λ e. length_below range (eqb-true _ 0 e)) (λ e. omega arith)

-- The header takes at most 18 bytes: 2 for q, 3 for m, 1 for x, 4 for N, 3 for s, four spaces and a newline.
header_within_18 : {p : Profile} → InRange p → word_count p ≤ 4096 → length (header p) ≤ 18
unfolding header profile_text
header_within_18 {p} range few =
    let levels = range.levels in
    let cells = range.length in
    let reach = range.reach in
    let stated = stated_below_640 range in
    let first = decimal-length 1 p.q (omega arith) in
    let second = decimal-length 2 p.m (omega arith) in
    let third = decimal-length 0 p.x (omega arith) in
    let fourth = decimal-length 3 (word_count p) (omega arith) in
    let fifth = decimal-length 2 (stated_length p) (omega arith) in
    simp length-append (omega arith)

-- The header and the lines of a code of at most 4,096 words fit.
pub code_fits : (p : Profile) → InRange p → word_count p ≤ 4096 → length (header p ++ word_lines p (word_count p)) ≤ most_bytes
code_fits p range few =
    let front = header_within_18 range few in
    let lines = lines_within_61_each range few (word_count p) (le_refl _) in
    rw length-append (omega arith)

-- The lines of more indices take no fewer bytes.
pub lines_grow : (p : Profile) (i n : ℕ) → i ≤ n → length (word_lines p i) ≤ length (word_lines p n)
unfolding word_lines
lines_grow p i zero l = let none : i ≡ 0 = omega arith in rw none (le_refl _)
lines_grow p i (suc n) l = ⊎_elim
    (λ (b : i ≤ n). let grown = lines_grow p i n b in rw length-append (omega arith))
    (λ (e : i ≡ suc n). rw e (le_refl _))
    (le-suc_iff.0 l)

-- What is printed for a profile that is refused fits.
refusal_fits : (p : Profile) → length (bytes "refused " ++ (decimal (profile_refusal p).number ++ bytes "\n")) ≤ most_bytes
refusal_fits p =
    let number = profile_number p in
    let digit = decimal-length 0 (profile_refusal p).number (omega arith) in
    simp length-append (omega arith)

-- What is printed for a profile in range fits.
accepted_fits : (p : Profile) → InRange p
    → length (cond (ltb 4096 (word_count p)) (bytes "too many\n") (header p ++ word_lines p (word_count p))) ≤ most_bytes
accepted_fits p range =
    picked (Within most_bytes) (ltb 4096 (word_count p)) (λ e. omega arith) (λ e. code_fits p range (ltb-false 4096 (word_count p) e))

-- What is printed for any profile fits.
pub answer_fits : (p : Profile) → length (answer_text p) ≤ most_bytes
unfolding answer_text
answer_fits p =
    picked (Within most_bytes) (is_done (profile_refusal p)) (λ e. accepted_fits p (profile_in_range p refl (eqb-true _ 0 e))) (λ e. refusal_fits p)

-- What is printed for any bytes fits.
pub printed_fits : (line : List ℕ) → length (printed line) ≤ most_bytes
unfolding printed
printed_fits line = picked (Within most_bytes) (is_line_of line (profile_in line)) (λ e. answer_fits (profile_in line)) (λ e. omega arith)
