-- What the listing program prints.
use Rattle.std.specs.Prelude.{cond, ◌&&◌, List, [], ◌++◌, ◌≡◌, ℕ, zero, suc, ◌^◌, ltb, leb, eqb, length, take}
use Rattle.messages.specs.Carrying.{message_refusal}
use Rattle.replies.specs.declared.Profile.{Profile}
use Rattle.replies.specs.Replies.{is_done, profile_refusal, room_refusal, Outcome, writing}
use Rattle.numbers.specs.Step.{first_index, message_of}
use Rattle.profiles.specs.Profiles.{word_count, length_of, word_for}
use Rattle.text.specs.Text.{bytes, decimal, levels_text}
use Rattle.text.specs.Line.{profile_text, profile_in, is_line_of}

-- The message length s; 0 where number 4 would be given.
abbrev pub stated_length : Profile → ℕ
stated_length p = cond (is_done (message_refusal p)) (length_of p) 0

-- The last index that carries a message of s bits; there is none where s is 0.
abbrev pub last_carrying : ℕ → ℕ
last_carrying s = cond (eqb s 0) 0 (2 ^ s)

-- q m x N s.
unfoldable pub header : Profile → List ℕ
header p = profile_text p ++ (bytes " " ++ (decimal (word_count p) ++ (bytes " " ++ (decimal (stated_length p) ++ bytes "\n"))))

-- The message that an index carries, or a hyphen, where `last` is the last index that carries one.
unfoldable pub message_text : ℕ → ℕ → List ℕ
message_text last i = cond (leb first_index i && leb i last) (decimal (message_of i)) (bytes "-")

-- The line of an index: index, levels joined by commas, and the message or a hyphen.
unfoldable pub word_line : Profile → ℕ → List ℕ
word_line p i =
    decimal i ++ (bytes " " ++ (levels_text (word_for p i) ++ (bytes " " ++ (message_text (last_carrying (stated_length p)) i ++ bytes "\n"))))

-- The lines of the indices 0, 1, .., n - 1.
unfoldable pub word_lines : Profile → ℕ → List ℕ
word_lines p zero = []
word_lines p (suc n) = word_lines p n ++ word_line p n

-- What is printed for a profile: numbers 1 to 3, `too many` for N above 4096, or the whole code.
unfoldable pub answer_text : Profile → List ℕ
answer_text p =
    cond (is_done (profile_refusal p)) (cond (ltb 4096 (word_count p)) (bytes "too many\n") (header p ++ word_lines p (word_count p)))
    (bytes "refused " ++ (decimal (profile_refusal p).number ++ bytes "\n"))

-- What is printed for any bytes: they are the line of the numbers in them, or they are refused.
unfoldable pub printed : List ℕ → List ℕ
printed line = cond (is_line_of line (profile_in line)) (answer_text (profile_in line)) (bytes "refused line\n")

-- So many bytes of an input decide what is printed for it.
abbrev pub deciding : ℕ
deciding = 13

-- The first `count` bytes of a text are what is printed for every input whose first `most` bytes are those that were read.
abbrev pub PrintsFor : List ℕ → ℕ → ℕ → List ℕ → Type 0
PrintsFor read most count text = (input : List ℕ) → take most input ≡ read → take count text ≡ printed input

-- No more than so many bytes are printed.
abbrev pub most_bytes : ℕ
most_bytes = 262144

-- The outcome of listing: 9 for a lent text of fewer bytes than that.
unfoldable pub listing : List ℕ → List ℕ → Outcome
listing line lent = writing (room_refusal most_bytes (length lent)) (printed line) lent
