-- What a person is told of a reply, in document 01's words; the cells around a place, and where it lies.
use Rattle.std.specs.Prelude.{Bool, true, false, cond, not, ◌||◌, List, [], ◌∷◌, ◌++◌, ℕ, suc, ◌+◌, ◌-◌, ◌/◌, ◌%◌, min, eqb, ltb, leb, length, take, drop, get_or}
use Rattle.replies.specs.declared.Profile.{Profile}
use Rattle.replies.specs.declared.Reply.{Reply}
use Rattle.replies.specs.Replies.{is_done, profile_refusal, room_refusal, Outcome, writing}
use Rattle.replies.specs.Ranges.{most_cells}
use Rattle.text.specs.Text.{bytes, decimal}
use Rattle.outcomes.specs.declared.Spot.{Spot}

-- Words on a number: what it means; where it has a place, also what stands there, up to the place, which is apart or among the cells handed in.
pub data Words : Type 0 where
  plain : List ℕ → Words
  placed : List ℕ → Words
  among_cells : List ℕ → Words

-- The words on the numbers, from 0 on.
abbrev pub words : List Words
words =
    plain (bytes "done")
    ∷ plain (bytes "q outside its range, 2 to 32")
    ∷ plain (bytes "m outside its range, 1 to 128")
    ∷ plain (bytes "x outside its range, 1 to 8")
    ∷ plain (bytes "no words that carry messages")
    ∷ plain (bytes "table shorter than 10(m+1) limbs")
    ∷ placed (bytes "table does not belong (first wrong row ")
    ∷ plain (bytes "input length that fits no word, stream or bit count, or is over the most")
    ∷ placed (bytes "bit after the last message bit is 1 (bit at ")
    ∷ plain (bytes "lent output too short")
    ∷ among_cells (bytes "cell at or above q (cell at ")
    ∷ among_cells (bytes "forbidden pattern (top at ")
    ∷ plain (bytes "index at or above N(m), or list row at or above 40")
    ∷ among_cells (bytes "wrong bridge cell (cell at ")
    ∷ among_cells (bytes "word of all 0 (word at ")
    ∷ among_cells (bytes "index above 2^s (word at ")
    ∷ among_cells (bytes "word of all top (word at ")
    ∷ []

-- The words on a number that is not in use.
abbrev pub words_of_none : Words
words_of_none = plain (bytes "number that has no meaning")

-- Words with the place behind them.
unfoldable pub placed_text : List ℕ → ℕ → List ℕ
placed_text text place = text ++ (decimal place ++ bytes ")")

-- Words on a number as text, for a place.
abbrev pub spoken : Words → ℕ → List ℕ
spoken (plain text) place = text
spoken (placed text) place = placed_text text place
spoken (among_cells text) place = placed_text text place

unfoldable pub words_text : ℕ → ℕ → List ℕ
words_text number place = spoken (get_or words number words_of_none) place

-- What is told of a reply: `done`, or as `refused 11 at 345: forbidden pattern (top at 345)`.
unfoldable pub reply_text : Reply → List ℕ
reply_text r =
    cond (is_done r) (words_text r.number r.place)
    (bytes "refused " ++ (decimal r.number ++ (bytes " at " ++ (decimal r.place ++ (bytes ": " ++ words_text r.number r.place)))))

-- No more than so many bytes are told of a reply.
abbrev pub reply_bytes : ℕ
reply_bytes = 256

-- The outcome of telling a reply: 9 for a lent text of fewer bytes than that.
unfoldable pub telling_reply : Reply → List ℕ → Outcome
telling_reply r lent = writing (room_refusal reply_bytes (length lent)) (reply_text r) lent

-- The place of a number is one among the cells handed in.
abbrev pub is_among_cells : Words → Bool
is_among_cells (plain text) = false
is_among_cells (placed text) = false
is_among_cells (among_cells text) = true

unfoldable pub place_in_cells : ℕ → Bool
place_in_cells number = is_among_cells (get_or words number words_of_none)

-- Of the cells around a place eight before it and eight behind it are shown, as far as there are so many.
abbrev pub first_shown : ℕ → ℕ
first_shown place = place - 8

abbrev pub behind_shown : ℕ → ℕ → ℕ
behind_shown place cells = min cells (place + 9)

-- The level of a cell behind a blank, in brackets where it is marked.
abbrev pub cell_text : ℕ → Bool → List ℕ
cell_text level true = bytes " [" ++ (decimal level ++ bytes "]")
cell_text level false = bytes " " ++ decimal level

-- Cells from a place i on, the one at `place` marked.
abbrev pub cells_text : ℕ → ℕ → List ℕ → List ℕ
cells_text place i [] = []
cells_text place i (level ∷ more) = cell_text level (eqb i place) ++ cells_text place (suc i) more

-- The cells around a place.
unfoldable pub cells_around : List ℕ → ℕ → List ℕ
cells_around cells place = cells_text place (first_shown place) (drop (first_shown place) (take (behind_shown place (length cells)) cells))

-- A cell of a word and its bridge, m + x cells from `start` on: one of the word, or one of the bridge behind it.
abbrev pub spot_in : Bool → Profile → ℕ → ℕ → ℕ → Spot
spot_in true p word start cell = record { in_bridge = false; word = word; cell = cell; first = start; last = start + p.m - 1 }
spot_in false p word start cell =
    record { in_bridge = true; word = word; cell = cell - p.m; first = start + p.m; last = start + p.m + p.x - 1 }

-- Where a place that no stream has lies.
abbrev pub nowhere : Spot
nowhere = record { in_bridge = false; word = 0; cell = 0; first = 0; last = 0 }

-- Where a place of a stream lies: behind so many words with their bridges, at the cell that is left over, one of the word if it is below m.
-- A profile out of range has no stream, and no stream has as many cells as the pattern finder takes.
unfoldable pub spot_of : Profile → ℕ → Spot
spot_of p place =
    let part = p.m + p.x in
    cond (not (is_done (profile_refusal p)) || leb most_cells place) nowhere
    (spot_in (ltb (place % part) p.m) p (place / part) (place - place % part) (place % part))
