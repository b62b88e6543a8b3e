-- Laws of cells as text: the parts of one, one behind another, and how long they are.
use Rattle.std.specs.Prelude.{◌≡◌, Bool, true, false, List, [], ◌∷◌, ◌++◌, ℕ, zero, suc, ◌+◌, ◌-◌, ◌≤◌, ◌<◌, eqb, length, take, drop, get_or}
use Rattle.std.proofs.Common.{sym, append-nil, append_assoc, add-zero, arith, length-append, length-drop, take_all, get_or-drop}
use Rattle.std.proofs.Math.Nat.{suc-sub-suc}
use Rattle.text.specs.Text.{bytes, decimal}
use Rattle.text.specs.DecimalLaws.{decimal-length}
use Rattle.text.specs.PartLaws.{in_row}
use Rattle.outcomes.specs.Outcomes.{first_shown, behind_shown, cell_text, cells_text, cells_around}

-- The parts of a marked cell.
abbrev pub marked_parts : ℕ → List (List ℕ)
marked_parts level = bytes " [" ∷ decimal level ∷ bytes "]" ∷ []

-- A marked cell has these parts.
pub marked_parts_lem : (level : ℕ) {marked : Bool} → marked ≡ true → cell_text level marked ≡ in_row (marked_parts level)
marked_parts_lem level e = rw e

-- The parts of one that is not marked.
abbrev pub plain_parts : ℕ → List (List ℕ)
plain_parts level = bytes " " ∷ decimal level ∷ []

-- One that is not marked has these.
pub plain_parts_lem : (level : ℕ) {marked : Bool} → marked ≡ false → cell_text level marked ≡ in_row (plain_parts level)
plain_parts_lem level e = rw (e, append-nil)

-- A cell whose level is a byte takes at most 6 bytes.
pub cell-length : (level : ℕ) (marked : Bool) → level < 256 → length (cell_text level marked) ≤ 6
cell-length level true byte = let digits = decimal-length 2 level (omega arith) in simp length-append (omega arith)
cell-length level false byte = let digits = decimal-length 2 level (omega arith) in omega arith

-- One cell more stands behind the others.
cells_more : (place start : ℕ) (cells : List ℕ) (n : ℕ) → n < length cells
    → cells_text place start (take (suc n) cells) ≡ cells_text place start (take n cells) ++ cell_text (get_or cells n 0) (eqb (start + n) place)
cells_more place start [] n inside = absurd (omega arith)
cells_more place start (c ∷ cells) zero inside = rw (add-zero, append-nil)
cells_more place start (c ∷ cells) (suc n) inside =
    let on : start + suc n ≡ suc start + n = omega arith in
    rw (on, cells_more place (suc start) cells n (omega arith), append_assoc)

-- The cells that are shown from the first on to i.
abbrev pub shown_to : List ℕ → ℕ → ℕ → List ℕ
shown_to cells place i = cells_text place (first_shown place) (take (i - first_shown place) (drop (first_shown place) cells))

-- Before the first none is shown.
pub shown_none : (cells : List ℕ) (place : ℕ) → shown_to cells place (first_shown place) ≡ []
shown_none cells place = let none : place - 8 - (place - 8) ≡ 0 = omega arith in rw none

-- With one cell more, that cell is shown behind the others.
pub shown_more : (cells : List ℕ) (place i : ℕ) → first_shown place ≤ i → i < length cells
    → shown_to cells place (i + 1) ≡ shown_to cells place i ++ cell_text (get_or cells i 0) (eqb i place)
shown_more cells place i low inside =
    let more : i + 1 - (place - 8) ≡ suc (i - (place - 8)) = omega arith in
    let back : (place - 8) + (i - (place - 8)) ≡ i = omega arith in
    rw (more, cells_more place (place - 8) (drop (place - 8) cells) (i - (place - 8)) (rw length-drop (omega arith)), get_or-drop, back)

-- Cells from one place to before another are as many of those from the one on.
drop-take : (a n : ℕ) (l : List ℕ) → drop a (take n l) ≡ take (n - a) (drop a l)
drop-take zero n l = let whole : n - 0 ≡ n = omega arith in rw whole
drop-take (suc a) zero l = let none : 0 - suc a ≡ 0 = omega arith in rw none
drop-take (suc a) (suc n) [] = sym (take_all (suc n - suc a) [] (omega arith))
drop-take (suc a) (suc n) (c ∷ l) = rw suc-sub-suc (drop-take a n l)

-- Where as many are shown as lie between the first and the place behind the last, all are.
pub shown_all : (cells : List ℕ) (place i : ℕ) → i - first_shown place ≡ behind_shown place (length cells) - first_shown place
    → shown_to cells place i ≡ cells_around cells place
unfolding cells_around
shown_all cells place i e = rw (e, drop-take)
