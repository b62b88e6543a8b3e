-- Laws of the words on a number: which they are, their parts, how long they are, and for which numbers the place is among the cells.
use Rattle.std.specs.Prelude.{◌≡◌, refl, Bool, true, false, cond, not, ◌&&◌, ◌||◌, List, [], ◌∷◌, ℕ, zero, suc, ◌+◌, ◌^◌, ◌≤◌, ◌<◌, eqb, leb, length, get_or}
use Rattle.std.proofs.Common.{sym, true≢false, zero-add, add-zero, arith, length-append, leb-true, leb-false, le-leb, ne_eqb}
use Rattle.std.proofs.Math.Bool.{and-eq-true_iff}
use Rattle.std.proofs.lemmas.Bool.{lt-leb}
use Rattle.text.specs.Text.{bytes, decimal}
use Rattle.text.specs.DecimalLaws.{decimal-length}
use Rattle.text.specs.PartLaws.{in_row}
use Rattle.outcomes.specs.Outcomes.{Words, plain, placed, among_cells, words, words_of_none, placed_text, spoken, words_text, is_among_cells, place_in_cells}

-- The words on number k are the k-th of the list.
pub words_at : {number k : ℕ} (place : ℕ) → number ≡ k → words_text number place ≡ spoken (get_or words k words_of_none) place
unfolding words_text
words_at place e = rw e

-- A number is none of those below k.
abbrev pub NoneBelow : ℕ → ℕ → Type 0
NoneBelow zero number = Unit {0}
NoneBelow (suc k) number = NoneBelow k number × (number ≡ k → ⊥)

-- So it is k or above.
above : (k number : ℕ) → NoneBelow k number → k ≤ number
above zero number none = omega arith
above (suc k) number none =
    let more = above k number none.0 in
    let other = none.1 in
    omega arith

-- Past the end of a list there are no words.
past_end : (list : List Words) (i : ℕ) → length list ≤ i → get_or list i words_of_none ≡ words_of_none
past_end [] i past = refl
past_end (w ∷ list) zero past = absurd (omega arith)
past_end (w ∷ list) (suc i) past = past_end list i (omega arith)

-- A number that is none of those in use has no words.
pub no_words : {number : ℕ} (place : ℕ) → NoneBelow (length words) number → words_text number place ≡ spoken words_of_none place
unfolding words_text
no_words {number} place none = rw (past_end words number (above (length words) number none))

-- The parts of words with the place behind them.
abbrev pub placed_parts : List ℕ → ℕ → List (List ℕ)
placed_parts text place = text ∷ decimal place ∷ bytes ")" ∷ []

-- They have these parts.
pub placed_parts_lem : (text : List ℕ) (place : ℕ) → placed_text text place ≡ in_row (placed_parts text place)
unfolding placed_text
placed_parts_lem text place = refl

-- The bytes of words besides those of the place and the bracket behind it, ..
abbrev besides : Words → ℕ
besides (plain text) = length text
besides (placed text) = length text
besides (among_cells text) = length text

-- .. which take at most 21.
placed-length : (text : List ℕ) (place : ℕ) → place < 2 ^ 64 → length (placed_text text place) ≤ length text + 21
unfolding placed_text
placed-length text place small = let digits = decimal-length 19 place (omega arith) in simp length-append (omega arith)

spoken-length : (w : Words) (place : ℕ) → place < 2 ^ 64 → length (spoken w place) ≤ besides w + 21
spoken-length (plain text) place small = omega arith
spoken-length (placed text) place small = placed-length text place small
spoken-length (among_cells text) place small = placed-length text place small

-- All words of a list have at most so many bytes besides those.
abbrev all_within : ℕ → List Words → Bool
all_within most [] = true
all_within most (w ∷ list) = leb (besides w) most && all_within most list

-- So have those at any place of the list, and those on a number that is not in use if they have.
within_at : (most : ℕ) (list : List Words) (i : ℕ) → besides words_of_none ≤ most → all_within most list ≡ true → besides (get_or list i words_of_none) ≤ most
within_at most [] i none all = none
within_at most (w ∷ list) zero none all = leb-true (besides w) most ((and-eq-true_iff (leb (besides w) most) _).0 all).0
within_at most (w ∷ list) (suc i) none all = within_at most list i none ((and-eq-true_iff (leb (besides w) most) _).0 all).1

-- The words on a number take at most 93 bytes, with the place.
pub words-length : (number place : ℕ) → place < 2 ^ 64 → length (words_text number place) ≤ 93
unfolding words_text
words-length number place small =
    let long = spoken-length (get_or words number words_of_none) place small in
    let short = within_at 72 words number (omega arith) refl in
    omega arith

-- The numbers whose place is among the cells: 10, 11, and 13 to 16.
abbrev pub cell_number : ℕ → Bool
cell_number number = (eqb number 10 || eqb number 11) || (leb 13 number && leb number 16)

-- Two tests say the same.
abbrev alike : Bool → Bool → Bool
alike a b = cond a b (not b)

alike_same : (a b : Bool) → alike a b ≡ true → a ≡ b
alike_same true true e = refl
alike_same true false e = absurd (true≢false (sym e))
alike_same false true e = absurd (true≢false (sym e))
alike_same false false e = refl

-- So say the words of a list, of the numbers from i on.
abbrev alike_from : ℕ → List Words → Bool
alike_from i [] = true
alike_from i (w ∷ list) = alike (cell_number i) (is_among_cells w) && alike_from (suc i) list

alike_at : (i : ℕ) (list : List Words) (k : ℕ) → alike_from i list ≡ true → k < length list → cell_number (i + k) ≡ is_among_cells (get_or list k words_of_none)
alike_at i [] k all inside = absurd (omega arith)
alike_at i (w ∷ list) zero all inside = rw add-zero (alike_same _ _ ((and-eq-true_iff (alike (cell_number i) (is_among_cells w)) _).0 all).0)
alike_at i (w ∷ list) (suc k) all inside =
    let on : i + suc k ≡ suc i + k = omega arith in
    rw on (alike_at (suc i) list k ((and-eq-true_iff (alike (cell_number i) (is_among_cells w)) _).0 all).1 (omega arith))

-- The words on every number say the same.
pub cell_number_lem : (number : ℕ) → cell_number number ≡ place_in_cells number
unfolding place_in_cells
cell_number_lem number = go (leb (length words) number) refl
  where
    go : (t : Bool) → leb (length words) number ≡ t → cell_number number ≡ is_among_cells (get_or words number words_of_none)
    go false e = rw zero-add at (alike_at 0 words number refl (leb-false (length words) number e))
    go true e =
        let high = leb-true (length words) number e in
        rw (
          past_end words number high,
          ne_eqb number 10 (λ is. omega arith),
          ne_eqb number 11 (λ is. omega arith),
          le-leb 13 number (omega arith),
          lt-leb number 16 (omega arith),
        )
