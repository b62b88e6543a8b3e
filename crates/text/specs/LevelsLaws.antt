-- Laws of levels joined by commas: one level after another, and how many bytes they take.
use Rattle.std.specs.Prelude.{◌≡◌, refl, true, List, [], ◌∷◌, ◌++◌, ℕ, zero, suc, ◌+◌, ◌-◌, ◌*◌, ◌^◌, ◌≤◌, ◌<◌, ltb, length, take, drop, get_or}
use Rattle.std.proofs.Common.{sym, ap, ◌∙◌, append-nil, append_assoc, mul-suc, add-one, add_comm, arith, length-append, length-drop, take-append-drop, take-suc, take_all, drop-cons, ltb-true}
use Rattle.std.proofs.Math.Bool.{and-eq-true_iff}
use Rattle.std.proofs.lemmas.List.{get_or-drop}
use Rattle.listing.specs.Listing.{all_below}
use Rattle.text.specs.Text.{bytes, decimal, further_levels, levels_text}
use Rattle.text.specs.DecimalLaws.{decimal-length}

-- The first i levels but for the very first, each behind a comma.
abbrev pub further_to : ℕ → List ℕ → List ℕ
further_to i cells = further_levels (drop 1 (take i cells))

-- Of the first level alone, none stands behind a comma.
pub further_none : (cells : List ℕ) → further_to 1 cells ≡ []
further_none [] = refl
further_none (c ∷ cells) = refl

-- Levels behind commas and more of them are all of them behind commas.
further-append : (a b : List ℕ) → further_levels (a ++ b) ≡ further_levels a ++ further_levels b
further-append [] b = refl
further-append (c ∷ a) b = rw (further-append a b) (simp append_assoc)

-- With one level more, a comma and that level stand behind the others.
pub further_more : (cells : List ℕ) (i : ℕ) → 0 < i → i < length cells
    → further_to (i + 1) cells ≡ further_to i cells ++ (bytes "," ++ decimal (get_or cells i 0))
further_more [] i some inside = absurd (omega arith)
further_more (c ∷ cells) zero some inside = absurd (omega arith)
further_more (c ∷ cells) (suc i) some inside = rw (add-one, take-suc cells i 0 (omega arith), further-append, append-nil)

-- All levels but the first are the others before one, that one behind a comma, and those after it.
pub further_split : (cells : List ℕ) (i : ℕ) → 0 < i → i < length cells
    → further_levels (drop 1 cells) ≡ further_to i cells ++ (bytes "," ++ (decimal (get_or cells i 0) ++ further_levels (drop (i + 1) cells)))
further_split [] i some inside = absurd (omega arith)
further_split (c ∷ cells) zero some inside = absurd (omega arith)
further_split (c ∷ cells) (suc i) some inside =
    ap further_levels (sym (take-append-drop i cells)) ∙ rw (add-one, further-append, drop-cons cells i 0 (omega arith))

-- The others from the first on are those behind it.
pub others : (cells : List ℕ) → take (length cells - 1) (drop 1 cells) ≡ drop 1 cells
others cells = take_all (length cells - 1) (drop 1 cells) (rw length-drop (omega arith))

pub other_at : (cells : List ℕ) (i : ℕ) → get_or (take (length cells - 1) (drop 1 cells)) i 0 ≡ get_or cells (i + 1) 0
other_at cells i = rw (others cells, get_or-drop 1 cells i 0, add_comm 1 i)

-- Levels are the first, and the others behind commas.
pub levels_first : (cells : List ℕ) → 0 < length cells → levels_text cells ≡ decimal (get_or cells 0 0) ++ further_levels (drop 1 cells)
unfolding levels_text
levels_first [] some = absurd (omega arith)
levels_first (c ∷ cells) some = refl

-- No levels are no text.
pub levels_none : (cells : List ℕ) → length cells ≡ 0 → levels_text cells ≡ []
unfolding levels_text
levels_none [] none = refl
levels_none (c ∷ cells) none = absurd (omega arith)

-- The first level and the others among the first i are all levels, where there are no more than i.
pub levels_all : (cells : List ℕ) (i : ℕ) → 0 < length cells → length cells ≤ i
    → levels_text cells ≡ decimal (get_or cells 0 0) ++ further_to i cells
levels_all cells i some all = levels_first cells some ∙ rw (take_all i cells all)

-- Levels below q, each behind a comma, take at most k + 2 bytes each, where q is at most 10^(k + 1).
length_further : (q k : ℕ) → q ≤ 10 ^ suc k → (cells : List ℕ) → all_below q cells ≡ true → length (further_levels cells) ≤ suc (suc k) * length cells
length_further q k most [] below = omega arith
length_further q k most (c ∷ cells) below =
    let both = (and-eq-true_iff (ltb c q) _).0 below in
    let first = ltb-true c q both.0 in
    let digits = decimal-length k c (omega arith) in
    let further = length_further q k most cells both.1 in
    rw (length-append (decimal c) (further_levels cells), mul-suc) (omega arith)

-- Joined by commas, such levels take at most k + 2 bytes each too.
pub length_levels : (q k : ℕ) → q ≤ 10 ^ suc k → (cells : List ℕ) → all_below q cells ≡ true → length (levels_text cells) ≤ suc (suc k) * length cells
unfolding levels_text
length_levels q k most [] below = omega arith
length_levels q k most (c ∷ cells) below = let all = length_further q k most (c ∷ cells) below in omega arith
