-- Laws of numbers 10, 11 and 7: which place they are given at, and what cells that are not refused are.
use Rattle.std.specs.Prelude.{◌≡◌, refl, true, not, Some, None, List, [], ◌∷◌, ℕ, zero, suc, ◌≤◌, ◌<◌, ltb, leb, length, get_or, position}
use Rattle.std.proofs.Common.{sym, arith, leb-false, ltb-true, le-leb, lt-ltb}
use Rattle.std.proofs.Math.Bool.{and-eq-true_iff}
use Rattle.std.proofs.lemmas.Bool.{lt-leb, not-true}
use Rattle.replies.specs.Replies.{done, refused}
use Rattle.replies.specs.ReplyLaws.{Nowhere, both_done, first_refused, none_refused, holds_nowhere}
use Rattle.listing.specs.Listing.{all_below}
use Rattle.patterns.specs.Pattern.{Patterns, pattern_up_to, pattern_free}
use Rattle.code.specs.Code.{published, legal}
use Rattle.cells.specs.Finding.{cell_refusal, pattern_at, pattern_refusal, cells_refusal}
use Rattle.cells.specs.FirstLaws.{found_refused, none_found}
use Rattle.cells.specs.QuickLaws.{reaches_at}

-- 10 is given at the first cell at or above q, ..
pub first_cell_refused : (q : ℕ) (cells : List ℕ) (i : ℕ) → Nowhere (reaches_at q cells) 0 i → q ≤ get_or cells i 0 → i < length cells
    → refused 10 i ≡ cell_refusal q cells
unfolding cell_refusal
first_cell_refused q cells i before here inside =
    sym (first_refused (reaches_at q cells) (length cells) 10 i before (le-leb q (get_or cells i 0) here) inside)

-- .. and nothing where there is none.
pub no_cell_refused : (q : ℕ) (cells : List ℕ) → Nowhere (reaches_at q cells) 0 (length cells) → done ≡ cell_refusal q cells
unfolding cell_refusal
no_cell_refused q cells none = sym (none_refused (reaches_at q cells) (length cells) 10 none)

-- That is the first cell that is sought.
pub cell_found : (q : ℕ) (cells : List ℕ) (place : ℕ) → position (leb q) cells ≡ Some place → refused 10 place ≡ cell_refusal q cells
unfolding cell_refusal
cell_found q cells place e = found_refused (leb q) cells 10 place e

pub no_cell_found : (q : ℕ) (cells : List ℕ) → position (leb q) cells ≡ None → done ≡ cell_refusal q cells
unfolding cell_refusal
no_cell_found q cells e = none_found (leb q) cells 10 e

-- 11 is given at the first place at which a pattern begins, ..
pub first_pattern_refused : (S : Patterns) (cells : List ℕ) (i : ℕ) → Nowhere (pattern_at S cells) 0 i → pattern_at S cells i ≡ true → i < length cells
    → refused 11 i ≡ pattern_refusal S cells
unfolding pattern_refusal
first_pattern_refused S cells i before here inside = sym (first_refused (pattern_at S cells) (length cells) 11 i before here inside)

-- .. and nothing where there is none.
pub no_pattern_refused : (S : Patterns) (cells : List ℕ) → Nowhere (pattern_at S cells) 0 (length cells) → done ≡ pattern_refusal S cells
unfolding pattern_refusal
no_pattern_refused S cells none = sym (none_refused (pattern_at S cells) (length cells) 11 none)

nowhere_below : (q : ℕ) (cells : List ℕ) → Nowhere (reaches_at q cells) 0 (length cells) → all_below q cells ≡ true
nowhere_below q [] none = refl
nowhere_below q (c ∷ cells) none =
    rw (lt-ltb c q (leb-false q c (none 0 (omega arith) (omega arith)))) (nowhere_below q cells (λ k l h. none (suc k) (omega arith) (omega arith)))

below_nowhere : (q : ℕ) (cells : List ℕ) → all_below q cells ≡ true → Nowhere (reaches_at q cells) 0 (length cells)
below_nowhere q [] all k l h = absurd (omega arith)
below_nowhere q (c ∷ cells) all zero l h = let p = (and-eq-true_iff (ltb c q) (all_below q cells)).0 all in lt-leb q c (ltb-true c q p.0)
below_nowhere q (c ∷ cells) all (suc k) l h =
    let p = (and-eq-true_iff (ltb c q) (all_below q cells)).0 all in below_nowhere q cells p.1 k (omega arith) (omega arith)

-- Cells that 10 does not refuse are all below q, and cells below q it does not refuse.
pub cells_below : (q : ℕ) (cells : List ℕ) → (cell_refusal q cells).number ≡ 0 → all_below q cells ≡ true
unfolding cell_refusal
cells_below q cells e = nowhere_below q cells (holds_nowhere (reaches_at q cells) (length cells) 9 e)

pub below_not_refused : (q : ℕ) (cells : List ℕ) → all_below q cells ≡ true → cell_refusal q cells ≡ done
below_not_refused q cells all = sym (no_cell_refused q cells (below_nowhere q cells all))

nowhere_free : (S : Patterns) (cells : List ℕ) → Nowhere (pattern_at S cells) 0 (length cells) → pattern_free S cells ≡ true
unfolding pattern_free
nowhere_free S [] none = refl
nowhere_free S (c ∷ cells) none =
    rw (none 0 (omega arith) (omega arith)) (nowhere_free S cells (λ k l h. none (suc k) (omega arith) (omega arith)))

free_nowhere : (S : Patterns) (cells : List ℕ) → pattern_free S cells ≡ true → Nowhere (pattern_at S cells) 0 (length cells)
unfolding pattern_free
free_nowhere S [] free k l h = absurd (omega arith)
free_nowhere S (c ∷ cells) free zero l h =
    let p = (and-eq-true_iff (not (pattern_up_to S S.reach (c ∷ cells))) (pattern_free S cells)).0 free in not-true _ p.0
free_nowhere S (c ∷ cells) free (suc k) l h =
    let p = (and-eq-true_iff (not (pattern_up_to S S.reach (c ∷ cells))) (pattern_free S cells)).0 free in
    free_nowhere S cells p.1 k (omega arith) (omega arith)

-- Cells that 11 does not refuse have no forbidden pattern, and cells without one it does not refuse.
pub cells_legal : (q x : ℕ) (cells : List ℕ) → (pattern_refusal (published q x) cells).number ≡ 0 → legal q x cells ≡ true
unfolding pattern_refusal legal
cells_legal q x cells e = nowhere_free (published q x) cells (holds_nowhere (pattern_at (published q x) cells) (length cells) 10 e)

pub legal_not_refused : (q x : ℕ) (cells : List ℕ) → legal q x cells ≡ true → pattern_refusal (published q x) cells ≡ done
unfolding legal
legal_not_refused q x cells free = sym (no_pattern_refused (published q x) cells (free_nowhere (published q x) cells free))

-- Cells that neither refuses are all below q and have no forbidden pattern.
pub record Accepted (q x : ℕ) (cells : List ℕ) : Type 0 where
  pub levelled : all_below q cells ≡ true
  pub passes : legal q x cells ≡ true

pub cells_accepted : (q x : ℕ) (cells : List ℕ) → (cells_refusal q (published q x) cells).number ≡ 0 → Accepted q x cells
unfolding cells_refusal
cells_accepted q x cells e =
    let both = both_done _ _ e in
    record { levelled = cells_below q cells both.first; passes = cells_legal q x cells both.second }
