-- Laws of the written cells: a level and the shorter task behind it are the longer one.
use Rattle.std.specs.Prelude.{◌≡◌, List, ◌∷◌, ◌++◌, ℕ, ◌+◌, ◌-◌, ◌≤◌, ◌<◌, length, take, drop, set}
use Rattle.std.proofs.Common.{sym, ◌∙◌, append_assoc, add-zero, add-one, arith, take-append-drop, take-suc-set, drop-set-lt}
use Rattle.replies.specs.declared.Profile.{Profile}
use Rattle.listing.specs.Listing.{word_of}
use Rattle.word_of_index.specs.Tasks.{word_behind}

-- Where no cells are left, nothing is written.
pub nothing_left : (p : Profile) (guard i : ℕ) {left : ℕ} (at : ℕ) (out : List ℕ) → left ≡ 0
    → out ≡ take at out ++ (word_behind p guard left i ++ drop (at + left) out)
unfolding word_behind word_of
nothing_left p guard i at out none = rw (none, add-zero) (sym (take-append-drop at out))

-- A level written at a place, and the rest of a word behind it.
pub cell_written : (at left : ℕ) {level : ℕ} (out : List ℕ) {cells rest last : List ℕ} → at + left ≤ length out → (left ≡ 0 → ⊥)
    → cells ≡ level ∷ rest
    → last ≡ take (at + 1) (set out at level) ++ (rest ++ drop (at + 1 + (left - 1)) (set out at level))
    → last ≡ take at out ++ (cells ++ drop (at + left) out)
cell_written at left {level} out room some spelt written =
    let place : at + 1 + (left - 1) ≡ at + left = omega arith in
    let inside : at < length out = omega arith in
    let behind = drop-set-lt (at + left) out at level (omega arith) in
    written ∙ rw (place, add-one, take-suc-set out at level inside, behind, append_assoc, spelt)
