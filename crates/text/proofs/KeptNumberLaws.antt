-- Laws that stood in specs/NumberLaws, which no proof rests on now.
use Rattle.std.specs.Prelude.{◌≡◌, true, false, ◌||◌, List, ◌∷◌, ℕ, ◌+◌, ◌<◌, ltb, length, drop, get_or}
use Rattle.std.proofs.Common.{sym, ◌∙◌}
use Rattle.text.specs.Text.{byte, digit}
use Rattle.text.specs.Line.{is_digit, number_in, behind_number}
use Rattle.text.specs.NumberLaws.{outside_no_digit, ReadTo, left_from}

-- Any other byte ends the number.
number_ends : (v c : ℕ) (more : List ℕ) → is_digit c ≡ false → number_in v (c ∷ more) ≡ v
unfolding number_in
number_ends v c more e = rw e

-- Behind a byte that ends a number stands what is left.
behind_end : (c : ℕ) (more : List ℕ) → is_digit c ≡ false → behind_number (c ∷ more) ≡ more
unfolding behind_number
behind_end c more e = rw e

module _ (line : List ℕ) (at i : ℕ) {v : ℕ} (read : ReadTo line at i v) where
  -- A byte that is no digit ends the number: the value is it, and the next index is behind it.
  pub read_to_other : i < length line → (ltb (get_or line i 0) (byte "0") || ltb (byte "9") (get_or line i 0)) ≡ true
      → (v ≡ number_in 0 (drop at line)) × (drop (i + 1) line ≡ behind_number (drop at line))
  read_to_other inside outside =
      let left = left_from line i inside in
      let e = outside_no_digit (get_or line i 0) outside in
      (sym (number_ends v _ _ e) ∙ rw left at read.number, sym (behind_end _ _ e) ∙ rw left at read.behind)
