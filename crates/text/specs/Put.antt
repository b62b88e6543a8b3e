-- What a lent list holds with a text put into it.
use Rattle.std.specs.Prelude.{List, ◌++◌, ◌≡◌, ℕ, ◌+◌, ◌≤◌, length, take, drop}

-- A lent list has room for a text from a place on.
abbrev pub Fits : List ℕ → ℕ → List ℕ → Type 0
Fits lent at text = at + length text ≤ length lent

-- A text is put into a lent list from a place on: it fits, what stands elsewhere is as it was, and `next` is the place behind it.
pub record Put (lent : List ℕ) (at : ℕ) (text after : List ℕ) (next : ℕ) : Type 0 where
  pub fits : Fits lent at text
  pub left : after ≡ take at lent ++ (text ++ drop (at + length text) lent)
  pub behind : next ≡ at + length text
