-- What a writer has put: its texts stand one behind another in the bytes that are lent to it.
use Rattle.std.specs.Prelude.{◌≡◌, List, ℕ, length}
use Rattle.text.specs.declared.Writer.{Writer}
use Rattle.text.specs.Put.{Fits, Put}

-- A writer has room for a text behind what it has put.
abbrev pub HasRoom : Writer → List ℕ → Type 0
HasRoom w text = Fits w.out.now w.at text

-- A writer has put a text behind that, into the same lent bytes, of which there are as many as before.
pub record Puts (old : Writer) (text : List ℕ) (new : Writer) : Type 0 where
  pub put : Put old.out.now old.at text new.out.now new.at
  pub as_many : length new.out.now ≡ length old.out.now
  pub same_out : new.out.ghost_name ≡ old.out.ghost_name
