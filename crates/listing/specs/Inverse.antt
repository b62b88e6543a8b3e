-- What it is for a word to be found for an index.
use Rattle.std.specs.Prelude.{◌≡◌, Bool, List, ℕ}
use Rattle.listing.specs.Listing.{Word, index_in}

-- The word of an index below the count is a word, and its index is that index.
pub record Found (q : ℕ) (p : List ℕ → Bool) (m i : ℕ) (w : List ℕ) : Type 0 where
  pub word : Word q p m w
  pub index : index_in q p w ≡ i
