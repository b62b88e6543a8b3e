-- Worked examples of the definitions, with a test that the words with no two equal neighbours pass.
use Rattle.std.specs.Prelude.{◌≡◌, refl, Bool, true, false, not, ◌&&◌, List, [], ◌∷◌, ℕ, eqb}
use Rattle.listing.specs.Listing.{all_words, listed, count_of, before, index_in, word_of}

abbrev unequal : List ℕ → Bool
unequal [] = true
unequal (a ∷ []) = true
unequal (a ∷ b ∷ w) = not (eqb a b) && unequal (b ∷ w)

pub record Examples : Type 0 where
  pub all_words : all_words 2 2 ≡ (0 ∷ 0 ∷ []) ∷ (0 ∷ 1 ∷ []) ∷ (1 ∷ 0 ∷ []) ∷ (1 ∷ 1 ∷ []) ∷ []
  pub in_order : before (0 ∷ 2 ∷ []) (1 ∷ 0 ∷ []) ≡ true
  pub not_itself : before (0 ∷ 2 ∷ []) (0 ∷ 2 ∷ []) ≡ false
  pub listing : listed 2 unequal 3 ≡ (0 ∷ 1 ∷ 0 ∷ []) ∷ (1 ∷ 0 ∷ 1 ∷ []) ∷ []
  pub count : count_of 3 unequal 4 ≡ 24
  pub an_index : index_in 3 unequal (1 ∷ 2 ∷ 0 ∷ 1 ∷ []) ≡ 12
  pub its_word : word_of 3 unequal 4 12 ≡ 1 ∷ 2 ∷ 0 ∷ 1 ∷ []

pub examples : Examples
unfolding all_words before listed count_of index_in word_of
examples = record {
  all_words = refl;
  in_order = refl;
  not_itself = refl;
  listing = refl;
  count = refl;
  an_index = refl;
  its_word = refl;
}
