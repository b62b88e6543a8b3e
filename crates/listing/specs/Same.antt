-- A test that two lists of numbers are the same.
use Rattle.std.specs.Prelude.{Bool, true, false, ◌&&◌, List, [], ◌∷◌, ℕ, eqb}

unfoldable pub same : List ℕ → List ℕ → Bool
same [] [] = true
same [] (b ∷ others) = false
same (a ∷ more) [] = false
same (a ∷ more) (b ∷ others) = eqb a b && same more others
