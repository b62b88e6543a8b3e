-- Laws that stood in specs/PartLaws, which no proof rests on now.
use Rattle.std.specs.Prelude.{◌≡◌, List, ℕ, ◌-◌, length, take, drop}
use Rattle.std.proofs.Common.{arith, length-drop, take_all}

-- The cells from a place on, as a slice that goes to the end.
pub handed_on : (a : ℕ) (l : List ℕ) → take (length l - a) (drop a l) ≡ drop a l
handed_on a l = take_all (length l - a) (drop a l) (omega (arith, length-drop a l))
