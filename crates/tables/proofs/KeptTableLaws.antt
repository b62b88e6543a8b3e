-- Laws that stood in specs/TableLaws, which no proof rests on now.
use Rattle.std.specs.Prelude.{◌≡◌, refl, Bool, true, false, not}
use Rattle.std.proofs.Common.{sym, true≢false}

pub not_right : (right : Bool) → not right ≡ true → right ≡ false
not_right true e = absurd (true≢false (sym e))
not_right false e = refl
