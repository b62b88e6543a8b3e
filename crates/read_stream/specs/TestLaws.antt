-- What is known where numbers 14, 15, 16 are tested.
use Rattle.std.specs.Prelude.{List, ℕ}
use Rattle.replies.specs.declared.Profile.{Profile}
use Rattle.replies.specs.Ranges.{InRange}
use Rattle.profiles.specs.Profiles.{LegalFor}
use Rattle.read_stream.specs.LimitLaws.{Limits}
use Rattle.read_stream.specs.WordLaws.{EachWord}

-- A part of a stream may be tested: the profile is in range, the limit is that of 15, and the words are legal.
pub record Testable (p : Profile) (limit part : List ℕ) : Type 0 where
  pub range : InRange p
  pub limits : Limits p limit
  pub words : EachWord p (LegalFor p) part
