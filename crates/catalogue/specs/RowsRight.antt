-- What it is for a row of the list to be right.
use Rattle.std.specs.Prelude.{◌≡◌}
use Rattle.replies.specs.Replies.{done, profile_of}
use Rattle.replies.specs.declared.Profile.{Profile}
use Rattle.replies.specs.Ranges.{InRange}
use Rattle.profiles.specs.Profiles.{length_of}
use Rattle.catalogue.specs.declared.Published.{Published}

-- The profile of a row.
abbrev pub of_row : Published → Profile
of_row r = profile_of r.q r.m r.x

-- A row is right if it is answered, its profile is in range, and its s is the message length.
pub record RowRight (r : Published) : Type 0 where
  pub answered : r.reply ≡ done
  pub in_range : InRange (of_row r)
  pub length_right : r.s ≡ length_of (of_row r)
