-- `lists::list`: the line of a profile in range fits.
use Rattle.std.proofs.Common.{◌≡◌, true, refl, arith, lt-ltb}
use Rattle.replies.specs.declared.Profile.{Profile}
use Rattle.replies.specs.ReplyLaws.{profile_in_range}
use Rattle.replies.specs.Ranges.{InRange}
use Rattle.text.specs.Line.{three_digits}
use Rattle.text.specs.LineLaws.{profile_short}
use Rattle.commands_on_profiles.proofs.lists.list.Goals as goal

-- A profile in range has numbers of at most three digits.
three_digits_lem : {p : Profile} → InRange p → three_digits p ≡ true
three_digits_lem {p} range =
    let q = range.levels.most in
    let m = range.length.most in
    let x = range.reach.most in
    rw (lt-ltb p.q 1000 (omega arith), lt-ltb p.m 1000 (omega arith), lt-ltb p.x 1000 (omega arith))

pub put_profile-requires : goal.put_profile-requires
put_profile-requires g c =
    let range = profile_in_range _ c.in_ok-check_profile.ensures refl in
    omega (arith, profile_short c.args.job.asked.profile (three_digits_lem range))

pub put-requires : goal.put-requires
put-requires g c =
    let range = profile_in_range _ c.in_ok-check_profile.ensures refl in
    omega (arith, profile_short c.args.job.asked.profile (three_digits_lem range))
