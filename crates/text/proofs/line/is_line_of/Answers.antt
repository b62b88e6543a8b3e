-- `text::line::is_line_of` meets its contract: the line of the numbers is put beside, and the bytes are compared with it.
use mathlib.Core.Path.{◌≡◌, ◌∙◌}
use mathlib.Core.Bool.{false}
use native.Mathlib.Omega.{arith}
use Rattle.std.proofs.lemmas.Bool.Decides.{nat_tests}
use Rattle.text.specs.PutLaws.{put_front}
use Rattle.text.specs.LineLaws.{profile_short}
use Rattle.text.specs.ReadingLaws.{too_long, not_too_long, too_long_no_line, line_compared, pointwise_same}
use Rattle.text.specs.WriterLaws.{puts_more}
use Rattle.text.proofs.line.is_line_of.Goals as goal

pub returns-then-p-ge1000 : goal.returns-then-p-ge1000
returns-then-p-ge1000 c = too_long_no_line c.args.line.now c.args.p (grind (arith, nat_tests))

pub put_profile-requires : goal.put_profile-requires
put_profile-requires c =
    let few : too_long c.args.p ≡ false = grind (arith, nat_tests) in
    omega (arith, profile_short c.args.p (not_too_long c.args.p few))

pub put-requires : goal.put-requires
put-requires c =
    let few : too_long c.args.p ≡ false = grind (arith, nat_tests) in
    omega (arith, profile_short c.args.p (not_too_long c.args.p few))

pub returns : goal.returns
returns c =
    let few : too_long c.args.p ≡ false = grind (arith, nat_tests) in
    let put = puts_more c.put_profile.ensures c.put.ensures in
    line_compared c.args.line.now c.args.p (not_too_long c.args.p few) (c.front.ensures ∙ put_front put.put) (c.eq.ensures ∙ pointwise_same c.args.line.now _)
