-- `outcomes::spot_of` meets its contract: the place is nowhere, in a word or in a bridge.
use Rattle.std.proofs.Common.{◌≡◌, true, false, not, ◌||◌, leb, lt-ltb, le-ltb, arith}
use Rattle.std.proofs.lemmas.Bool.Decides.{nat_tests}
use Rattle.replies.specs.Answers.{reply_of}
use Rattle.replies.specs.Ranges.{most_cells}
use Rattle.replies.specs.Replies.{is_done}
use Rattle.outcomes.specs.SpotLaws.{refused_is, spot_nowhere, spot_found}
use Rattle.outcomes.proofs.spot_of.Goals as goal

pub returns-then-is_err-clause-value : goal.returns-then-is_err-clause-value
returns-then-is_err-clause-value c =
    let test : (not (is_done (reply_of c.check_profile.result)) || leb most_cells c.args.place) ≡ true = rw (← refused_is c.check_profile.result, ← c.is_err.ensures.value) (grind (arith, nat_tests)) in
    spot_nowhere _ _ c.check_profile.ensures test

pub returns-then-cell-p-clause-value : goal.returns-then-cell-p-clause-value
returns-then-cell-p-clause-value c =
    let test : (not (is_done (reply_of c.check_profile.result)) || leb most_cells c.args.place) ≡ false = rw (← refused_is c.check_profile.result, ← c.is_err.ensures.value) (grind (arith, nat_tests)) in
    spot_found _ _ c.check_profile.ensures test (lt-ltb _ _ c.if-cell-p.true)

pub returns-clause-value : goal.returns-clause-value
returns-clause-value c =
    let test : (not (is_done (reply_of c.check_profile.result)) || leb most_cells c.args.place) ≡ false = rw (← refused_is c.check_profile.result, ← c.is_err.ensures.value) (grind (arith, nat_tests)) in
    spot_found _ _ c.check_profile.ensures test (le-ltb _ _ c.if-cell-p.false)
