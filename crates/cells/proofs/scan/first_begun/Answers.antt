use Rattle.std.proofs.Common.{◌≡◌, true, false, arith, rules, tests}
use Rattle.std.proofs.lemmas.List.{take_rest}
use Rattle.std.proofs.lemmas.Iterator.{first_from_Range}
use Rattle.code.specs.Code.{below_top}
use Rattle.cells.specs.Finding.{pattern_at}
use Rattle.cells.proofs.scan.first_begun.Goals as goal

pub returns : goal.returns
returns c =
    let begun = pattern_at (below_top c.args.top c.args.x) c.args.cells.now in
    first_from_Range _ _ _ _ (λ i. begun i ≡ true) (λ i. begun i ≡ false) c.find.ensures.ran (λ i q k. grind (arith, tests, take_rest))
    (λ i q k. (search rules, grind (arith, tests, take_rest)))
