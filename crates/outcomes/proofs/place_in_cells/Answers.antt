-- `outcomes::place_in_cells` meets its contract: the numbers are those whose words say so.
use native.Mathlib.Omega.{arith}
use Rattle.std.proofs.lemmas.Bool.Decides.{nat_tests}
use Rattle.outcomes.specs.WordsLaws.{cell_number_lem}
use Rattle.outcomes.proofs.place_in_cells.Goals as goal

pub returns-in-10 : goal.returns-in-10
returns-in-10 c = rw (← cell_number_lem c.args.number) (grind (arith, nat_tests))

pub returns-in-10-2 : goal.returns-in-10-2
returns-in-10-2 c = rw (← cell_number_lem c.args.number) (grind (arith, nat_tests))

pub returns-in_default : goal.returns-in_default
returns-in_default c = rw (← cell_number_lem c.args.number) (grind (arith, nat_tests))

pub returns-in_default-2 : goal.returns-in_default-2
returns-in_default-2 c = rw (← cell_number_lem c.args.number) (grind (arith, nat_tests))

pub returns-in_default-3 : goal.returns-in_default-3
returns-in_default-3 c = rw (← cell_number_lem c.args.number) (grind (arith, nat_tests))
