use mathlib.Core.Path.{refl}
use native.Mathlib.Omega.{arith}
use Rattle.tables.specs.CheckLaws.{first_row_right, next_row_right, next_row_wrong}
use Rattle.tables.proofs.check_table.Goals as goal

pub loop-i-init : goal.loop-i-init
loop-i-init c =
    let e = c.first-count.ensures in
    record {
      at = omega (arith, e.i_value);
      counted = e.counted;
      right = first_row_right c.args.table.now c.requires c.in_ok-refuse_if.ensures e.i_value e.held c.in_ok-check_row.ensures;
    }

pub loop-i-preserved : goal.loop-i-preserved
loop-i-preserved c =
    let now = c.loop-i.invariant in
    let e = c.step.ensures in
    record {
      at = rw (e.row, now.at) refl;
      counted = e.counted;
      right = next_row_right c.args.table.now c.requires c.in_ok-refuse_if.ensures now.right e now.at c.in_ok-check_row-2.ensures;
    }

pub returns-in_err-check_row-2 : goal.returns-in_err-check_row-2
returns-in_err-check_row-2 c =
    let now = c.loop-i.invariant in
    let wrong = next_row_wrong c.args.table.now c.requires c.in_ok-refuse_if.ensures now.right c.step.ensures now.at _ c.in_err-check_row-2.ensures in
    grind (arith, wrong)
