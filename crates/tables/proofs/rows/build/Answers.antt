use mathlib.Core.Path.{refl, ◌∙◌}
use native.Mathlib.Omega.{arith}
use Rattle.tables.specs.RowLaws.{row_0_written, front_next, front_belongs}
use Rattle.tables.proofs.rows.build.Goals as goal

pub loop-i-init : goal.loop-i-init
loop-i-init c =
    let e = c.first-count.ensures in
    record {
      at = omega (arith, e.i_value);
      counted = e.counted;
      written = row_0_written c.args.p c.requires.in_range c.args.out.now (rw e.held at c.store.ensures);
    }

pub step-requires : goal.step-requires
step-requires c =
    let now = c.loop-i.invariant in
    record {
      range = c.requires.in_range;
      more = omega (arith, now.at, c.loop-i-test.true);
      counted = now.counted;
      same = refl;
      right = front_belongs c.args.p c.requires.in_range _ c.args.out.now now.counted.inside (now.written ∙ rw now.at refl);
    }

pub loop-i-preserved : goal.loop-i-preserved
loop-i-preserved c =
    let now = c.loop-i.invariant in
    let e = c.step.ensures in
    record {
      at = rw (e.row, now.at) refl;
      counted = e.counted;
      written = front_next c.args.p c.loop-i.i c.args.out.now now.written refl (rw now.at at e.held) c.store-in-loop-i.ensures;
    }
