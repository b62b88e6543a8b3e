use mathlib.Core.Path.{refl}
use Prim.Native.Nat.{◌*◌}
use native.Mathlib.Nat.{le_antisymm}
use borrow.Author.Rules.{rules}
use Rattle.limbs.specs.Limbs.{number_at}
use Rattle.tables.specs.CheckLaws.{limb_same, limb_differs, limbs_same}
use Rattle.tables.proofs.check_row.Goals as goal

pub loop-k-init : goal.loop-k-init
unfolding number_at
loop-k-init c = refl

pub returns-then-number-k : goal.returns-then-number-k
returns-then-number-k c =
    rw (
      c.at.ensures.why,
      c.at.ensures.place,
      ← limb_differs c.args.number.now c.args.table.now (10 * c.args.i) c.requires.0
          (search rules) (search rules) (search rules) c.if-number-k.true,
    )

pub loop-k-preserved : goal.loop-k-preserved
loop-k-preserved c = limb_same c.args.number.now c.args.table.now (10 * c.args.i) c.loop-k.k c.loop-k.invariant c.if-number-k.false

pub returns : goal.returns
returns c =
    let past = le_antisymm c.loop-k.auto.k-end c.loop-k-test.false in
    rw (← limbs_same c.args.number.now c.args.table.now (10 * c.args.i) c.requires.0 (rw past at c.loop-k.invariant))
