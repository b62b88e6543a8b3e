use Rattle.std.proofs.Common.{arith, ◌∙◌, sym}
use Rattle.streams.specs.OrderLaws.{bridge_inside, bridges_more, bridges_all}
use Rattle.streams.proofs.bridges_right.Goals as goal

pub first_wrong-requires : goal.first_wrong-requires
first_wrong-requires c =
    let pre = c.requires in
    (pre.0, omega arith, bridge_inside _ _ _ pre.0 c.loop-at.invariant c.loop-at-test.true)

pub loop-at-preserved : goal.loop-at-preserved
loop-at-preserved c =
    bridges_more _ _ _ c.requires.0 c.loop-at.invariant _ c.loop-at-test.true c.first_wrong.ensures (sym c.is_some.ensures ∙ c.if-is_some.false)

pub returns : goal.returns
returns c = λ e. bridges_all _ _ _ c.requires.0 c.loop-at.invariant c.loop-at-test.false

pub returns-else-is_some : goal.returns-else-is_some
returns-else-is_some c =
    let range = c.requires.0 in
    let more = bridges_more _ _ _ range c.loop-at.invariant _ c.loop-at-test.true c.first_wrong.ensures (sym c.is_some.ensures ∙ c.if-is_some.false) in
    λ e. bridges_all _ _ _ range more (omega arith)
