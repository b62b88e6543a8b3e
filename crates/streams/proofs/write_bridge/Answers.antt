use Rattle.std.proofs.Common.{rules, arith, ◌≡◌, ◌+◌, ◌-◌, replicate}
use Rattle.std.proofs.lemmas.Slice.{overwrites}
use Rattle.streams.specs.BridgeLaws.{bridge_filled}
use Rattle.streams.proofs.write_bridge.Goals as goal

pub returns : goal.returns
returns c =
    let a = c.args in
    let filled : c.fill.new.self ≡ replicate (a.at + a.p.x - a.at) c.bridge_level-level.result = search (rules, overwrites) in
    bridge_filled a.p a.out.now _ a.at c.bridge_level-level.ensures (omega arith) filled
