use Rattle.std.proofs.Common.{rules, tests, arith, ◌≡◌, ◌+◌, ◌-◌, not, eqb, take, drop}
use Rattle.std.proofs.lemmas.Iterator.{YieldsList-from_slice}
use Rattle.std.proofs.lemmas.Iterator.Search.{position_from_yields_List}
use Rattle.streams.specs.BridgeLaws.{wrong_found}
use Rattle.streams.proofs.first_wrong.Goals as goal

pub returns : goal.returns
returns c =
    let a = c.args in
    let level = c.bridge_level-level.result in
    let x : a.at + a.p.x - a.at ≡ a.p.x = omega arith in
    let run = take (a.at + a.p.x - a.at) (drop a.at a.cells.now) in
    let found = position_from_yields_List (λ cell. not (eqb cell level)) _ _ c.position.result c.position.ensures.ran (YieldsList-from_slice run (cc))
    (λ cell b q k. search (rules, tests)) in
    wrong_found a.p a.cells.now a.at level c.bridge_level-level.ensures c.requires.2 _ (rw x at found)
