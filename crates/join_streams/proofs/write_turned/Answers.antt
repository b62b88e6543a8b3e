use Rattle.std.proofs.lemmas.List.{length_push}
use Rattle.std.proofs.lemmas.Iterator.Adapters.{YieldsList-from_rev_slice}
use Rattle.std.proofs.lemmas.Iterator.Consumers.{YieldsList-from_enumerate, YieldsList-turn, YieldsList-end}
use Rattle.join_streams.specs.CopyLaws.{turned_more, all_turned}
use Rattle.join_streams.proofs.write_turned.Goals as goal

pub loop-i-preserved : goal.loop-i-preserved
loop-i-preserved c =
    let l = c.loop-i in
    let road = YieldsList-from_enumerate (YieldsList-from_rev_slice c.args.cells.now (cc)) (cc) in
    let turn = YieldsList-turn road l.yielded _ l.yielded_by _ _ _ c.in-Some.is c.next.ensures.steps in
    rw length_push (turned_more c.args.cells.now c.args.out.now _ _ _ c.requires turn.0 turn.1 l.invariant)

pub returns : goal.returns
returns c =
    let l = c.loop-i in
    let road = YieldsList-from_enumerate (YieldsList-from_rev_slice c.args.cells.now (cc)) (cc) in
    let end = YieldsList-end road l.yielded _ l.yielded_by _ _ c.in-None.is c.next.ensures.steps in
    all_turned c.args.cells.now c.args.out.now _ end.1 l.invariant
