use Rattle.std.proofs.Common.{get_or, eqb, arith}
use Rattle.text.specs.WriterLaws.{puts_nothing, puts_more}
use Rattle.outcomes.specs.TextLaws.{front_counts}
use Rattle.outcomes.specs.CellsLaws.{shown_none, shown_more, shown_all, cell-length}
use Rattle.outcomes.proofs.around.Goals as goal

pub loop-i-init : goal.loop-i-init
loop-i-init c = rw c.first_shown-i.ensures (omega arith, omega arith, rw (shown_none c.args.cells.now c.args.place) (puts_nothing _ (omega arith)))

pub put_cell-requires : goal.put_cell-requires
put_cell-requires c =
    let i = c.loop-i.i in
    let long = c.loop-i.invariant.2.as_many in
    omega (arith, cell-length (get_or c.args.cells.now i 0) (eqb i c.args.place) (omega (arith, c.type_inv.cells i)))

pub loop-i-preserved : goal.loop-i-preserved
loop-i-preserved c =
    let i = c.loop-i.i in
    let cells = c.args.cells.now in
    let small = cell-length (get_or cells i 0) (eqb i c.args.place) (omega (arith, c.type_inv.cells i)) in
    let put = c.put_cell.ensures in
    let behind = put.put.behind in
    (omega arith, omega arith, rw (shown_more cells c.args.place i (omega arith) (omega arith)) (puts_more c.loop-i.invariant.2 put))

pub returns : goal.returns
returns c =
    let l = c.loop-i in
    let a = c.args in
    let front = front_counts l.invariant.2.put in
    rw (← shown_all a.cells.now a.place l.i (omega arith)) (record { prefix_len = front.0; out_after = front.1 })
