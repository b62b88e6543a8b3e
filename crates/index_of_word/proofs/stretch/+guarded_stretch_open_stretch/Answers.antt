use Prim.Native.Nat.{◌-◌}
use native.Mathlib.Omega.{arith}
use lib.ListN.{length}
use Rattle.index_of_word.specs.Counts.{leads_on, leads_counted, count_in_total, counted_none, row_inside}
use Rattle.index_of_word.specs.Passing.{few_guarded, past_low, past_top, top_addable, past_first_top, guarded_run, guarded_addable, past_first_guarded}
use Rattle.index_of_word.proofs.stretch.+guarded_stretch_open_stretch.Goals as goal

-- The guarded walker, just behind a top.
pub guarded_stretch-returns-then-left-eq0 : goal.guarded_stretch-returns-then-left-eq0
guarded_stretch-returns-then-left-eq0 t c = counted_none c.args.cells.now c.args.at (omega arith) c.requires.1

-- A top behind a top.
pub guarded_stretch-add_guarded-requires : goal.guarded_stretch-add_guarded-requires
guarded_stretch-add_guarded-requires t c =
    top_addable c.args.top c.args.x c.args.cells.now c.args.at (omega arith) c.requires.1 c.min-k.ensures c.power-whole.ensures

pub guarded_stretch-guarded_stretch-requires : goal.guarded_stretch-guarded_stretch-requires
guarded_stretch-guarded_stretch-requires t c =
    let leads =
    past_first_top c.args.top c.args.x c.args.cells.now c.args.at (omega arith) c.requires.1 c.min-k.ensures c.power-whole.ensures c.if-cells-at.true
    c.add_guarded.ensures in
    (omega arith, (omega arith, leads.countable))

pub guarded_stretch-returns-then-cells-at : goal.guarded_stretch-returns-then-cells-at
guarded_stretch-returns-then-cells-at t c =
    leads_counted
    (past_first_top c.args.top c.args.x c.args.cells.now c.args.at (omega arith) c.requires.1 c.min-k.ensures c.power-whole.ensures c.if-cells-at.true
    c.add_guarded.ensures)
    c.guarded_stretch.ensures

-- Guarded cells, the first of them below top.
pub guarded_stretch-levels-number-requires : goal.guarded_stretch-levels-number-requires
guarded_stretch-levels-number-requires t c =
    guarded_run c.args.top c.args.x c.args.cells.now c.args.at (omega arith) c.requires.1 c.min-k.ensures c.if-cells-at.false

pub guarded_stretch-add_guarded-requires-else-cells-at : goal.guarded_stretch-add_guarded-requires-else-cells-at
guarded_stretch-add_guarded-requires-else-cells-at t c =
    guarded_addable c.args.top c.args.x c.args.cells.now c.args.at (omega arith) c.requires.1 c.min-k.ensures c.if-cells-at.false c.levels-number.ensures

pub guarded_stretch-open_stretch-requires : goal.guarded_stretch-open_stretch-requires
guarded_stretch-open_stretch-requires t c =
    let few = few_guarded c.args.top c.args.x c.args.cells.now c.args.at (omega arith) c.requires.1 c.min-k.ensures in
    let leads =
    past_first_guarded c.args.top c.args.x c.args.cells.now c.args.at (omega arith) c.requires.1 c.min-k.ensures c.if-cells-at.false
    c.levels-number.ensures c.add_guarded-else-cells-at.ensures in
    (omega (arith, few.some), (omega (arith, few.inside), leads.countable))

pub guarded_stretch-returns-else-cells-at : goal.guarded_stretch-returns-else-cells-at
guarded_stretch-returns-else-cells-at t c =
    leads_counted
    (past_first_guarded c.args.top c.args.x c.args.cells.now c.args.at (omega arith) c.requires.1 c.min-k.ensures c.if-cells-at.false
    c.levels-number.ensures c.add_guarded-else-cells-at.ensures)
    c.open_stretch.ensures

-- The open walker: the cell's row has a count.
pub open_stretch-overflow_add-counts : goal.open_stretch-overflow_add-counts
open_stretch-overflow_add-counts t c =
    let countable = c.loop-i.invariant.countable in
    let inside = row_inside c.args.cells.now c.loop-i.i c.loop-i-test.true countable in
    record {
      fits = omega (
        arith,
        count_in_total (length c.args.cells.now - c.loop-i.i - 1) c.loop-i.counts,
        c.type_inv.cells c.loop-i.i,
        countable.room,
      );
    }

-- Past a top in an open stretch.
pub open_stretch-guarded_stretch-requires : goal.open_stretch-guarded_stretch-requires
open_stretch-guarded_stretch-requires t c =
    let so_far = c.loop-i.invariant in
    let leads = leads_on so_far (past_top c.args.top c.args.x c.args.cells.now _ c.loop-i-test.true c.if-level-top.true so_far.countable) in
    (omega arith, (omega arith, leads.countable))

pub open_stretch-returns-then-level-top : goal.open_stretch-returns-then-level-top
open_stretch-returns-then-level-top t c =
    let so_far = c.loop-i.invariant in
    leads_counted
    (leads_on so_far (past_top c.args.top c.args.x c.args.cells.now _ c.loop-i-test.true c.if-level-top.true so_far.countable))
    c.guarded_stretch.ensures

pub open_stretch-loop-i-preserved : goal.open_stretch-loop-i-preserved
open_stretch-loop-i-preserved t c =
    let so_far = c.loop-i.invariant in
    leads_on so_far (past_low c.args.top c.args.x c.args.cells.now _ c.loop-i-test.true c.if-level-top.false so_far.countable)

pub open_stretch-returns : goal.open_stretch-returns
open_stretch-returns t c =
    let so_far = c.loop-i.invariant in
    leads_counted so_far (counted_none c.args.cells.now _ c.loop-i-test.false so_far.countable)
