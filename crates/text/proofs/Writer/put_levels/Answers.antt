use Rattle.std.proofs.Common.{◌≡◌, ◌+◌, length, arith, length-append, length-drop}
use Rattle.text.specs.LevelsLaws.{other_at, others, further_none, further_more, further_split, levels_first, levels_none, levels_all}
use Rattle.text.specs.WriterLaws.{puts_nothing, puts_more}
use Rattle.text.proofs.Writer.put_levels.Goals as goal

pub returns-in_default : goal.returns-in_default
returns-in_default c =
    let w = c.args.self.now in
    let none : length c.args.cells.now ≡ 0 = omega arith in
    rw (levels_none c.args.cells.now none) (puts_nothing w (omega arith))

pub put_decimal-requires : goal.put_decimal-requires
put_decimal-requires c =
    let room = simp length-append at (rw (levels_first c.args.cells.now (omega arith)) at c.requires) in
    rw c.from.ensures (omega arith)

pub loop-level-init : goal.loop-level-init
loop-level-init c =
    let room = simp length-append at (rw (levels_first c.args.cells.now (omega arith)) at c.requires) in
    let first = rw c.from.ensures at c.put_decimal.ensures in
    rw (further_none c.args.cells.now) (puts_nothing _ (omega arith))

-- A comma, the level that is put and those behind it fit behind those that are put.
pub put-requires : goal.put-requires
put-requires c =
    let cells = c.args.cells.now in
    let first = rw c.from.ensures at c.put_decimal.ensures in
    let inside = rw (others cells, length-drop) at c.loop-level-test.true in
    let split = further_split cells (c.loop-level.level-index + 1) (omega arith) (omega arith) in
    let room = simp length-append at (rw (levels_first cells (omega arith), split) at c.requires) in
    omega arith

pub put_decimal-requires-in-loop-level : goal.put_decimal-requires-in-loop-level
put_decimal-requires-in-loop-level c =
    let cells = c.args.cells.now in
    let first = rw c.from.ensures at c.put_decimal.ensures in
    let inside = rw (others cells, length-drop) at c.loop-level-test.true in
    let split = further_split cells (c.loop-level.level-index + 1) (omega arith) (omega arith) in
    let room = simp length-append at (rw (levels_first cells (omega arith), split) at c.requires) in
    rw (c.from-in-loop-level.ensures, other_at cells c.loop-level.level-index) (omega arith)

pub loop-level-preserved : goal.loop-level-preserved
loop-level-preserved c =
    let cells = c.args.cells.now in
    let i = c.loop-level.level-index in
    let inside = rw (others cells, length-drop) at c.loop-level-test.true in
    let put = rw (c.from-in-loop-level.ensures, other_at cells i) at c.put_decimal-in-loop-level.ensures in
    rw (further_more cells (i + 1) (omega arith) (omega arith)) (puts_more c.loop-level.invariant (puts_more c.put.ensures put))

pub returns-after-loop-level : goal.returns-after-loop-level
returns-after-loop-level c =
    let cells = c.args.cells.now in
    let first = rw c.from.ensures at c.put_decimal.ensures in
    let past = rw (others cells, length-drop) at c.loop-level-test.false in
    rw (levels_all cells (c.loop-level.level-index + 1) (omega arith) (omega arith)) (puts_more first c.loop-level.invariant)
