use Prim.Native.Nat.{◌*◌, ◌^◌, ◌≤◌}
use native.Mathlib.Omega.{arith}
use borrow.Author.Rules.{rules}
use Rattle.index_of_word.specs.Levels.{reading_more, reading_within, reading_all, times_within}
use Rattle.index_of_word.proofs.stretch.levels.Goals as goal

-- The number read so far is within bounds, and so is its product.
pub overflow_mul-number : goal.overflow_mul-number
overflow_mul-number c =
    let within : c.loop-level.number ≤ 31 ^ 8 = reading_within c.requires.small (omega (arith, c.requires.few)) c.loop-level.invariant in
    let product : c.loop-level.number * c.args.top ≤ 31 ^ 9 = times_within within c.requires.small in
    omega (arith, within, product)

pub overflow_add-number : goal.overflow_add-number
overflow_add-number c =
    let within : c.loop-level.number ≤ 31 ^ 8 = reading_within c.requires.small (omega (arith, c.requires.few)) c.loop-level.invariant in
    let product : c.loop-level.number * c.args.top ≤ 31 ^ 9 = times_within within c.requires.small in
    omega (arith, within, product, c.type_inv.cells c.loop-level.level-index)

pub loop-level-preserved : goal.loop-level-preserved
loop-level-preserved c = reading_more c.args.top c.args.cells.now (search rules) c.loop-level.invariant

pub returns : goal.returns
returns c = reading_all c.args.top c.args.cells.now (search rules) c.loop-level.invariant
