-- `bits::put` meets its contract: all k bits are written where their parts are.
use native.Mathlib.Nat.{le_refl}
use Rattle.bits.specs.MovingLaws.{written_all}
use Rattle.bits.specs.PartsLaws.{in_parts, written_parts}
use Rattle.bits.proofs.put.Goals as goal

pub returns : goal.returns
returns c =
    let whole = c.before.before.before.before.before.before in
    let first = whole.before.before.before.before in
    let begun = first.before.before in
    let args = begun.args in
    let p = in_parts args.at args.k _ begun.begun-begun.ensures in
    written_all (written_parts p begun.requires.1 first.put_piece.ensures whole.put_bytes.ensures c.put_piece-2.ensures) (le_refl _)
