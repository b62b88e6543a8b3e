-- `bits::gather` meets its contract: the number of all k bits is that of their parts.
use mathlib.Core.Path.{◌∙◌}
use native.Mathlib.Omega.{arith}
use lib.Dec.{lit<}
use Rattle.bits.specs.Bits.{number_of}
use Rattle.bits.specs.MovingLaws.{gathered_first, gathered_below, gathered_all}
use Rattle.bits.specs.PartsLaws.{in_parts, gathered_parts}
use Rattle.bits.proofs.gather.Goals as goal

pub returns-then-k-eq0 : goal.returns-then-k-eq0
unfolding number_of
returns-then-k-eq0 c = rw c.if-k-eq0.true

pub gather_bytes-number-requires : goal.gather_bytes-number-requires
gather_bytes-number-requires c =
    let args = c.args in
    let read = gathered_first args.bytes.now args.at c.begun-begun.result c.gather_piece-front.ensures in
    (omega arith, omega arith, gathered_below read 0 _ (lit< tt) (omega arith))

pub behind-requires : goal.behind-requires
behind-requires c =
    let args = c.args in
    let p = in_parts args.at args.k _ c.begun-begun.ensures in
    let read = gathered_parts p (omega arith) c.gather_piece-front.ensures c.gather_bytes-number.ensures c.gather_piece.ensures in
    (omega arith, gathered_below read 0 64 (lit< tt) (omega arith))

pub returns : goal.returns
returns c =
    let args = c.args in
    let p = in_parts args.at args.k _ c.begun-begun.ensures in
    c.behind.ensures ∙ gathered_all (gathered_parts p (omega arith) c.gather_piece-front.ensures c.gather_bytes-number.ensures c.gather_piece.ensures)
