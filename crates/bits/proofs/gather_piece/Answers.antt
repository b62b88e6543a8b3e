-- `bits::gather_piece` meets its contract: the number of a piece is read off its byte.
use Rattle.std.proofs.Common.{sym, arith}
use Rattle.bits.specs.Bits.{number_of}
use Rattle.bits.specs.MovingLaws.{number_from_piece}
use Rattle.bits.proofs.gather_piece.Goals as goal

pub returns-then-c-eq0 : goal.returns-then-c-eq0
unfolding number_of
returns-then-c-eq0 c = rw c.if-c-eq0.true

pub returns : goal.returns
returns c =
    let args = c.args in
    rw (c.out_of.ensures, c.from.ensures) (sym (number_from_piece args.bytes.now args.at args.c (omega arith) (omega arith)))
