-- `bits::piece::into_byte` meets its contract: neither what is kept with the piece behind it nor the whole outgrows a byte.
use Rattle.std.proofs.Common.{add-zero}
use Rattle.bits.specs.ByteLaws.{filled_fits}
use Rattle.bits.proofs.piece.into_byte.Goals as goal

pub overflow_cast-result : goal.overflow_cast-result
overflow_cast-result c =
    record { fits = rw (c.behind.ensures, add-zero, c.behind-kept.ensures, c.from.ensures) (filled_fits _ _ _ _ c.ranges.byte.fits c.requires.0 c.requires.1 c.requires.2).whole }

pub returns : goal.returns
returns c = rw (c.behind.ensures, add-zero, c.behind-kept.ensures, c.from.ensures)
