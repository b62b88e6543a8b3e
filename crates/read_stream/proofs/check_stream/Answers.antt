-- `read_stream::check_stream` meets its contract: what 7 lets through are the cells of a stream, and their bits are few.
use Rattle.std.proofs.Common.{arith}
use Rattle.streams.specs.CallLaws.{fits}
use Rattle.streams.specs.FitLaws.{few_cells}
use Rattle.read_stream.specs.ReadingLaws.{bits_few}
use Rattle.read_stream.proofs.check_stream.Goals as goal

pub words_in-n-requires : goal.words_in-n-requires
words_in-n-requires c =
    let range = c.requires.0.in_range in
    (range, omega (arith, few_cells _ _ range (fits _ _ c.in_ok-check_fit.ensures)))

pub overflow_mul-n : goal.overflow_mul-n
overflow_mul-n c = omega (arith, bits_few c.requires.0 (fits _ _ c.in_ok-check_fit.ensures) c.words_in-n.ensures c.requires.1)

pub overflow_add-n : goal.overflow_add-n
overflow_add-n c = omega (arith, bits_few c.requires.0 (fits _ _ c.in_ok-check_fit.ensures) c.words_in-n.ensures c.requires.1)
