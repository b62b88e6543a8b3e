-- `text::Writer::put_levels` meets its contract. The loop's invariant: behind the first level, as many others are put as were passed, each behind a comma.
use Rattle.std.proofs.Common.{◌+◌}
use Rattle.text.specs.LevelsLaws.{further_to}
use Rattle.text.specs.Writer.{Puts}
use Rattle.text.proofs.Writer.put_levels.Given as goal

abbrev pub invariant-loop-level : goal.invariant-loop-level
invariant-loop-level l = Puts l.initial.self (further_to (l.level-index + 1) l.cells) l.self
