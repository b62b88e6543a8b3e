-- `names::escape` meets its contract. The loop's invariant: what is printed of the rest of the name is left to be put.
use mathlib.Core.Path.{◌≡◌}
use lib.ListN.{length}
use Rattle.names.specs.Names.{escaped, escaped_in}
use Rattle.names.specs.FrontLaws.{Left}
use Rattle.names.proofs.escape.Given as goal

abbrev pub invariant-loop-rest : goal.invariant-loop-rest
invariant-loop-rest l =
    Left l.initial.writer.out.now (escaped_in l.name (length l.initial.writer.out.now)) l.writer.out.now l.writer.at (escaped l.rest)
    × (l.writer.out.ghost_name ≡ l.initial.writer.out.ghost_name)

abbrev pub decreases-loop-rest : goal.decreases-loop-rest
decreases-loop-rest l = length l.rest
