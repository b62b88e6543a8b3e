-- `names::quote` meets its contract. The loop's invariant: of the text within quotes, the bytes that are not passed are left.
use mathlib.Core.Path.{◌≡◌}
use lib.ListN.{length, drop}
use Rattle.names.specs.Quotes.{quoted, quoted_in}
use Rattle.names.specs.FrontLaws.{Left}
use Rattle.names.proofs.quote.Given as goal

abbrev pub invariant-loop-byte : goal.invariant-loop-byte
invariant-loop-byte l =
    Left l.initial.writer.out.now (quoted_in l.printed (length l.initial.writer.out.now)) l.writer.out.now l.writer.at (quoted (drop l.byte-index l.printed))
    × (l.writer.out.ghost_name ≡ l.initial.writer.out.ghost_name)
