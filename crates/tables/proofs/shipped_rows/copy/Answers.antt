use mathlib.Core.Path.{refl}
use Rattle.tables.specs.RowLaws.{front_next}
use Rattle.tables.proofs.shipped_rows.copy.Goals as goal

pub loop-i-preserved : goal.loop-i-preserved
loop-i-preserved c = front_next _ c.loop-i.i _ c.loop-i.invariant refl refl c.copy_row.ensures
