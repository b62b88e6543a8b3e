-- `cells::find` meets its contract: q and x that are not refused lie in their ranges.
use Rattle.std.proofs.Common.{refl}
use Rattle.replies.specs.ReplyLaws.{in_range_lem}
use Rattle.cells.proofs.find.Goals as goal

pub check_cells-requires : goal.check_cells-requires
check_cells-requires c = (in_range_lem _ _ _ 0 c.in_ok-check_levels.ensures refl, in_range_lem _ _ _ 2 c.in_ok-check_reach.ensures refl)
