-- `streams::check_parts` ends because each part is shorter.
use Rattle.std.proofs.Common.{length}
use Rattle.streams.proofs.+check_parts.Given as goal

-- The cells of the part.
abbrev pub decreases-check_parts : goal.decreases-check_parts
decreases-check_parts g l = length l.part.now
