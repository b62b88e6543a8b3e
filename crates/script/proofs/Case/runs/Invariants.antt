-- `script::Case::runs` keeps to the cells: those filled are among them.
use Rattle.std.proofs.Common.{◌≤◌, length}
use Rattle.script.proofs.Case.runs.Given as goal

abbrev pub invariant-loop : goal.invariant-loop
invariant-loop l = l.filled ≤ length l.cells
