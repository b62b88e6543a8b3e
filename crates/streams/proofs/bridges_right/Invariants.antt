-- `streams::bridges_right` meets its contract. The loop's invariant: the bridges before `at` are right.
use Rattle.std.proofs.Common.{◌+◌, ◌-◌}
use Rattle.streams.specs.OrderLaws.{BridgesBefore}
use Rattle.streams.proofs.bridges_right.Given as goal

abbrev pub invariant-loop-at : goal.invariant-loop-at
invariant-loop-at l = BridgesBefore l.p l.cells l.at

abbrev pub decreases-loop-at : goal.decreases-loop-at
decreases-loop-at l = l.at-end + l.at-step - l.at
