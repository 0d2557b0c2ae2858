use Rattle.std.proofs.Common.{◌≤◌, length}
use Rattle.carried_station.proofs.Walked.{Walks}
use Rattle.carried_station.proofs.waybills.walk.Given as goal

abbrev pub invariant-loop-row : goal.invariant-loop-row
invariant-loop-row l = (l.at ≤ length l.new) × Walks l.old l.new l.row-index l.at l.left.items
