use Rattle.imp_fields.proofs.Common.{IsScannedTo, length, ◌+◌, ◌-◌, ◌≤◌}
use Rattle.imp_fields.proofs.normal.Scan.of.Given as goal

abbrev pub invariant-loop-start : goal.invariant-loop-start
invariant-loop-start l = IsScannedTo l.bytes l.start l.scan × (l.start ≤ length l.bytes + 1) × (length l.bytes ≤ 65_536)

abbrev pub decreases-loop-start : goal.decreases-loop-start
decreases-loop-start l = length l.bytes + 1 - l.start
