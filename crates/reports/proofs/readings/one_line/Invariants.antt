use Rattle.reports.proofs.Common.{map, spaced, take, ◌≡◌}
use Rattle.reports.proofs.readings.one_line.Given as goal

abbrev pub invariant-loop-byte : goal.invariant-loop-byte
invariant-loop-byte l = l.line.items ≡ map spaced (take l.byte-index l.text)
