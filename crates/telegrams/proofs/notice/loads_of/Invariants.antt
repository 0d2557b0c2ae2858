use Rattle.telegrams.proofs.Common.{map, sent_load, take, ◌≡◌}
use Rattle.telegrams.proofs.notice.loads_of.Given as goal

abbrev pub invariant-loop-line : goal.invariant-loop-line
invariant-loop-line l = l.loads.items ≡ map sent_load (take l.line-index l.lines)
