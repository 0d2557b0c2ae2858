use Rattle.input_reasons.proofs.Common.{dropped_line, map, take, ◌≡◌}
use Rattle.input_reasons.proofs.dropped.put_dropped.Given as goal

abbrev pub invariant-loop-line : goal.invariant-loop-line
invariant-loop-line l = l.dropped.items ≡ map (λ line. dropped_line line.now) (take l.line-index l.front)
