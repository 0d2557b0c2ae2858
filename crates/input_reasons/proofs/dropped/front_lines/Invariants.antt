use Rattle.input_reasons.proofs.Common.{front_lines, length, map, ◌++◌, ◌≡◌}
use Rattle.input_reasons.proofs.dropped.front_lines.Given as goal

abbrev pub invariant-loop-line : goal.invariant-loop-line
invariant-loop-line l = map (λ line. line.now) l.front.items ++ front_lines l.rest ≡ front_lines l.bytes

abbrev pub decreases-loop-line : goal.decreases-loop-line
decreases-loop-line l = length l.rest
