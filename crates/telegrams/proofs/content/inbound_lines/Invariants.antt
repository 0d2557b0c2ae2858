use Rattle.telegrams.proofs.Common.{inbound_line, map, take, unloaded_of, ◌≡◌}
use Rattle.telegrams.proofs.content.inbound_lines.Given as goal

abbrev pub invariant-loop-line : goal.invariant-loop-line
invariant-loop-line l = l.lines.items ≡ map (λ u. inbound_line (unloaded_of u)) (take l.line-index l.cargo)
