use Rattle.std.proofs.Common.{◌≡◌, map, take}
use Rattle.telegrams.proofs.content.trail_lines.Given as goal

abbrev pub invariant-loop-line : goal.invariant-loop-line
invariant-loop-line l = l.lines.items ≡ map (λ t. t.text.text.now) (take l.line-index l.trail)
