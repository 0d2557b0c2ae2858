use Rattle.telegrams.proofs.Common.{map, normal_text, take, ◌+◌, ◌≡◌}
use Rattle.telegrams.proofs.reading.joined.Given as goal

abbrev pub invariant-loop-line : goal.invariant-loop-line
invariant-loop-line l = l.text.items ≡ normal_text (map (λ t. t.text.now) (take (l.line-index + 1) l.lines))
