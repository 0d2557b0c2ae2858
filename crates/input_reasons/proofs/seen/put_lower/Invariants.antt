use Rattle.input_reasons.proofs.Common.{cargo_of, drop, lower_lines, map, ◌++◌, ◌+◌, ◌≡◌}
use Rattle.input_reasons.proofs.seen.put_lower.Given as goal

abbrev pub invariant-loop-line : goal.invariant-loop-line
invariant-loop-line l = record {
  seen : l.seen.items ++ lower_lines l.says (l.line-index + 3) l.left (map (λ t. t.text.now) (drop l.line-index l.lower))
      ≡ l.initial.seen.items ++ lower_lines l.says 3 (cargo_of l.says) (map (λ t. t.text.now) l.lower);
  number : l.number ≡ l.line-index + 2;
}
