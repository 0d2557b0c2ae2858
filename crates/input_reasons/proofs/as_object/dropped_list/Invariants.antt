use Rattle.input_reasons.proofs.Common.{dropped_object, map, string_bytes, take, ◌≡◌}
use Rattle.input_reasons.proofs.as_object.dropped_list.Given as goal

abbrev pub invariant-loop-line : goal.invariant-loop-line
invariant-loop-line l = map string_bytes l.objects.items ≡ map dropped_object (take l.line-index l.lines)
