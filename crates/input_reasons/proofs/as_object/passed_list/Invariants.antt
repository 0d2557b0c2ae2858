use Rattle.input_reasons.proofs.Common.{filter_map, map, passed_object, string_bytes, take, ◌≡◌}
use Rattle.input_reasons.proofs.as_object.passed_list.Given as goal

abbrev pub invariant-loop-line : goal.invariant-loop-line
invariant-loop-line l = map string_bytes l.objects.items ≡ filter_map passed_object (take l.line-index l.lines)
