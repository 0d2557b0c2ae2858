use Rattle.input_reasons.proofs.Common.{filter_map, map, read_object, string_bytes, take, ◌≡◌}
use Rattle.input_reasons.proofs.as_object.read_list.Given as goal

abbrev pub invariant-loop-line : goal.invariant-loop-line
invariant-loop-line l = map string_bytes l.objects.items ≡ filter_map read_object (take l.line-index l.lines)
