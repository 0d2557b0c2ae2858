use Rattle.input_reasons.proofs.Common.{dropped_text, flat_map, string_bytes, take, ◌≡◌}
use Rattle.input_reasons.proofs.as_text.dropped_texts.Given as goal

abbrev pub invariant-loop-line : goal.invariant-loop-line
invariant-loop-line l = string_bytes l.text ≡ flat_map dropped_text (take l.line-index l.lines)
