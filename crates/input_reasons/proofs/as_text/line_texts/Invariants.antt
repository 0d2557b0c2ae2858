use Rattle.input_reasons.proofs.Common.{flat_map, line_text, string_bytes, take, ◌≡◌}
use Rattle.input_reasons.proofs.as_text.line_texts.Given as goal

abbrev pub invariant-loop-line : goal.invariant-loop-line
invariant-loop-line l = string_bytes l.text ≡ flat_map line_text (take l.line-index l.lines)
