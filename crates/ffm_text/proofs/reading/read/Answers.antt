use Rattle.ffm_text.proofs.Common.{map, part_of, sym, unloaded_of, ◌∙◌}
use Rattle.ffm_text.proofs.ToldLaws.{flight_line_told, ending_told}
use Rattle.ffm_text.proofs.reading.read.Goals as goal

pub returns-in-Err-clause-fault : goal.returns-in-Err-clause-fault
returns-in-Err-clause-fault c =
    flight_line_told c.as_slice-tokens.result.now c.args.lines.now.lines.items _ c.in-Err.why c.fault_at-in-Err.result c.as_slice-tokens.ensures.value c.if-tokens-lt2.false
    (sym c.is_head.ensures ∙ c.if-not-is_head.false) c.in-Err.ensures.fault c.fault_at-in-Err.ensures

pub returns-then-not-has_last_line-clause-fault : goal.returns-then-not-has_last_line-clause-fault
returns-then-not-has_last_line-clause-fault c =
    ending_told c.as_slice-tokens.result.now c.args.lines.now.lines.items _ (part_of c.in-Ok.part) (map unloaded_of c.in-Ok-cargo.cargo.items) c.fault_at-then-not-has_last_line.result
    c.as_slice-tokens.ensures.value c.if-tokens-lt2.false (sym c.is_head.ensures ∙ c.if-not-is_head.false) c.in-Ok.ensures.read c.in-Ok-cargo.ensures.read.read
    (sym c.has_last_line.ensures ∙ c.if-not-has_last_line.true) c.fault_at-then-not-has_last_line.ensures
