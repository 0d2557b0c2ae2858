use Rattle.fsu_text.proofs.Common.{IsFaultOf, fsu_fault, line_texts, subst, sym, ◌∙◌}
use Rattle.fsu_text.proofs.ReadLaws.{second_told, message_is, trail_plain}
use Rattle.fsu_text.proofs.reading.read.Goals as goal

pub returns-in-Err-clause-fault : goal.returns-in-Err-clause-fault
returns-in-Err-clause-fault c =
    subst (IsFaultOf (fsu_fault (line_texts c.args.lines.now))) (sym c.fault_at-in-Err.ensures)
    (second_told c.args.lines.now.lines.items c.as_slice-lines.result.now _ c.in-Err.why c.as_slice-lines.ensures.value c.if-lines-lt2.false (sym c.is_head.ensures ∙ c.if-not-is_head.false)
    (sym c.in-Err.ensures.exact))

pub invariant_of-result : goal.invariant_of-result
invariant_of-result c = record {
  printable = trail_plain c.args.lines.now.lines.items c.as_slice-lines.result.now c.in-Ok-trail.trail.items c.as_slice-lines.ensures.value c.args.lines.now.printable
      (c.in-Ok-trail.ensures.texts ∙ c.split_at.ensures.back);
}

pub returns-in-Ok-trail-clause-read : goal.returns-in-Ok-trail-clause-read
returns-in-Ok-trail-clause-read c =
    message_is c.args.lines.now.lines.items c.as_slice-lines.result.now _ c.in-Ok.consignment c.in-Ok-trail.trail.items c.as_slice-lines.ensures.value c.if-lines-lt3.false
    (sym c.is_head.ensures ∙ c.if-not-is_head.false) (sym c.in-Ok.ensures.exact) (c.in-Ok-trail.ensures.texts ∙ c.split_at.ensures.back)
