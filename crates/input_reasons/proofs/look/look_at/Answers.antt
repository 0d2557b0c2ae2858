use Rattle.input_reasons.proofs.Common.{ap, fault_at, front_lines, has_no_day, inr, line_texts, refl, seen_lines, sym, ◌∙◌}
use Rattle.imp_fields.specs.declared.fault.Why.TheVariants as why
use Rattle.input_reasons.proofs.Front.{parted}
use Rattle.input_reasons.proofs.look.look_at.Goals as goal

pub dropped_lines-requires : goal.dropped_lines-requires
dropped_lines-requires c = (parted c.args.bytes.now (line_texts c.in-Ok-normal_text.normal) c.in-Ok-normal_text.ensures.lines).printable

pub returns-in-Ok-seen_lines-clause-seen : goal.returns-in-Ok-seen_lines-clause-seen
returns-in-Ok-seen_lines-clause-seen c =
    let bytes = c.args.bytes.now in
    let lines = line_texts c.in-Ok-normal_text.normal in
    record {
      telegram = c.in-Ok.ensures.read;
      day = sym (ap has_no_day c.content.ensures.value) ∙ sym c.has_no_day.ensures ∙ c.if-has_no_day.false;
      front = front_lines bytes;
      lines = lines;
      normal = c.in-Ok-normal_text.ensures.lines;
      whole = (parted bytes lines c.in-Ok-normal_text.ensures.lines).whole;
      dropped = c.in-Ok-dropped_lines.ensures;
      seen = c.in-Ok-seen_lines.ensures ∙ ap (λ says. seen_lines says lines) c.content-2.ensures.value;
    }

pub returns-then-has_no_day-clause-refused : goal.returns-then-has_no_day-clause-refused
returns-then-has_no_day-clause-refused c =
    (fault_at 2 why.Date, inr (c.in-Ok.telegram, c.in-Ok.ensures.read, sym (ap has_no_day c.content.ensures.value) ∙ sym c.has_no_day.ensures ∙ c.if-has_no_day.true, refl), refl)
