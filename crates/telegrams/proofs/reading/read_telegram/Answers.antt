use Rattle.telegrams.proofs.Common.{Some, ap, arith, fault_of, line_texts, normal_lines, sym, ◌∙◌}
use Rattle.telegrams.proofs.Bounds.{normal_within, told_within}
use Rattle.telegrams.proofs.PlainLines.{few_texts, plain_texts}
use Rattle.telegrams.proofs.RefusedLaws.{text_refused}
use Rattle.telegrams.proofs.reading.read_telegram.Goals as goal

pub refusal-requires : goal.refusal-requires
refusal-requires c =
    told_within (fault_of (normal_lines c.args.bytes.now)) c.in-Err.told 1000 1000 (normal_within c.args.bytes.now) (omega arith) c.in-Err.ensures.lines

pub returns-in-Err-clause-refused : goal.returns-in-Err-clause-refused
returns-in-Err-clause-refused c =
    text_refused c.args.bytes.now c.refusal.result (c.refusal.ensures.reader (fault_of (normal_lines c.args.bytes.now)) c.in-Err.ensures.lines)

pub new-requires : goal.new-requires
new-requires c = record {
  lines = line_texts c.in-Ok.lines;
  text = c.in-Ok-text_of.ensures;
  printable = plain_texts c.in-Ok.lines.lines.items c.in-Ok.lines.printable;
  few = few_texts c.in-Ok.lines.lines.items c.in-Ok.lines.few;
  kind = c.in-Ok.ensures.kind ∙ ap (λ k. Some k) (sym c.in-Ok-content.ensures.said.0);
  content = c.in-Ok-content.ensures.said.1;
}
