use Rattle.cli_run.proofs.Common.{call, inl, inr, rules}
use Rattle.cli_run.proofs.Ran.{each_heard, not_received, passed_on}
use Rattle.cli_run.proofs.input.answer_input.Goals as goal

pub returns-in-Ok : goal.returns-in-Ok
returns-in-Ok g c = record {
  answered = inl (record {
    bytes = c.in_ok-bytes.bytes.items;
    come = c.in_ok-bytes.ensures.come;
    asks = c.in-Ok.asked;
    asked = rw c.as_slice-text.ensures.value at c.in-Ok.ensures;
    answer = rw c.as_slice-text.ensures.value at c.answer.ensures.answered;
  });
  read_cause = λ is. absurd (c.answer.ensures.unread is);
  read_told = each_heard c.answer.result _ _ c.in_ok-bytes.ensures.come.failures;
  most = search rules;
}

pub returns-in_err-bytes : goal.returns-in_err-bytes
returns-in_err-bytes g c = record {
  answered = inr (not_received (call c.args.desk.now (g.O.ByteOut.taken c.args.writer.now) c.args.errors.now) c.from_residual.result
      c.in_err-bytes.field-0.0 c.from_residual.ensures.1 c.in_err-bytes.ensures.fault);
  read_cause = search rules;
  read_told = passed_on c.from_residual.result c.in_err-bytes.field-0.0 _ c.from_residual.ensures.1 c.in_err-bytes.ensures.told;
  most = search rules;
}
