use Rattle.cli_run.proofs.Common.{None, [], call, inr, kept_lines, refl, sym, true, ◌∙◌}
use Rattle.cli_run.proofs.InTurn.{none_first, told_items}
use Rattle.cli_run.proofs.ToldBy.{told_read, told_whole}
use Rattle.cli_run.proofs.acts.answer_acts.Goals as goal

-- where memory ran out before the first line
pub returns-in_default-clause-answered : goal.returns-in_default-clause-answered
returns-in_default-clause-answered g c = ([], (None, none_first kept_lines (g.R.Read.remaining c.args.reader.now), (inr refl, (true, (refl, refl)))))

pub returns-clause-answered : goal.returns-clause-answered
returns-clause-answered g c =
    rw c.told_by.ensures (told_items (g.P.Answering.answered_line c.args.way.now) kept_lines (g.R.Read.remaining c.args.reader.now)
    (call c.args.desk.now (g.W.ByteOut.taken c.args.writer.now) c.args.errors.now)
    (call c.answer_lines-ended.new.desk (g.W.ByteOut.taken c.answer_lines-ended.new.writer) c.answer_lines-ended.new.errors) c.answer_lines-ended.result c.has_failed.result
    (rw c.in-Ok.ensures at c.answer_lines-ended.ensures))

pub returns-clause-read : goal.returns-clause-read
returns-clause-read g c = record {
  read_cause = λ is. told_read _ c.answer_lines-ended.result c.has_failed.result c.has_failed.ensures.0 (sym c.told_by.ensures ∙ is);
  no_failure = rw c.told_by.ensures (told_whole _ c.answer_lines-ended.result c.has_failed.result c.has_failed.ensures.1);
}
