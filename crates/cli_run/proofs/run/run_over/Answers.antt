use Rattle.cli_run.proofs.Common.{HasAnsweredLine, HasAnsweredRow, call, kept_lines, stock_rows}
use Rattle.cli_run.proofs.Ran.{line_service, row_service, run_serves, takes_serve}
use Rattle.cli_run.proofs.run.run_over.Goals as goal

pub returns-in-Stock-clause-service : goal.returns-in-Stock-clause-service
returns-in-Stock-clause-service g c =
    let k = g.K.Keeper.keeping in
    run_serves k (HasAnsweredRow k c.args.at g.E.ByteOut.taken) (row_service k c.args.at g.E.ByteOut.taken) stock_rows (g.I.Read.remaining c.args.reader.now)
    (call c.args.keeper.now (g.W.ByteOut.taken c.args.output.now) c.args.errors.now)
    (call c.answer_list.new.desk (g.W.ByteOut.taken c.answer_list.new.writer) c.answer_list.new.errors) c.answer_list.result c.answer_list.ensures.answered

pub returns-in-Take-clause-service : goal.returns-in-Take-clause-service
returns-in-Take-clause-service g c =
    takes_serve g.K.Keeper.keeping c.args.at g.E.ByteOut.taken g.I.ByteIn.given g.I.Inputs.turned c.len.result (call c.args.keeper.now (g.W.ByteOut.taken c.args.output.now) c.args.errors.now, c.args.reader.now)
    (call c.answer_takes.new.desk (g.W.ByteOut.taken c.answer_takes.new.writer) c.answer_takes.new.errors, c.answer_takes.new.reader) c.answer_takes.result c.answer_takes.ensures

pub returns-in-Acts-clause-service : goal.returns-in-Acts-clause-service
returns-in-Acts-clause-service g c =
    let k = g.K.Keeper.keeping in
    run_serves k (HasAnsweredLine k c.args.at g.E.ByteOut.taken) (line_service k c.args.at g.E.ByteOut.taken) kept_lines (g.I.Read.remaining c.args.reader.now)
    (call c.args.keeper.now (g.W.ByteOut.taken c.args.output.now) c.args.errors.now)
    (call c.answer_acts.new.desk (g.W.ByteOut.taken c.answer_acts.new.writer) c.answer_acts.new.errors) c.answer_acts.result c.answer_acts.ensures.answered
