use Rattle.desk_client.proofs.Common.{call, subst, sym}
use Rattle.cli_words.specs.declared.line.LineCommand.{LineCommand}
use Rattle.desk_client.specs.Done.{HasDone}
use Rattle.desk_client.proofs.run.ask_command.Goals as goal

pub returns-in-Report : goal.returns-in-Report
returns-in-Report g c =
    subst (λ (k : LineCommand). HasDone k g.S.Ask.talk g.I.ByteIn.given g.I.Inputs.turned g.E.ByteOut.taken (g.I.Read.remaining c.args.reader.now)
    (call c.args.service.now (g.W.ByteOut.taken c.args.output.now) c.args.errors.now, c.args.reader.now)
    (call c.ask_rows-in-Report.new.self (g.W.ByteOut.taken c.ask_rows-in-Report.new.output) c.args.errors.now, c.args.reader.now)
    c.ask_rows-in-Report.result) (sym c.in-Report.is) c.ask_rows-in-Report.ensures

pub returns-in-Act : goal.returns-in-Act
returns-in-Act g c =
    subst (λ (k : LineCommand). HasDone k g.S.Ask.talk g.I.ByteIn.given g.I.Inputs.turned g.E.ByteOut.taken (g.I.Read.remaining c.args.reader.now)
    (call c.args.service.now (g.W.ByteOut.taken c.args.output.now) c.args.errors.now, c.args.reader.now)
    (call c.answer_input.new.desk (g.W.ByteOut.taken c.answer_input.new.writer) c.answer_input.new.errors, c.answer_input.new.reader)
    c.answer_input.result) (sym c.in-Act.is) c.answer_input.ensures
