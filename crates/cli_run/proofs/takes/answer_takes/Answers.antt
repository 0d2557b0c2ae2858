use Rattle.cli_run.proofs.Common.{HasTakenNext, None, call}
use Rattle.cli_run.proofs.InTurn.{made_more, made_until}
use Rattle.cli_run.proofs.takes.answer_takes.Goals as goal

pub returns-in_err-accepted : goal.returns-in_err-accepted
returns-in_err-accepted g c =
    let Step = HasTakenNext (g.P.Answering.answered c.args.way.now None) g.I.ByteIn.given g.I.Inputs.turned in
    made_until Step c.loop-turn._turn c.args.count (call c.args.desk.now (g.W.ByteOut.taken c.args.writer.now) c.args.errors.now, c.args.reader.now)
    (call c.loop-turn.desk (g.W.ByteOut.taken c.loop-turn.writer) c.loop-turn.errors, c.loop-turn.reader)
    (call c.take_next.new.desk (g.W.ByteOut.taken c.take_next.new.writer) c.take_next.new.errors, c.take_next.new.reader) c.loop-turn.good c.from_residual.result c.in_err-accepted.field-0.0 c.from_residual.ensures.1
    c.loop-turn-test.true c.loop-turn.invariant.made c.in_err-accepted.ensures

pub loop-turn-preserved : goal.loop-turn-preserved
loop-turn-preserved g c =
    let Step = HasTakenNext (g.P.Answering.answered c.args.way.now None) g.I.ByteIn.given g.I.Inputs.turned in
    record {
      made = made_more Step c.loop-turn._turn (call c.args.desk.now (g.W.ByteOut.taken c.args.writer.now) c.args.errors.now, c.args.reader.now)
          (call c.loop-turn.desk (g.W.ByteOut.taken c.loop-turn.writer) c.loop-turn.errors, c.loop-turn.reader)
          (call c.take_next.new.desk (g.W.ByteOut.taken c.take_next.new.writer) c.take_next.new.errors, c.take_next.new.reader) c.loop-turn.good c.in_ok-accepted.accepted c.loop-turn.invariant.made c.in_ok-accepted.ensures;
    }
