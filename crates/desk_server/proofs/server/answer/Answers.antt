use Rattle.http_desk.specs.Reply.{added}
use Rattle.desk_server.proofs.Serving.{served_fresh}
use Rattle.desk_server.proofs.server.answer.Goals as goal

pub returns-clause-served : goal.returns-clause-served
returns-clause-served g c =
    let done = c.serve_one.ensures in
    let came = added c.new.result.tally.given c.serve_one.new.reader.tally.given in (
      came,
      served_fresh g.K.Keeper.keeping (record { at = c.args.at; came = came; end = c.serve_one.result })
          c.args.keeper.now c.serve_one.new.keeper _ c.serve_one.new.writer.tally.given c.new-3.ensures.nothing done.served done.told done.same done.premise,
    )
