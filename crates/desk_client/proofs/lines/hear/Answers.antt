use Rattle.desk_client.proofs.Common.{most_of, request_of}
use Rattle.desk_client.proofs.Hearing.{heard_by}
use Rattle.desk_client.proofs.lines.hear.Goals as goal

pub returns-in-Ok-clause-answered : goal.returns-in-Ok-clause-answered
returns-in-Ok-clause-answered g c =
    heard_by (request_of c.args.question.now) (most_of c.args.question.now) (g.S.Ask.talk c.args.service.now) (g.S.Ask.talk c.ask.new.self) c.in-Ok.answer c.heard_of.result
    c.in-Ok.ensures c.heard_of.ensures
