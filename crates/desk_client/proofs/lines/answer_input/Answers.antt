use Rattle.desk_client.proofs.Common.{call, most_of, refl, request_of, ◌∙◌}
use Rattle.desk_client.proofs.Hearing.{told, unlined}
use Rattle.desk_client.proofs.lines.answer_input.Goals as goal

pub returns-in_default-clause-answered : goal.returns-in_default-clause-answered
returns-in_default-clause-answered g c =
    unlined g.E.ByteOut.taken c.args.number c.args.input.now (request_of c.args.question.now) (most_of c.args.question.now)
    (call (g.S.Ask.talk c.args.service.now) (g.W.ByteOut.taken c.args.output.now) c.args.errors.now)
    (call (g.S.Ask.talk c.hear.new.service) (g.W.ByteOut.taken c.args.output.now) c.args.errors.now) c.in_ok-heard.heard c.in_ok-heard.ensures.answered refl refl

pub returns-clause-answered : goal.returns-clause-answered
returns-clause-answered g c =
    told g.E.ByteOut.taken c.args.number c.args.input.now (request_of c.args.question.now) (most_of c.args.question.now)
    (call (g.S.Ask.talk c.args.service.now) (g.W.ByteOut.taken c.args.output.now) c.args.errors.now)
    (call (g.S.Ask.talk c.hear.new.service) (g.W.ByteOut.taken c.send_part.new.writer) c.tell_late.new.errors) c.in_ok-heard.heard c.as_bytes.result.now c.as_str-text.result.now
    c.in_ok-heard.ensures.answered c.in_ok-send_part.ensures.all (c.as_bytes.ensures.value ∙ c.in-Ok.ensures) c.as_str-text.ensures.value c.tell_late.ensures
