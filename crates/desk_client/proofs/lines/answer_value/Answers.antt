use Rattle.desk_client.proofs.Common.{call, most_of, posted_request, request_of, view}
use Rattle.desk_client.proofs.Posts.{heard_line, posted_of}
use Rattle.desk_client.proofs.lines.answer_value.Goals as goal

pub returns-clause-answered : goal.returns-clause-answered
returns-clause-answered g c =
    let request = posted_request c.in-Ok-line_posted.posted in
    heard_line g.E.ByteOut.taken c.args.number c.args.line.now
    (call (g.S.Ask.talk c.args.service.now) (g.W.ByteOut.taken c.args.output.now) c.args.errors.now)
    (call (g.S.Ask.talk c.answer_asked.new.service) (g.W.ByteOut.taken c.answer_asked.new.output) c.answer_asked.new.errors) c.answer_asked.result c.in-Ok.asked
    request (request_of c.question_of-query.result) (most_of c.question_of-query.result) c.in-Ok.ensures
    (posted_of view c.args.value.now c.args.line.now request c.requires.some c.requires.none c.in-Ok-line_posted.ensures)
    c.question_of-query.ensures.request c.question_of-query.ensures.most c.answer_asked.ensures.answered
