use Rattle.desk_client.proofs.Common.{HasAnswered, List, None, call, most_of, request_by, subst, ℕ}
use Rattle.desk_client.proofs.question.ByServiceAnswering.answer.Goals as goal

pub returns-clause-answered : goal.returns-clause-answered
returns-clause-answered g c =
    let taken = g.E.ByteOut.taken in
    let old = call (g.S.Ask.talk c.args.desk.now) (g.W.ByteOut.taken c.args.writer.now) c.args.errors.now in
    let new = call (g.S.Ask.talk c.answer_asked.new.service) (g.W.ByteOut.taken c.answer_asked.new.output) c.answer_asked.new.errors in
    let by_request = subst (λ (request : List ℕ). HasAnswered taken None c.args.asked.now request (most_of c.question_by-question.result) old new c.answer_asked.result)
    c.question_by-question.ensures.request c.answer_asked.ensures.answered in
    subst (λ (most : ℕ). HasAnswered taken None c.args.asked.now (request_by c.args.head c.args.text.now) most old new c.answer_asked.result) c.question_by-question.ensures.most by_request
