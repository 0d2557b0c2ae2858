use Rattle.desk_client.proofs.Common.{IsOrderText, List, call, subst, sym, ℕ}
use Rattle.desk_client.proofs.ListRows.{ordered}
use Rattle.desk_client.proofs.rows.answer_order.Goals as goal

pub returns-clause-answered : goal.returns-clause-answered
returns-clause-answered g c =
    ordered g.E.ByteOut.taken c.args.number c.args.key c.args.order c.verb_of-verb.result c.as_str-text.result.now c.as_bytes-bytes.result.now
    (call (g.S.Ask.talk c.args.service.now) (g.W.ByteOut.taken c.args.output.now) c.args.errors.now)
    (call (g.S.Ask.talk c.answer_input.new.service) (g.W.ByteOut.taken c.answer_input.new.output) c.answer_input.new.errors) c.answer_input.result
    c.verb_of-verb.ensures c.as_bytes-bytes.ensures.value c.as_str-text.utf8
    (subst (λ (t : List ℕ). IsOrderText c.args.order t) (sym c.as_str-text.ensures.value) c.in-Ok.ensures) c.answer_input.ensures.answered
