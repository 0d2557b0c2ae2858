use Rattle.desk_client.proofs.Common.{List, Option, SendsLine, service_text, subst, ℕ}
use Rattle.desk_client.proofs.status.tell_service.Goals as goal

pub returns-in-Some : goal.returns-in-Some
returns-in-Some g c =
    subst (λ (why : Option (List ℕ)). SendsLine (service_text c.args.port why) (g.E.ByteOut.taken c.args.errors.now) (g.E.ByteOut.taken c.tell_why.new.errors))
    c.in-Some.ensures c.tell_why.ensures
