use Rattle.http_desk.proofs.Common.{IsToldAs, holder_data, holder_reply, subst, sym}
use Rattle.http_desk.proofs.asking.holder_told.Goals as goal

pub returns-in-Some : goal.returns-in-Some
returns-in-Some c =
    subst (λ o. IsToldAs (holder_reply c.args.number.now o) c.json_told.result) (sym c.in-Some.is) (c.json_told.ensures (holder_data c.args.number.now c.in-Some.holder) c.holder_text.ensures)
