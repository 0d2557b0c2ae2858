use Rattle.http_desk.proofs.Common.{ap, false, head_of, is_foreign, refl, sym, true, ◌∙◌, ◌≡◌}
use Rattle.http_desk.proofs.Wanting.{foreign_wants, wants_on}
use Rattle.http_desk.proofs.wanted.head_wants.Goals as goal

pub returns-then-is_foreign : goal.returns-then-is_foreign
returns-then-is_foreign c = λ h at.
    let foreign : is_foreign (head_of h).fields ≡ true = ap is_foreign (sym at.fields) ∙ sym c.is_foreign.ensures ∙ c.if-is_foreign.true in
    foreign_wants (head_of h) _ foreign refl

pub returns : goal.returns
returns c = λ h at.
    let own : is_foreign (head_of h).fields ≡ false = ap is_foreign (sym at.fields) ∙ sym c.is_foreign.ensures ∙ c.if-is_foreign.false in
    wants_on (head_of h) c.own_wants.result own (c.own_wants.ensures h at)
