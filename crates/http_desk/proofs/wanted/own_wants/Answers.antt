use Rattle.http_desk.proofs.Common.{HasWants, HeadAsks, ap, asked_place, page_at, path_of, place_asks, subst, ◌∙◌}
use Rattle.http_desk.proofs.wanted.own_wants.Goals as goal

pub returns : goal.returns
returns c = λ h at.
    let method = c.of-method.ensures ∙ at.method in
    let fields = at.fields in
    let place = c.route_of-route.ensures ∙ ap (λ q. asked_place (page_at q) q) (c.path_in-path.ensures ∙ ap path_of (c.target_of.ensures h at)) in
    subst (λ (asks : HeadAsks). HasWants asks c.wants_of.result)
    (c.head_asks-asks.ensures h.target ∙ (λ i. place_asks (record { method = method i; target = h.target; fields = fields i }) (place i)))
    c.wants_of.ensures
