use Rattle.input_reasons.proofs.Common.{codes, decimal, ◌++◌, ◌∙◌}
use Rattle.imp_fields.specs.Fields.{flight_text}
use Rattle.input_reasons.proofs.Texts.{told}
use Rattle.input_reasons.proofs.as_object.part_members.Goals as goal

pub returns : goal.returns
returns c =
    let part = c.args.part.now in
    told c.format.result _ _
    (λ i. codes "\"part\":" ++ (decimal (c.number-number.ensures.value i) ++ (codes ",\"flight\":\"" ++ (flight_text part.flight
    ++ (codes "\",\"date\":\"" ++ ((c.ascii_text-date.ensures ∙ c.write-date.ensures.text) i ++ (codes "\",\"loaded\":\"" ++ (part.loaded ++ codes "\""))))))))
    c.format.ensures.ok
