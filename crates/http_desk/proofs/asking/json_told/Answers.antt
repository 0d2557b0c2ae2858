use Rattle.http_desk.proofs.Common.{json_answer, option_map, refl, ◌∙◌}
use Rattle.http_desk.proofs.asking.json_told.Goals as goal

pub returns-in-Ok-json_answer : goal.returns-in-Ok-json_answer
returns-in-Ok-json_answer c = λ d is.
    let told = rw c.in-Ok.is at is in
    (refl, λ s. (λ i. (c.into_bytes.ensures.value i).items) ∙ c.in-Ok-json_answer.ensures ∙ (λ i. json_answer c.args.status (option_map (λ method. method.now) c.args.allow) ((c.as_str.ensures.value ∙ told) i)))
