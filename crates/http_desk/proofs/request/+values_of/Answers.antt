use Rattle.http_desk.proofs.Common.{[], ap, header_bytes, is_named, rules, true, ◌∙◌, ◌∷◌, ◌≡◌}
use Rattle.http_desk.proofs.FieldLaws.{in_front}
use Rattle.http_desk.proofs.request.+values_of.Goals as goal

pub returns-in-One : goal.returns-in-One
returns-in-One t c =
    let parts : c.args.fields.now ≡ c.in-Some.field.now ∷ c.in-Some.more.now = search rules in
    let named : is_named c.args.name.now (header_bytes c.args.buf.now c.in-Some.field.now) ≡ true = search rules in
    let all = in_front c.args.buf.now c.args.name.now c.args.fields.now c.in-Some.more.now c.in-Some.field.now parts named in
    let value = (header_bytes c.args.buf.now c.in-Some.field.now).1 in
    (value, c.in-One.field-0.now, [], all ∙ ap (λ found. value ∷ found) c.in-One.ensures)

pub returns-in-More : goal.returns-in-More
returns-in-More t c =
    let parts : c.args.fields.now ≡ c.in-Some.field.now ∷ c.in-Some.more.now = search rules in
    let named : is_named c.args.name.now (header_bytes c.args.buf.now c.in-Some.field.now) ≡ true = search rules in
    let all = in_front c.args.buf.now c.args.name.now c.args.fields.now c.in-Some.more.now c.in-Some.field.now parts named in
    let value = (header_bytes c.args.buf.now c.in-Some.field.now).1 in
    let more = c.in-More.ensures in
    (value, more.0, more.1 ∷ more.2, all ∙ ap (λ found. value ∷ found) more.3)
