use Rattle.desk_commands.proofs.Common.{ap, fields_say, sym, view, ◌∙◌}
use Rattle.desk_commands.proofs.BodyLaws.{members_counted, body_read, same_count, other_count}
use Rattle.desk_commands.proofs.body.read.Goals as goal

pub returns-then-members-present_count : goal.returns-then-members-present_count
returns-then-members-present_count c =
    let d = view c.args.body.now in
    let count = members_counted c.in_ok-as_object.field-0.now.entries d c.len-members.result c.in_ok-as_object.ensures c.len-members.ensures.len in
    let values = c.in_ok-values.ensures ∙ ap (λ p. fields_say p d) c.places.ensures in
    sym (body_read c.args.verb d c.len-members.result c.in_ok-values.values count values ∙ other_count c.args.verb c.len-members.result c.in_ok-values.values (λ same. c.if-members-present_count.true (same ∙ sym c.present_count.ensures)))

pub returns : goal.returns
returns c =
    let d = view c.args.body.now in
    let count = members_counted c.in_ok-as_object.field-0.now.entries d c.len-members.result c.in_ok-as_object.ensures c.len-members.ensures.len in
    let values = c.in_ok-values.ensures ∙ ap (λ p. fields_say p d) c.places.ensures in
    c.command_of.ensures ∙ sym (body_read c.args.verb d c.len-members.result c.in_ok-values.values count values ∙ same_count c.args.verb c.len-members.result c.in_ok-values.values (c.if-members-present_count.false ∙ c.present_count.ensures))
