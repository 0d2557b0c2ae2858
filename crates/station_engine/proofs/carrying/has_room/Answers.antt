use Rattle.station_engine.proofs.Common.{ap, is_line, length, length-map, nat_le, sym, texts_in, ◌+◌, ◌∙◌}
use Rattle.std.specs.List.{filter}
use Rattle.station_engine.proofs.Numbering.{room_by}
use Rattle.station_engine.proofs.carrying.has_room.Goals as goal

pub returns : goal.returns
returns c s text is =
    c.all_three.ensures
    ∙ room_by c.args.sizes.now text c.args.plan.now (texts_in c.args.messages.now) s is _ _ _
    (c.can_be_numbered.ensures ∙ ap (λ n. nat_le (c.args.sizes.now.moves + n) 4_294_967_295) (ap length c.as_slice.ensures.value))
    (c.can_be_numbered-2.ensures ∙ ap (λ n. nat_le (c.args.sizes.now.lines + n) 4_294_967_295) (c.lines_in.ensures ∙ ap (λ xs. length (filter is_line xs)) c.deref.ensures.value))
    (c.can_be_numbered-3.ensures ∙ ap (λ n. nat_le (c.args.sizes.now.messages + n) 4_294_967_295) (sym (length-map c.args.messages.now (λ text. text.items))))
