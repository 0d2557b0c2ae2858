use Rattle.state_store.proofs.Named.{rises, is_named, none_named, le_is, le_by, none_beyond}
use Rattle.state_store.proofs.maps.stock.MapStock.at.Goals as goal

pub returns-in-Some : goal.returns-in-Some
returns-in-Some c =
    let es = c.args.self.now.begins.entries in
    let part = c.range.ensures.in_range tt in
    let e = part.3 _ _ c.in-Some.ensures.steps in
    let last = part.4 _ _ c.in-Some.ensures.steps in
    is_named es c.args.key c.in-Some.field-0-0.now c.in-Some.holder.now (rises es c.range.ensures.ordered) (le_is _ _ e.0.1) e.1
    (λ j after up_to. none_beyond es _ j after (last j (tt, le_by _ _ up_to)))

pub returns-in-None : goal.returns-in-None
returns-in-None c =
    let es = c.args.self.now.begins.entries in
    let part = c.range.ensures.in_range tt in
    none_named es c.args.key (rises es c.range.ensures.ordered) (λ j le. part.5 c.in-None.ensures.steps.0 j (tt, le_by _ _ le))
