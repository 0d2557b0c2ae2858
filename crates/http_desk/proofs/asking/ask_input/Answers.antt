use Rattle.http_desk.proofs.Common.{station_after, ◌∙◌}
use Rattle.http_desk.proofs.AskedJson.{asked_refused, asked_fault}
use Rattle.http_desk.proofs.asking.ask_input.Goals as goal

pub returns-in-Ok-Refused-clause-asked : goal.returns-in-Ok-Refused-clause-asked
returns-in-Ok-Refused-clause-asked g c = λ s kept works sound.
    let given = c.in-Ok-Refused.ensures.answers s kept works sound in
    let new = c.answer_one.new.keeper in
    asked_refused s c.args.at c.args.input.now c.in-Ok-Refused.refusal c.refusal_told.result (station_after g.K.Keeper.keeping new)
    (given.0 ∙ c.in-Ok-Refused.field-0-is) c.refusal_told.ensures (c.in-Ok-Refused.ensures.works works, given.1)

pub returns-in-Err-clause-asked : goal.returns-in-Err-clause-asked
returns-in-Err-clause-asked g c = λ s kept works sound.
    let new = c.answer_one.new.keeper in
    asked_fault s c.args.at c.args.input.now c.in-Err.fault c.ne.result (station_after g.K.Keeper.keeping new)
    (c.in-Err.ensures.fault works) (c.in-Err.ensures.breaks works) (c.in-Err.ensures.answers s kept works sound) (c.in-Err.ensures.leaves s kept works sound)
