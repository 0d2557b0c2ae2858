use Rattle.station_tables.proofs.Again.{before_of, has_answered, one_of}
use Rattle.station_tables.proofs.repeating.repeat_on.Goals as goal

pub returns-in-Ok-clause-repeated : goal.returns-in-Ok-clause-repeated
returns-in-Ok-clause-repeated g c = λ s keeps sound.
    has_answered s c.args.input.now c.args.at c.in-Ok.answer _ _ (c.in-Ok.ensures.answers s keeps c.requires sound) (λ found left. c.in-Ok.ensures.leaves s keeps c.requires sound found left)

pub returns-in-Err-clause-leaves : goal.returns-in-Err-clause-leaves
returns-in-Err-clause-leaves g c = λ s keeps was clean found finds.
    let sound = c.in-Err.ensures.still was (c.release.ensures.clean clean) in
    one_of s c.args.input.now c.args.at c.in-Err.fault found (c.in-Err.ensures.leaves s keeps c.requires sound found (c.release.ensures.leaves clean found finds))

pub returns-in-Err-clause-memory : goal.returns-in-Err-clause-memory
returns-in-Err-clause-memory g c = λ s keeps was is clean found finds.
    let sound = c.in-Err.ensures.still was (c.release.ensures.clean clean) in
    before_of s c.args.input.now c.args.at c.in-Err.fault found (c.ended_by-fault.ensures.memory is) (c.in-Err.ensures.leaves s keeps c.requires sound found (c.release.ensures.leaves clean found finds))
