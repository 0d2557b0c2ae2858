use Rattle.station_engine.proofs.Common.{IsLawfulState, State, at_rest, subst, ◌∙◌}
use Rattle.station_engine.specs.Serving.{found_is}
use Rattle.station_engine.proofs.Reading.{one_of_two}
use Rattle.station_core.proofs.Refusals.{refused_stays}
use Rattle.station_engine.proofs.station.StoredStation.act_on.Goals as goal

pub returns-in-Err-clause-leaves : goal.returns-in-Err-clause-leaves
returns-in-Err-clause-leaves g c = λ s keeps works sound found finds.
    one_of_two (g.S.StateStore.storing.may_find c.args.self.now.store) (g.S.StateStore.storing.may_find c.serve.new.store) s c.args.input.now c.args.at keeps.0
    (g.met.S.StateStore.settled c.args.self.now.store s keeps.1 (c.serve.ensures.premise.sound sound)) (c.serve.ensures.leaves s keeps.1 keeps.0 sound) found finds

pub returns-clause-acts : goal.returns-clause-acts
returns-clause-acts g c = λ s keeps works sound.
    let served = c.in-Ok-serve.ensures.serves s keeps.1 keeps.0 sound in
    let is = served.answer ∙ c.in-Refused.is in (
      is,
      subst (λ (t : State). IsLawfulState t × g.S.StateStore.storing.shows c.serve.new.store (at_rest t)) (refused_stays s c.args.input.now c.args.at c.in-Refused.refusal is) served.state,
    )

pub returns-clause-leaves : goal.returns-clause-leaves
returns-clause-leaves g c = λ s keeps works sound found finds.
    let kept = (returns-clause-acts g c s keeps works sound).1 in
    found_is (g.S.StateStore.storing.may_find c.serve.new.store) s kept.0 (g.met.S.StateStore.settled c.serve.new.store s kept.1 sound) found finds
