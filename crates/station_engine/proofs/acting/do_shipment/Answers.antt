use Rattle.station_engine.proofs.Common.{at_rest, inl, inr, ⊎_elim}
use Rattle.station_engine.proofs.Steps.{planned_by}
use Rattle.station_engine.proofs.acting.do_shipment.Goals as goal

pub returns-in-Ok : goal.returns-in-Ok
returns-in-Ok g c =
    let read = c.in_ok-refusal.ensures in
    let then = c.do_plan.ensures c.args.at in
    record {
      serves = λ s shows known sound.
          then.serves s (read.rests s shows) (planned_by s c.args.input.now c.args.at c.args.text.now c.args.command.now _ c.in-Ok.plan c.in-Ok.is known (c.requires.command s.cargo) (read.value (at_rest s) shows (then.premise.sound sound) known.0.cargo)) sound;
      premise = record {
        clean = λ clean. read.survives.clean (then.premise.clean clean);
        still = λ was clean. then.premise.still (read.survives.still was (then.premise.clean clean)) clean;
        sound = λ sound. read.survives.sound (then.premise.sound sound);
      };
      leaves = λ s shows known sound found finds.
          ⊎_elim (λ before. inl (read.survives.leaves (then.premise.sound sound) found before)) (λ after. inr after)
          (then.leaves s (read.rests s shows) (planned_by s c.args.input.now c.args.at c.args.text.now c.args.command.now _ c.in-Ok.plan c.in-Ok.is known (c.requires.command s.cargo) (read.value (at_rest s) shows (then.premise.sound sound) known.0.cargo)) sound found finds);
    }
