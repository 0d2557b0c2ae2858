use Rattle.station_schema.proofs.Common.{HasCleanDisk, IsMade, Survives, no_schema, state}
use Rattle.station_schema.proofs.Creating.{HasComeTo}
use Rattle.station_schema.proofs.creation.declare.Given as goal

-- so many declarations have run
abbrev pub invariant-loop-text : goal.invariant-loop-text
invariant-loop-text g l =
    let old = state g.S.Store l.fn.conn in
    let now = state g.S.Store l.conn in
    record {
      made : HasCleanDisk now → IsMade no_schema old → HasComeTo old now l.text-index;
      survives : Survives old now (λ _. ¬ IsMade no_schema old);
    }
