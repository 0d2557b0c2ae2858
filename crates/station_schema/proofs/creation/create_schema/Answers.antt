use Rattle.station_schema.proofs.Common.{IsMade, IsNewStation, Trees, arith, no_schema, state, survives_then}
use Rattle.station_schema.proofs.Creating.{begun_blank}
use Rattle.station_schema.proofs.creation.create_schema.Goals as goal

pub returns-in-Err-clause-survives : goal.returns-in-Err-clause-survives
returns-in-Err-clause-survives g c =
    let begun = state g.S.Store c.begin.new.conn in
    let new = state g.S.Store c.roll_back.new.conn in
    let founds : Trees → Type 0 = λ db. IsMade no_schema begun → IsNewStation c.args.airport.now db in
    survives_then (state g.S.Store c.args.conn.now) begun new _ founds _ (λ _ db no. absurd no)
    (λ clean db founded vacant. founded (begun_blank (state g.S.Store c.args.conn.now) begun vacant (c.in_ok-begin.ensures.begun (omega (arith, c.commit_tables.ensures.survives.clean, c.roll_back.ensures.survives.clean)))))
    c.begin.ensures.survives (survives_then begun (state g.S.Store c.commit_tables.new.conn) new founds _ founds (λ _ db it. it) (λ _ db no. absurd no) c.commit_tables.ensures.survives c.roll_back.ensures.survives)

pub returns-in-Ok-clause-survives : goal.returns-in-Ok-clause-survives
returns-in-Ok-clause-survives g c =
    let begun = state g.S.Store c.begin.new.conn in
    let founds : Trees → Type 0 = λ db. IsMade no_schema begun → IsNewStation c.args.airport.now db in
    survives_then (state g.S.Store c.args.conn.now) begun (state g.S.Store c.commit_tables.new.conn) _ founds _ (λ _ db no. absurd no)
    (λ clean db founded vacant. founded (begun_blank (state g.S.Store c.args.conn.now) begun vacant (c.in_ok-begin.ensures.begun (omega (arith, c.commit_tables.ensures.survives.clean)))))
    c.begin.ensures.survives c.commit_tables.ensures.survives
