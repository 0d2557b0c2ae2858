use Rattle.station_schema.proofs.Common.{Survives, rules, state, subst, survives_weaker, ◌≡◌}
use Rattle.station_schema.proofs.Begun.{begun_then, survives_next}
use Rattle.station_schema.proofs.beside.create_beside.Goals as goal

pub returns-in_err-declare-clause-step : goal.returns-in_err-declare-clause-step
returns-in_err-declare-clause-step g c =
    let old = state g.S.Store c.args.conn.now in
    let filled = state g.S.Store c.declare.new.tables.conn.now in
    let left = state g.S.Store c.drop-tables.new.self.0 in
    let step = begun_then g.S.Store c.args.conn.now c.transaction-tables.result.conn.now filled left c.transaction-tables.ensures.begun c.declare.ensures.survives c.drop-tables.ensures.survives in
    (old.now.trees, subst (λ s. Survives old s (λ db. db ≡ old.now.trees)) (search rules) (survives_weaker old left (λ _. ⊥) _ (λ _ db no. absurd no) step))

pub returns-in_err-execute-clause-step : goal.returns-in_err-execute-clause-step
returns-in_err-execute-clause-step g c =
    let old = state g.S.Store c.args.conn.now in
    let filled = state g.S.Store c.declare.new.tables.conn.now in
    let noted = state g.S.Store c.execute.new.self.conn.now in
    let left = state g.S.Store c.drop-tables-in_err-execute.new.self.0 in
    let step = begun_then g.S.Store c.args.conn.now c.transaction-tables.result.conn.now filled left c.transaction-tables.ensures.begun c.declare.ensures.survives (survives_next filled noted left c.execute.ensures.survives c.drop-tables-in_err-execute.ensures.survives) in
    (old.now.trees, subst (λ s. Survives old s (λ db. db ≡ old.now.trees)) (search rules) (survives_weaker old left (λ _. ⊥) _ (λ _ db no. absurd no) step))

pub returns-clause-step : goal.returns-clause-step
returns-clause-step g c =
    let old = state g.S.Store c.args.conn.now in
    let filled = state g.S.Store c.declare.new.tables.conn.now in
    let noted = state g.S.Store c.execute.new.self.conn.now in
    let left = state g.S.Store c.commit.new.self.0 in
    let step = begun_then g.S.Store c.args.conn.now c.transaction-tables.result.conn.now filled left c.transaction-tables.ensures.begun c.declare.ensures.survives (survives_next filled noted left c.execute.ensures.survives c.commit.ensures.survives) in
    (noted.now.trees, subst (λ s. Survives old s (λ db. db ≡ noted.now.trees)) (search rules) step)
