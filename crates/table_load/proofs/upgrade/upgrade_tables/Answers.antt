use Rattle.table_load.proofs.Common.{IsInsideOld, MeansUpgraded, Trees, arith, state, survives_then}
use Rattle.table_load.proofs.Upgrading.{means_upgraded}
use Rattle.table_load.proofs.upgrade.upgrade_tables.Goals as goal

pub returns-in-Ok-clause-survives : goal.returns-in-Ok-clause-survives
returns-in-Ok-clause-survives g c =
    let old = state g.S.Store c.args.conn.now in
    let begun = state g.S.Store c.begin.new.conn in
    survives_then old begun (state g.S.Store c.commit_upgrade.new.conn) _ _ _ (λ _ db no. absurd no)
    (λ clean db means. means_upgraded old begun (c.in_ok-begin.ensures.begun (omega (arith, c.commit_upgrade.ensures.survives.clean))) db means)
    c.begin.ensures.survives c.commit_upgrade.ensures.survives

pub returns-in-Err-clause-survives : goal.returns-in-Err-clause-survives
returns-in-Err-clause-survives g c =
    let old = state g.S.Store c.args.conn.now in
    let begun = state g.S.Store c.begin.new.conn in
    let new = state g.S.Store c.roll_back.new.conn in
    let means : Trees → Type 0 = λ db. IsInsideOld begun → MeansUpgraded begun.now.trees db in
    survives_then old begun new _ means _ (λ _ db no. absurd no)
    (λ clean db it. means_upgraded old begun (c.in_ok-begin.ensures.begun (omega (arith, c.commit_upgrade.ensures.survives.clean, c.roll_back.ensures.survives.clean))) db it)
    c.begin.ensures.survives (survives_then begun (state g.S.Store c.commit_upgrade.new.conn) new means _ means (λ _ db it. it) (λ _ db no. absurd no) c.commit_upgrade.ensures.survives c.roll_back.ensures.survives)
