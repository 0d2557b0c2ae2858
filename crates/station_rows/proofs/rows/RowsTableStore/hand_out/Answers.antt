use Rattle.station_rows.proofs.Common.{state}
use Rattle.station_rows.proofs.Views.{working_after, owned_after, so_true}
use Rattle.station_rows.proofs.rows.RowsTableStore.hand_out.Goals as goal

pub invariant_of-self : goal.invariant_of-self
invariant_of-self g c =
    let old = state g.S.Store c.args.self.now.conn in
    let mid = state g.S.Store c.run.new.conn in
    let new = state g.S.Store c.goes_on.new.conn in
    let one = c.run.ensures.survives in
    let two = c.goes_on.ensures.survives in
    let was = c.args.self.now.works c.if-self.false in
    record {
      works = λ on. working_after old mid new one two was (λ clean station. (c.in-Err.ensures.hands clean station).1) (λ clean.
          let same = c.goes_on.ensures.same (so_true c.goes_on.result on) clean in
          (c.is_autocommit-inside.ensures.settled (so_true c.is_autocommit-inside.result same.0), same.1));
      leaves = owned_after old mid new one two was c.args.self.now.leaves;
    }
