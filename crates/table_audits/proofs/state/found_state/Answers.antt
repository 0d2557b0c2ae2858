use Rattle.table_audits.proofs.Common.{ap, found_meant, read_as, state, sym, ◌∙◌}
use Rattle.table_audits.proofs.Judged.{damaged_stops}
use Rattle.table_audits.proofs.state.found_state.Goals as goal

pub returns-in-Damaged-clause-read : goal.returns-in-Damaged-clause-read
returns-in-Damaged-clause-read g c = λ clean up.
    let told = c.in_ok-found_station.ensures.read clean up in
    (damaged_stops (read_as c.args.version (state g.S.Store c.args.conn.now).now) (sym told.0 ∙ ap found_meant c.in-Damaged.is), told.1)
