use Rattle.table_load.proofs.Common.{state}
use Rattle.table_load.proofs.StationLemmas.{tells_station}
use Rattle.table_load.proofs.station.found_station.Goals as goal

pub returns-clause-read : goal.returns-clause-read
returns-clause-read g c clean up =
    let old = state g.S.Store c.args.conn.now in
    tells_station c.args.wanted old.now c.in-Some.rows old (state g.S.Store c.table_rows.new.conn) (rw c.in-Some.is at (c.in_ok-rows.ensures.read clean up)) c.judged_rows.result (rw c.deref.ensures.value at c.judged_rows.ensures)
