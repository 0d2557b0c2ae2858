use Rattle.station_rows.proofs.Common.{state}
use Rattle.station_rows.proofs.ReadLemmas.{reads_each}
use Rattle.station_rows.proofs.statements.all_rows.Goals as goal

pub returns-clause-read : goal.returns-clause-read
returns-clause-read g c clean plain = reads_each _ (state g.S.Store c.args.conn.now) (state g.S.Store c.shown_rows.new.conn) _ _ _ (c.in_ok-rows.ensures.read clean plain) _ (rw c.deref.ensures.value at c.read_all.ensures)
