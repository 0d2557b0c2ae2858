use Rattle.std.proofs.Common.{◌≡◌}
use Rattle.station_schema.proofs.Handing.{HasCome}
use Rattle.station_schema.proofs.streaming.hand_rows.Given as goal

abbrev pub invariant-loop : goal.invariant-loop
invariant-loop g l = (l.rows.conn.ghost_name ≡ l.fn.rows.conn.ghost_name) × HasCome g.S.Store g.T.ReadRow.reads g.K.Sink.takes l.fn.rows.conn.now l.fn.sink l.rows.conn.now l.sink
