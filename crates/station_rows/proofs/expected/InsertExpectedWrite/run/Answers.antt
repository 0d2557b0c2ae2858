use Rattle.station_rows.proofs.Common.{refl, expected_meant}
use Rattle.station_rows.proofs.Texts.{insert_expected_is}
use Rattle.station_rows.proofs.WriteLemmas.{wrote}
use Rattle.station_rows.proofs.KeyedLemmas.{inserts}
use Rattle.station_rows.proofs.ExpectedLemmas.{expected_is, expected_table}
use Rattle.station_rows.proofs.expected.InsertExpectedWrite.run.Goals as goal

pub returns : goal.returns
returns g c =
    let it = wrote g.S.Store c.args.conn.now c.execute.new.self insert_expected_is refl (inserts expected_table expected_is _ insert_expected_is _ _ ((c.args.self.flight.now, (c.args.self.day, c.args.self.awb)), (expected_meant c.args.self.row.now)))
    (rw (c.params-to_sql.ensures, c.params-to_sql-2.ensures, c.params-to_sql-3.ensures, c.params-to_sql-4.ensures, c.params-to_sql-5.ensures, c.params-to_sql-6.ensures) at c.execute.ensures.runs) _ c.execute.ensures.survives in
    record { made = it.made; ran = it.ran; survives = it.survives }
