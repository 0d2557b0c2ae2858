use Rattle.station_rows.proofs.Common.{expected_meant, expected_read, refl}
use Rattle.station_rows.proofs.ShownRows.{expected_shown}
use Rattle.station_rows.proofs.ReadLemmas.{query_survives, first_told}
use Rattle.station_rows.proofs.Texts.{get_expected_is}
use Rattle.station_rows.proofs.KeyedLemmas.{gets_value}
use Rattle.station_rows.proofs.ExpectedLemmas.{expected_is, expected_table}
use Rattle.station_rows.proofs.expected.ExpectedOnRead.run.Goals as goal

pub returns-clause-read : goal.returns-clause-read
returns-clause-read g c =
    first_told expected_meant expected_shown expected_read (λ _. refl) g.S.Store c.args.conn.now c.first_row.new.conn _
    (gets_value expected_table expected_is get_expected_is expected_shown (λ _ _ _. refl) (c.args.self.flight.now, (c.args.self.day, c.args.self.awb))) _ (rw (c.params-to_sql.ensures, c.params-to_sql-2.ensures, c.params-to_sql-3.ensures) at c.first_row.ensures.read)

pub returns-clause-survives : goal.returns-clause-survives
returns-clause-survives g c = query_survives get_expected_is _ _ _ c.first_row.ensures.survives
