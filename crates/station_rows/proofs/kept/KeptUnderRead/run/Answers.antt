use Rattle.station_rows.proofs.Common.{kept_meant, kept_read, refl}
use Rattle.station_rows.proofs.ShownRows.{kept_shown}
use Rattle.station_rows.proofs.ReadLemmas.{query_survives, first_told}
use Rattle.station_rows.proofs.Texts.{get_kept_is}
use Rattle.station_rows.proofs.KeyedLemmas.{gets_value}
use Rattle.station_rows.proofs.KeptLemmas.{kept_is, kept_table}
use Rattle.station_rows.proofs.kept.KeptUnderRead.run.Goals as goal

pub returns-clause-read : goal.returns-clause-read
returns-clause-read g c =
    first_told kept_meant kept_shown kept_read (λ _. refl) g.S.Store c.args.conn.now c.first_row.new.conn _
    (gets_value kept_table kept_is get_kept_is kept_shown (λ _ _ _. refl) c.args.self.id.now) _ (rw c.params-to_sql.ensures at c.first_row.ensures.read)

pub returns-clause-survives : goal.returns-clause-survives
returns-clause-survives g c = query_survives get_kept_is _ _ _ c.first_row.ensures.survives
