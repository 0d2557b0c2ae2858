use Rattle.station_rows.proofs.Common.{kept_text_shown, reads, refl, state, station_schema}
use Rattle.station_rows.proofs.ReadLemmas.{query_survives}
use Rattle.station_rows.proofs.Texts.{get_kept_text_is}
use Rattle.station_rows.proofs.KeyedLemmas.{gets_value}
use Rattle.station_rows.proofs.KeptTextLemmas.{kept_text_is, kept_text_table}
use Rattle.station_rows.proofs.kept.shown_kept_text.Goals as goal

pub returns-clause-read : goal.returns-clause-read
returns-clause-read g c clean was =
    reads _ _ (state g.S.Store c.args.conn.now) (state g.S.Store c.query_all.new.self) station_schema was.schema get_kept_text_is.asks.1 _
    (λ rows. (gets_value kept_text_table kept_text_is get_kept_text_is kept_text_shown (λ _ _ _. refl) c.args.body.now).shows (state g.S.Store c.args.conn.now) (state g.S.Store c.query_all.new.self) rows was) _
    (rw c.params-to_sql.ensures at (c.query_all.ensures.ok clean))
    (rw c.params-to_sql.ensures at (c.query_all.ensures.err clean))

pub returns-clause-survives : goal.returns-clause-survives
returns-clause-survives g c = query_survives get_kept_text_is _ _ _ c.query_all.ensures.survives
