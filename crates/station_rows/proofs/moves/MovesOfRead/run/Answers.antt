use Rattle.station_rows.proofs.Common.{move_meant, move_read, move_shown, refl}
use Rattle.station_rows.proofs.ReadLemmas.{query_survives, all_told}
use Rattle.station_rows.proofs.Texts.{list_move_is}
use Rattle.station_rows.proofs.MoveLemmas.{lists_move}
use Rattle.station_rows.proofs.moves.MovesOfRead.run.Goals as goal

pub returns-clause-read : goal.returns-clause-read
returns-clause-read g c =
    all_told move_meant move_shown move_read (λ _. refl) g.S.Store c.args.conn.now c.all_rows.new.conn (lists_move c.args.self.awb)
    _ (rw c.params-to_sql.ensures at c.all_rows.ensures.read)

pub returns-clause-survives : goal.returns-clause-survives
returns-clause-survives g c = query_survives list_move_is _ _ _ c.all_rows.ensures.survives
