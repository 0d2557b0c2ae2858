use Rattle.station_rows.proofs.MoveLemmas.{lists_within}
use Rattle.station_rows.proofs.Texts.{within_move_is}
use Rattle.station_rows.proofs.ReadLemmas.{query_survives, all_handed}
use Rattle.station_rows.proofs.moves.MovesWithinListing.run.Goals as goal

pub returns-clause-hands : goal.returns-clause-hands
returns-clause-hands g c =
    all_handed g.S.Store c.args.conn.now c.stream.new.conn _ _ (λ _ _ _ _ took. took) (lists_within c.args.self.flight.now c.args.self.day c.args.self.after c.args.self.last) _ _ _ (rw (c.params-to_sql.ensures, c.params-to_sql-2.ensures, c.params-to_sql-3.ensures, c.params-to_sql-4.ensures) at c.stream.ensures.streams)

pub returns-clause-survives : goal.returns-clause-survives
returns-clause-survives g c = query_survives within_move_is _ _ _ c.stream.ensures.survives
