use Rattle.station_rows.proofs.TrailLemmas.{lists_all_trail_lines, lists_trail_after, lists_trail_of}
use Rattle.station_rows.proofs.ReadLemmas.{query_survives, all_handed}
use Rattle.station_rows.proofs.Texts.{after_trail_is, all_trail_is, of_trail_is}
use Rattle.station_rows.proofs.trail.LinesForListing.run.Goals as goal

pub returns-in-All-clause-hands : goal.returns-in-All-clause-hands
returns-in-All-clause-hands g c =
    rw c.in-All.is (all_handed g.S.Store c.args.conn.now c.stream.new.conn _ _ (λ _ _ _ _ took. took) lists_all_trail_lines _ _ _ c.stream.ensures.streams)

pub returns-in-All-clause-survives : goal.returns-in-All-clause-survives
returns-in-All-clause-survives g c = query_survives all_trail_is _ _ _ c.stream.ensures.survives

pub returns-in-After-clause-hands : goal.returns-in-After-clause-hands
returns-in-After-clause-hands g c =
    rw c.in-After.is (all_handed g.S.Store c.args.conn.now c.stream-in-After.new.conn _ _ (λ _ _ _ _ took. took) (lists_trail_after c.in-After.number) _ _ _ (rw c.params-to_sql.ensures at c.stream-in-After.ensures.streams))

pub returns-in-After-clause-survives : goal.returns-in-After-clause-survives
returns-in-After-clause-survives g c = query_survives after_trail_is _ _ _ c.stream-in-After.ensures.survives

pub returns-in-Of-clause-hands : goal.returns-in-Of-clause-hands
returns-in-Of-clause-hands g c =
    rw c.in-Of.is (all_handed g.S.Store c.args.conn.now c.stream-in-Of.new.conn _ _ (λ _ _ _ _ took. took) (lists_trail_of c.in-Of.awb) _ _ _ (rw c.params-to_sql-in-Of.ensures at c.stream-in-Of.ensures.streams))

pub returns-in-Of-clause-survives : goal.returns-in-Of-clause-survives
returns-in-Of-clause-survives g c = query_survives of_trail_is _ _ _ c.stream-in-Of.ensures.survives
