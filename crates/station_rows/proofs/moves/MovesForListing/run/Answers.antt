use Rattle.station_rows.proofs.Common.{string_bytes}
use Rattle.station_rows.proofs.MoveLemmas.{lists_after, lists_all_moves, lists_flown, lists_move}
use Rattle.station_rows.proofs.ReadLemmas.{query_survives, all_handed}
use Rattle.station_rows.proofs.Texts.{after_move_is, all_move_is, flown_move_is, list_move_is}
use Rattle.station_rows.proofs.moves.MovesForListing.run.Goals as goal

pub returns-in-All-clause-hands : goal.returns-in-All-clause-hands
returns-in-All-clause-hands g c =
    rw c.in-All.is (all_handed g.S.Store c.args.conn.now c.stream.new.conn _ _ (λ _ _ _ _ took. took) lists_all_moves _ _ _ c.stream.ensures.streams)

pub returns-in-All-clause-survives : goal.returns-in-All-clause-survives
returns-in-All-clause-survives g c = query_survives all_move_is _ _ _ c.stream.ensures.survives

pub returns-in-After-clause-hands : goal.returns-in-After-clause-hands
returns-in-After-clause-hands g c =
    rw c.in-After.is (all_handed g.S.Store c.args.conn.now c.stream-in-After.new.conn _ _ (λ _ _ _ _ took. took) (lists_after c.in-After.number) _ _ _ (rw c.params-to_sql.ensures at c.stream-in-After.ensures.streams))

pub returns-in-After-clause-survives : goal.returns-in-After-clause-survives
returns-in-After-clause-survives g c = query_survives after_move_is _ _ _ c.stream-in-After.ensures.survives

pub returns-in-Of-clause-hands : goal.returns-in-Of-clause-hands
returns-in-Of-clause-hands g c =
    rw c.in-Of.is (all_handed g.S.Store c.args.conn.now c.stream-in-Of.new.conn _ _ (λ _ _ _ _ took. took) (lists_move c.in-Of.awb) _ _ _ (rw c.params-to_sql-in-Of.ensures at c.stream-in-Of.ensures.streams))

pub returns-in-Of-clause-survives : goal.returns-in-Of-clause-survives
returns-in-Of-clause-survives g c = query_survives list_move_is _ _ _ c.stream-in-Of.ensures.survives

pub returns-in-On-clause-hands : goal.returns-in-On-clause-hands
returns-in-On-clause-hands g c =
    rw c.in-On.is (all_handed g.S.Store c.args.conn.now c.stream-in-On.new.conn _ _ (λ _ _ _ _ took. took) (lists_flown (string_bytes c.in-On.flight) c.in-On.day) _ _ _ (rw (c.params-to_sql-in-On.ensures, c.params-to_sql-in-On-2.ensures) at c.stream-in-On.ensures.streams))

pub returns-in-On-clause-survives : goal.returns-in-On-clause-survives
returns-in-On-clause-survives g c = query_survives flown_move_is _ _ _ c.stream-in-On.ensures.survives
