use Rattle.station_schema.proofs.Common.{state, sym, ◌∙◌}
use Rattle.station_schema.proofs.Owned.{owns, owned}
use Rattle.station_schema.proofs.Again.{found_again}
use Rattle.station_schema.proofs.connection.has_station.Goals as goal

pub returns-clause-own : goal.returns-clause-own
returns-clause-own g c is_open =
    let now = (state g.S.Store c.args.conn.now).now in
    let live = (c.schema.ensures.live is_open).0 in
    (λ is. owns now (sym c.schema.ensures.value ∙ c.is_declared.ensures.on is) live, λ own. c.is_declared.ensures.back (c.schema.ensures.value ∙ owned now own live))

pub returns-clause-station : goal.returns-clause-station
returns-clause-station g c is is_open settled lies =
    found_again g.S.Store c.args.conn.now is_open settled c.schema.ensures.live (sym c.schema.ensures.value ∙ c.is_declared.ensures.on is) lies
