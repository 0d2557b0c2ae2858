use Rattle.station_tables.proofs.Common.{state}
use Rattle.station_tables.proofs.Attached.{has_these, is_lawful, knows, means, means_typed}
use Rattle.station_tables.proofs.attaching.go_on.Goals as goal

pub returns-in-Ok-clause-keeps : goal.returns-in-Ok-clause-keeps
returns-in-Ok-clause-keeps g c = λ s in_ tells outside rest.
    rw c.over.ensures
    (c.over_store.ensures.keeps in_.tables s (means _ s in_) (is_lawful _ s in_) (knows c.args.found _ s in_ tells)
    (λ sound. let same = c.in-Ok.ensures.same sound in has_these (state g.S.Store c.args.conn) _ s in_ (c.shows_station.ensures (c.in-Ok.ensures.schema sound) same.was_open rest sound.2) outside rest same))

pub returns-in-Ok-clause-typed : goal.returns-in-Ok-clause-typed
returns-in-Ok-clause-typed g c =
    rw c.over.ensures
    (λ sound rest s in_.
    let rows = c.over_store.ensures.sound sound in
    means_typed _ s (c.shows_station.ensures (c.in-Ok.ensures.schema rows) (c.in-Ok.ensures.same rows).was_open rest rows.2) in_)
