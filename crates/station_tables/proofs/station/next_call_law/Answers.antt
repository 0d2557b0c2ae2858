use Rattle.station_tables.proofs.Common.{Finds, are_declared, connection_in, refl, rows_view, state}
use Rattle.station_tables.proofs.Looked.{either}
use Rattle.station_tables.proofs.Restarted.{finds, fits_on, goes_on, leaves_own, opens_on, sounds_on}
use Rattle.station_tables.proofs.station.next_call_law.Goals as goal

pub returns : goal.returns
returns g c = λ last conn other opened sound released clean left found.
    let v = rows_view g.S.Store (connection_in last) (are_declared last.stored.store.store) in
    let db = (state g.S.Store other).now in
    let was = either (released.survives.crash clean _ left) in
    let own = leaves_own g.S.Store last sound _ was in
    record {
      found = goes_on db _ _ _ _ _ (λ f. Finds v f) opened found.works found.found found.own found.typed own (λ k clean declared. (clean, declared, sound.2)) (λ it in_ typed. finds v db it (_, was, refl) in_ typed);
      sound = sounds_on _ _ _ _ opened found.own own (λ k clean declared. (clean, declared, sound.2));
      opens = λ some_. opens_on v db _ opened (_, was, refl) some_ (fits_on _ _ _ _ opened found.own_fit own sound.2);
    }
