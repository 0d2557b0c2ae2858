use Rattle.station_tables.proofs.Common.{rules}
use Rattle.station_tables.proofs.Made.{finds_up}
use Rattle.station_tables.proofs.station.Station.release.Goals as goal

pub returns : goal.returns
returns g c = record {
  clean = search rules;
  survives = rw c.into_store.ensures.same at c.release.ensures.survives;
  own = rw c.into_store.ensures.same at c.release.ensures.own;
  leaves = λ sound found finds. c.into_store.ensures.leaves found (finds_up _ _ (λ f left. c.release.ensures.leaves sound f left) found finds);
  sound = search rules;
  shown = search rules;
}
