-- CREATE TABLE beside the tables of a file of version 1.
use Rattle.table_load.proofs.Common.{Adds, AllByRecursion, AreListed, CommitsBy, CreateTable, Err, Error, Executes, IsInsideOld, List, None, Ok, Result, State, Survives, Table, Trees, Writes, [], ap, commits_nothing, execute_stops, keeps, old_schema, refl, rows_in, runs_as, station_schema, subst, survives_weaker, sym, tables_in, transaction_stays, waybill2, waybill_id, waybill_in, waybill_row, ℕ, ◌++◌, ◌∷◌, ◌≡◌}
use Rattle.sqlite.specs.Change.{KeepsRows}
use Rattle.station_schema.proofs.Making.{creates}
use Rattle.station_schema.specs.Tables.{IsTyped}
use Rattle.station_schema.specs.declared.declarations.TheConstants.{WAYBILL2}
use Rattle.station_schema.proofs.Texts.{waybill2_is}

abbrev AreTypedIn : Trees → List Table → Type 0
AreTypedIn db = AllByRecursion (λ (t : Table). IsTyped t.tree (db t.tree))

-- tables that keep their rows stay typed, and a table with no row is
typed_beside : (old new : Trees) (ts : List Table) → KeepsRows ts old new → AreTypedIn old ts → new 22 ≡ [] → AreTypedIn new (ts ++ waybill2 ∷ [])
typed_beside old new [] keep was empty = (subst (AreListed waybill_id waybill_row waybill_in) (sym empty) (record { rows = refl; keyed = tt }), tt)
typed_beside old new (t ∷ ts) keep was empty = (subst (IsTyped t.tree) (sym keep.0) was.0, typed_beside old new ts keep.1 was.1 empty)

rows_beside : (old new : Trees) → KeepsRows old_schema.tables old new → new 22 ≡ [] → rows_in new ≡ record (rows_in old) { waybills = [] }
rows_beside old new keep empty = λ i. record {
  stations = keep.0 i;
  old_waybills = keep.1.0 i;
  waybills = empty i;
  stock = keep.1.1.0 i;
  flights = keep.1.1.1.0 i;
  moves = keep.1.1.1.1.0 i;
  expected = keep.1.1.1.1.1.0 i;
  parts = keep.1.1.1.1.1.1.0 i;
  trail = keep.1.1.1.1.1.1.1.0 i;
  outbox = keep.1.1.1.1.1.1.1.1.0 i;
  kept = keep.1.1.1.1.1.1.1.1.1.0 i;
  kept_texts = keep.1.1.1.1.1.1.1.1.1.1.0 i;
  counts = keep.1.1.1.1.1.1.1.1.1.1.1.0 i;
  builds = keep.1.1.1.1.1.1.1.1.1.1.1.1.0 i;
}

module _ (old new : State) where
  pub adds : (r : Result ℕ Error) → IsInsideOld old → Executes WAYBILL2.now [] old new r → Adds old new r
  adds (Ok count) was h =
      let has = was.station.schema in
      let w = subst (λ t. Writes old new None CreateTable t [] count) waybill2_is.whole (runs_as WAYBILL2.now [] old new old_schema has CreateTable waybill2_is.command waybill2_is.plain count h) in
      let it = creates WAYBILL2.now old_schema (record waybill2 { tree = 0 }) waybill2_is station_schema refl refl old new count has w in
      record {
        station = record { schema = it.made; typed = typed_beside old.now.trees new.now.trees old_schema.tables it.others was.station.typed it.empty };
        tables = ap tables_in (rows_beside old.now.trees new.now.trees it.others it.empty);
        shown = transaction_stays old new was.begun w.shown;
      }
  adds (Err e) was h = keeps old new (execute_stops WAYBILL2.now [] old new e h)

  pub add_survives : Survives old new (CommitsBy WAYBILL2.now [] old) → Survives old new (λ _. ¬ IsInsideOld old)
  add_survives = survives_weaker old new _ _ (λ _ db h was. commits_nothing WAYBILL2.now [] old new old_schema was.station.schema CreateTable waybill2_is.command ((λ e. cc), λ _ e. cc) was.begun db h)
