-- What the statement on `station` does.
use Rattle.station_schema.proofs.Common.{CommitsBy, Edits, Executes, IsInside, IsKeyedBy-insert_by, List, Ok, Row, State, Survives, Text, [], insert_by, new_station, pos, refl, station, station_id, station_row, station_schema, tables_of, value_rows, with_station, ℕ, ◌∷◌}
use Rattle.station_schema.proofs.TableRows.{typed_stations}
use Rattle.station_schema.proofs.Shared.{cast_int, cast_null}
use Rattle.station_schema.proofs.Keyed.{puts}
use Rattle.station_schema.proofs.Ran.{IsPlaced, insert_ran}
use Rattle.station_schema.proofs.Statements.{execute_survives}
use Rattle.station_schema.proofs.Texts.{insert_station_text, insert_station_is, station_terms}
use Rattle.station_schema.proofs.Stored.{edits_stations}

pub station_placed : IsPlaced station_schema 0 station
station_placed = record { there = refl; uncounted = refl; unstamped = refl; idle = λ _ _ _. refl }

pub inserts_station : (old new : State) (airport : List ℕ) (count : ℕ) → IsInside old → Executes insert_station_text (Text airport ∷ []) old new (Ok count) → Edits old new (with_station airport)
inserts_station old new airport count inside h =
    let was = typed_stations old.now inside.station in
    let params = Text airport ∷ [] in
    let ran = insert_ran station_schema old new inside.station.schema 0 station station_placed insert_station_text params count h station_terms 5 insert_station_is in
    let put = puts station_id station_row (λ _. refl) station_schema _ station old.now.trees new.now.trees (tables_of old.now.trees).stations was.rows (value_rows params 5 1 station_terms) (new_station airport)
    (rw (cast_null, cast_int (pos 1), cast_int (pos 2), cast_int (pos 0))) ran.applies in
    edits_stations old new inside ran.kept ran.applies.tables ran.shown (λ xs. insert_by station_id xs (new_station airport)) put.rows (IsKeyedBy-insert_by station_id _ (new_station airport) was.keyed)

pub insert_survives : (old new : State) (params : Row) → Survives old new (CommitsBy insert_station_text params old) → Survives old new (λ _. ¬ IsInside old)
insert_survives old new params = execute_survives insert_station_text params old new _ insert_station_is.0 ((λ e. cc), λ _ e. cc)
