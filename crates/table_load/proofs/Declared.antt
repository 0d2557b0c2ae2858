-- In the tables that a station declares, in a file of either version, what is held under the names
-- is what the typed tables are.
use Rattle.table_load.proofs.Common.{AreEntries, AreListed, Database, FileVersion, First, HasBuildTexts, HasCountsTexts, HasExpectedTexts, HasFlightTexts, HasKeptKeyTexts, HasKeptTextTexts, HasMovesTexts, HasOldWaybillTexts, HasOutboxTexts, HasPartTexts, HasStockTexts, HasTrailTexts, HasWaybillTexts, HoldsBuild, HoldsCounts, HoldsExpected, HoldsFlight, HoldsKeptKey, HoldsKeptText, HoldsMoves, HoldsOld, HoldsOldWaybill, HoldsOutbox, HoldsPart, HoldsStock, HoldsTrail, HoldsTyped, HoldsWaybill, IsHeldBy, IsOldStation, IsStation, List, Second, Station, Table, Trees, [], ap, build_cmp, build_in, build_read, build_row, count_cmp, count_in, count_read, count_row, entries, expected_back, expected_cmp, expected_in, expected_row, flight_back, flight_cmp, flight_in, flight_row, found, is_utf8, kept_cmp, kept_in, kept_key_back, kept_row, kept_text_back, kept_text_cmp, kept_text_in, kept_text_row, map, message_id, message_in, message_read, message_row, move_id, move_in, move_read, move_row, old_tables_of, old_waybill_back, old_waybill_id, old_waybill_in, old_waybill_row, one_row, part_back, part_cmp, part_in, part_row, refl, row_of_version, rows_of, schema_with, station_columns, station_found, station_id, station_in, station_name, station_of, station_row, station_schema, station_shown, stock_cmp, stock_in, stock_read, stock_row, tables_of, trail_id, trail_in, trail_read, trail_row, true, typed_builds, typed_counts, typed_expected, typed_flights, typed_kept, typed_kept_texts, typed_moves, typed_old_waybills, typed_outbox, typed_parts, typed_stations, typed_stock, typed_trail, typed_waybills, waybill2, waybill_id, waybill_in, waybill_read, waybill_row, ℕ, ℤ, ◌∙◌, ◌∷◌, ◌≡◌}
use Rattle.sqlite.specs.Order.{column}
use Rattle.sqlite_tied.specs.Compute.{everything}
use Rattle.table_load.proofs.TypedLemmas.{keyed_held, numbered_held}
use Rattle.station_schema.proofs.Keys.{stock_total, flight_total, expected_total, part_total, kept_total, kept_text_total, count_total, build_total}
use Rattle.table_load.proofs.StationLemmas.{is_of_version}

-- ---- waybill, which is empty in files of version 2

old_waybill_held : (more : List Table) (db : Database) → db.schema ≡ schema_with more → AreListed old_waybill_id old_waybill_row old_waybill_in (db.trees 1) → IsHeldBy HoldsOldWaybill HasOldWaybillTexts db ((tables_of db.trees).old_waybills)
unfolding everything
old_waybill_held more db has typed = numbered_held old_waybill_back (0 ∷ 2 ∷ 3 ∷ 4 ∷ 5 ∷ 6 ∷ 7 ∷ []) has refl typed (λ _. refl) (λ _. refl) (λ _. refl)

-- ---- waybill2, which only files of version 2 have

waybill_held : (db : Database) → db.schema ≡ station_schema → AreListed waybill_id waybill_row waybill_in (db.trees 22) → IsHeldBy HoldsWaybill HasWaybillTexts db ((tables_of db.trees).waybills)
unfolding everything
waybill_held db has typed = numbered_held waybill_read (0 ∷ 2 ∷ 3 ∷ 4 ∷ 5 ∷ 6 ∷ 7 ∷ 8 ∷ []) has refl typed (λ _. refl) (λ _. refl) (λ _. refl)

-- ---- the other tables, in files of both versions

stock_held : (more : List Table) (db : Database) → db.schema ≡ schema_with more → AreEntries stock_cmp stock_row stock_in (db.trees 2) → IsHeldBy HoldsStock HasStockTexts db (entries (tables_of db.trees).stock)
unfolding everything
stock_held more db has typed = keyed_held stock_total stock_read (1 ∷ 2 ∷ 3 ∷ 4 ∷ 5 ∷ []) has refl typed (λ _. refl) (λ _. refl) (λ _ _. refl)

flight_held : (more : List Table) (db : Database) → db.schema ≡ schema_with more → AreEntries flight_cmp flight_row flight_in (db.trees 4) → IsHeldBy HoldsFlight HasFlightTexts db (entries (tables_of db.trees).flights)
unfolding everything
flight_held more db has typed = keyed_held flight_total flight_back (1 ∷ 2 ∷ 3 ∷ 4 ∷ []) has refl typed (λ _. refl) (λ _. refl) (λ _ _. refl)

moves_held : (more : List Table) (db : Database) → db.schema ≡ schema_with more → AreListed move_id move_row move_in (db.trees 6) → IsHeldBy HoldsMoves HasMovesTexts db ((tables_of db.trees).moves)
unfolding everything
moves_held more db has typed = numbered_held move_read (0 ∷ 2 ∷ 3 ∷ 4 ∷ 5 ∷ 6 ∷ 7 ∷ 8 ∷ 9 ∷ 10 ∷ []) has refl typed (λ _. refl) (λ _. refl) (λ _. refl)

expected_held : (more : List Table) (db : Database) → db.schema ≡ schema_with more → AreEntries expected_cmp expected_row expected_in (db.trees 8) → IsHeldBy HoldsExpected HasExpectedTexts db (entries (tables_of db.trees).expected)
unfolding everything
expected_held more db has typed = keyed_held expected_total expected_back (1 ∷ 2 ∷ 3 ∷ 4 ∷ 5 ∷ 6 ∷ []) has refl typed (λ _. refl) (λ _. refl) (λ _ _. refl)

part_held : (more : List Table) (db : Database) → db.schema ≡ schema_with more → AreEntries part_cmp part_row part_in (db.trees 10) → IsHeldBy HoldsPart HasPartTexts db (entries (tables_of db.trees).parts)
unfolding everything
part_held more db has typed = keyed_held part_total part_back (1 ∷ 2 ∷ 3 ∷ 4 ∷ 5 ∷ []) has refl typed (λ _. refl) (λ _. refl) (λ _ _. refl)

trail_held : (more : List Table) (db : Database) → db.schema ≡ schema_with more → AreListed trail_id trail_row trail_in (db.trees 12) → IsHeldBy HoldsTrail HasTrailTexts db ((tables_of db.trees).trail)
unfolding everything
trail_held more db has typed = numbered_held trail_read (0 ∷ 2 ∷ 3 ∷ []) has refl typed (λ _. refl) (λ _. refl) (λ _. refl)

outbox_held : (more : List Table) (db : Database) → db.schema ≡ schema_with more → AreListed message_id message_row message_in (db.trees 13) → IsHeldBy HoldsOutbox HasOutboxTexts db ((tables_of db.trees).outbox)
unfolding everything
outbox_held more db has typed = numbered_held message_read (0 ∷ 2 ∷ []) has refl typed (λ _. refl) (λ _. refl) (λ _. refl)

kept_key_held : (more : List Table) (db : Database) → db.schema ≡ schema_with more → AreEntries kept_cmp kept_row kept_in (db.trees 14) → IsHeldBy HoldsKeptKey HasKeptKeyTexts db (entries (tables_of db.trees).kept)
unfolding everything
kept_key_held more db has typed = keyed_held kept_total kept_key_back (1 ∷ 2 ∷ 3 ∷ []) has refl typed (λ _. refl) (λ _. refl) (λ _ _. refl)

kept_text_held : (more : List Table) (db : Database) → db.schema ≡ schema_with more → AreEntries kept_text_cmp kept_text_row kept_text_in (db.trees 16) → IsHeldBy HoldsKeptText HasKeptTextTexts db (entries (tables_of db.trees).kept_texts)
unfolding everything
kept_text_held more db has typed = keyed_held kept_text_total kept_text_back (1 ∷ 2 ∷ []) has refl typed (λ _. refl) (λ _. refl) (λ _ _. refl)

counts_held : (more : List Table) (db : Database) → db.schema ≡ schema_with more → AreEntries count_cmp count_row count_in (db.trees 18) → IsHeldBy HoldsCounts HasCountsTexts db (entries (tables_of db.trees).counts)
unfolding everything
counts_held more db has typed = keyed_held count_total count_read (1 ∷ 2 ∷ 3 ∷ 4 ∷ []) has refl typed (λ _. refl) (λ _. refl) (λ _ _. refl)

build_held : (more : List Table) (db : Database) → db.schema ≡ schema_with more → AreEntries build_cmp build_row build_in (db.trees 20) → IsHeldBy HoldsBuild HasBuildTexts db (entries (tables_of db.trees).builds)
unfolding everything
build_held more db has typed = keyed_held build_total build_read (1 ∷ 2 ∷ 3 ∷ 4 ∷ 5 ∷ []) has refl typed (λ _. refl) (λ _. refl) (λ _ _. refl)

-- ---- station

station_declared : (more : List Table) (trees : Trees) → found (record { schema = schema_with more; trees = trees }) station_name station_columns ≡ rows_of (map (λ r. map (column r) (0 ∷ 2 ∷ 3 ∷ 4 ∷ [])) (trees 0))
unfolding everything
station_declared more trees = refl

station_held : (more : List Table) (version : FileVersion) (db : Database) (airport : List ℕ) (confirmed : ℤ) → db.schema ≡ schema_with more → AreListed station_id station_row station_in (db.trees 0) →
    (tables_of db.trees).stations ≡ row_of_version version airport confirmed ∷ [] → is_utf8 airport ≡ true → station_of version db ≡ one_row airport confirmed
station_held more version db airport confirmed has typed one text =
    let s : Station = row_of_version version airport confirmed in
    let stored : db.trees 0 ≡ station_row s ∷ [] = typed.rows ∙ ap (map station_row) one in
    let at : found db station_name station_columns ≡ rows_of (station_shown s ∷ []) =
    ap (λ d. found (record { schema = d; trees = db.trees }) station_name station_columns) has ∙ station_declared more db.trees ∙ ap (λ rows. rows_of (map (λ r. map (column r) (0 ∷ 2 ∷ 3 ∷ 4 ∷ [])) rows)) stored in
    ap (station_found version) at ∙ rw (is_of_version version, text) refl

-- ---- in a file of version 2

pub station_typed : (db : Database) (airport : List ℕ) (confirmed : ℤ) → IsStation db → (tables_of db.trees).stations ≡ row_of_version Second airport confirmed ∷ [] → is_utf8 airport ≡ true → station_of Second db ≡ one_row airport confirmed
station_typed db airport confirmed was = station_held (waybill2 ∷ []) Second db airport confirmed was.schema (typed_stations db was)

pub old_waybill_typed : HoldsTyped HoldsOldWaybill HasOldWaybillTexts (λ t. t.old_waybills)
old_waybill_typed db was = old_waybill_held (waybill2 ∷ []) db was.schema (typed_old_waybills db was)

pub waybill_typed : HoldsTyped HoldsWaybill HasWaybillTexts (λ t. t.waybills)
waybill_typed db was = waybill_held db was.schema (typed_waybills db was)

pub stock_typed : HoldsTyped HoldsStock HasStockTexts (λ t. entries t.stock)
stock_typed db was = stock_held (waybill2 ∷ []) db was.schema (typed_stock db was)

pub flight_typed : HoldsTyped HoldsFlight HasFlightTexts (λ t. entries t.flights)
flight_typed db was = flight_held (waybill2 ∷ []) db was.schema (typed_flights db was)

pub moves_typed : HoldsTyped HoldsMoves HasMovesTexts (λ t. t.moves)
moves_typed db was = moves_held (waybill2 ∷ []) db was.schema (typed_moves db was)

pub expected_typed : HoldsTyped HoldsExpected HasExpectedTexts (λ t. entries t.expected)
expected_typed db was = expected_held (waybill2 ∷ []) db was.schema (typed_expected db was)

pub part_typed : HoldsTyped HoldsPart HasPartTexts (λ t. entries t.parts)
part_typed db was = part_held (waybill2 ∷ []) db was.schema (typed_parts db was)

pub trail_typed : HoldsTyped HoldsTrail HasTrailTexts (λ t. t.trail)
trail_typed db was = trail_held (waybill2 ∷ []) db was.schema (typed_trail db was)

pub outbox_typed : HoldsTyped HoldsOutbox HasOutboxTexts (λ t. t.outbox)
outbox_typed db was = outbox_held (waybill2 ∷ []) db was.schema (typed_outbox db was)

pub kept_key_typed : HoldsTyped HoldsKeptKey HasKeptKeyTexts (λ t. entries t.kept)
kept_key_typed db was = kept_key_held (waybill2 ∷ []) db was.schema (typed_kept db was)

pub kept_text_typed : HoldsTyped HoldsKeptText HasKeptTextTexts (λ t. entries t.kept_texts)
kept_text_typed db was = kept_text_held (waybill2 ∷ []) db was.schema (typed_kept_texts db was)

pub counts_typed : HoldsTyped HoldsCounts HasCountsTexts (λ t. entries t.counts)
counts_typed db was = counts_held (waybill2 ∷ []) db was.schema (typed_counts db was)

pub build_typed : HoldsTyped HoldsBuild HasBuildTexts (λ t. entries t.builds)
build_typed db was = build_held (waybill2 ∷ []) db was.schema (typed_builds db was)

-- ---- and of version 1

pub station_old : (db : Database) (airport : List ℕ) (confirmed : ℤ) → IsOldStation db → (old_tables_of db.trees).stations ≡ row_of_version First airport confirmed ∷ [] → is_utf8 airport ≡ true → station_of First db ≡ one_row airport confirmed
station_old db airport confirmed was = station_held [] First db airport confirmed was.schema was.typed.0

pub old_waybill_old : HoldsOld HoldsOldWaybill HasOldWaybillTexts (λ t. t.old_waybills)
old_waybill_old db was = old_waybill_held [] db was.schema was.typed.1.0

pub stock_old : HoldsOld HoldsStock HasStockTexts (λ t. entries t.stock)
stock_old db was = stock_held [] db was.schema was.typed.1.1.0

pub flight_old : HoldsOld HoldsFlight HasFlightTexts (λ t. entries t.flights)
flight_old db was = flight_held [] db was.schema was.typed.1.1.1.0

pub moves_old : HoldsOld HoldsMoves HasMovesTexts (λ t. t.moves)
moves_old db was = moves_held [] db was.schema was.typed.1.1.1.1.0

pub expected_old : HoldsOld HoldsExpected HasExpectedTexts (λ t. entries t.expected)
expected_old db was = expected_held [] db was.schema was.typed.1.1.1.1.1.0

pub part_old : HoldsOld HoldsPart HasPartTexts (λ t. entries t.parts)
part_old db was = part_held [] db was.schema was.typed.1.1.1.1.1.1.0

pub trail_old : HoldsOld HoldsTrail HasTrailTexts (λ t. t.trail)
trail_old db was = trail_held [] db was.schema was.typed.1.1.1.1.1.1.1.0

pub outbox_old : HoldsOld HoldsOutbox HasOutboxTexts (λ t. t.outbox)
outbox_old db was = outbox_held [] db was.schema was.typed.1.1.1.1.1.1.1.1.0

pub kept_key_old : HoldsOld HoldsKeptKey HasKeptKeyTexts (λ t. entries t.kept)
kept_key_old db was = kept_key_held [] db was.schema was.typed.1.1.1.1.1.1.1.1.1.0

pub kept_text_old : HoldsOld HoldsKeptText HasKeptTextTexts (λ t. entries t.kept_texts)
kept_text_old db was = kept_text_held [] db was.schema was.typed.1.1.1.1.1.1.1.1.1.1.0

pub counts_old : HoldsOld HoldsCounts HasCountsTexts (λ t. entries t.counts)
counts_old db was = counts_held [] db was.schema was.typed.1.1.1.1.1.1.1.1.1.1.1.0

pub build_old : HoldsOld HoldsBuild HasBuildTexts (λ t. entries t.builds)
build_old db was = build_held [] db was.schema was.typed.1.1.1.1.1.1.1.1.1.1.1.1.0
