-- In a database with the tables that a station declares, those that are held are the typed ones.
use Rattle.table_audits.proofs.Common.{Bool, Database, FileVersion, First, IsLawfulTable, IsOldStation, IsStation, IsStationOf, List, Reading, Second, Station, TableName, Tables, Trees, [], ap, build_old, build_typed, counts_old, counts_typed, damaged, entries, expected_old, expected_typed, flight_old, flight_typed, found_in_rows, if◌then◌else◌, int_eq, is_utf8, kept_key_old, kept_key_typed, kept_text_old, kept_text_typed, map, moves_old, moves_typed, old_tables_of, old_waybill_old, old_waybill_typed, one_row, other_version, outbox_old, outbox_typed, part_old, part_typed, pos, raised, read_as, refl, row_of_version, same_entries_map, station_columns, station_found, station_id, station_in, station_name, station_of, station_row, station_shown, stock_old, stock_typed, sym, tables_of, trail_old, trail_typed, true, typed_stations, undated, upgraded, version_number, waybill_typed, ℕ, ℤ, ◌&&◌, ◌∙◌, ◌∷◌, ◌≡◌, is_int}
use Rattle.sqlite.specs.Order.{column}
use Rattle.sqlite.specs.Table.{Table}
use Rattle.sqlite_tied.specs.Compute.{everything}
use Rattle.station_schema.specs.Schema.{schema_with, waybill2}
use Rattle.table_load.specs.Held.{found, rows_of}
use Rattle.station_schema.specs.Tables.{AreListed}
use Rattle.table_audits.proofs.Judged.{same_mark, same_words, through}

-- ---- lawful table by table, so lawful

pub each_lawful : (db : Reading) (t : Tables) → IsStationOf db t → (name : TableName) → IsLawfulTable name t
each_lawful db t all name = (through db t all name).0.lawful

-- ---- the row of `station`

same_row : (v : FileVersion) (x : Station) (a : List ℕ) (c : ℤ) → x.id ≡ pos 1 → x.airport ≡ a → x.version ≡ version_number v → x.confirmed ≡ c → x ≡ row_of_version v a c
same_row v x a c i p n q = λ k. record { id = i k; airport = p k; version = n k; confirmed = q k }

row_says : (v : FileVersion) (x : Station) (a : List ℕ) (c : ℤ) (n i u : Bool) → int_eq x.version (version_number v) ≡ n → int_eq x.id (pos 1) ≡ i → is_utf8 x.airport ≡ u
    → (if n then (if i && u then one_row x.airport x.confirmed else damaged) else other_version x.version) ≡ one_row a c → x ≡ row_of_version v a c
row_says v x a c true true true n i u h = same_row v x a c (is_int x.id (pos 1) i) (same_words h) (is_int x.version (version_number v) n) (same_mark h)
row_says v x a c _ _ _ n i u h = absurd (cc)

rows_say : (v : FileVersion) (st : List Station) (a : List ℕ) (c : ℤ) → found_in_rows v (map station_shown st) ≡ one_row a c → st ≡ row_of_version v a c ∷ []
rows_say v [] a c h = absurd (cc)
rows_say v (x ∷ []) a c h = ap (λ s. s ∷ []) (row_says v x a c (int_eq x.version (version_number v)) (int_eq x.id (pos 1)) (is_utf8 x.airport) refl refl refl h)
rows_say v (x ∷ y ∷ st) a c h = absurd (cc)

station_declared : (more : List Table) (trees : Trees) → found (record { schema = schema_with more; trees = trees }) station_name station_columns ≡ rows_of (map (λ r. map (column r) (0 ∷ 2 ∷ 3 ∷ 4 ∷ [])) (trees 0))
unfolding everything
station_declared more trees = refl

shown_rows : (st : List Station) → map (λ r. map (column r) (0 ∷ 2 ∷ 3 ∷ 4 ∷ [])) (map station_row st) ≡ map station_shown st
shown_rows [] = refl
shown_rows (x ∷ st) = ap (λ l. station_shown x ∷ l) (shown_rows st)

station_is : (more : List Table) (v : FileVersion) (db : Database) → db.schema ≡ schema_with more → AreListed station_id station_row station_in (db.trees 0) → (a : List ℕ) (c : ℤ) → station_of v db ≡ one_row a c
    → (tables_of db.trees).stations ≡ row_of_version v a c ∷ []
station_is more v db has typed a c says =
    let st = (tables_of db.trees).stations in
    let stored : db.trees 0 ≡ map station_row st = typed.rows in
    let at : found db station_name station_columns ≡ rows_of (map station_shown st) =
    ap (λ d. found (record { schema = d; trees = db.trees }) station_name station_columns) has ∙ station_declared more db.trees
    ∙ ap (λ rows. rows_of (map (λ r. map (column r) (0 ∷ 2 ∷ 3 ∷ 4 ∷ [])) rows)) stored ∙ ap rows_of (shown_rows st) in
    rows_say v st a c (sym (ap (station_found v) at) ∙ says)

-- ---- the tables that are held are the typed ones

all_same : {t u : Tables} → t.stations ≡ u.stations → t.old_waybills ≡ u.old_waybills → t.waybills ≡ u.waybills → t.stock ≡ u.stock → t.flights ≡ u.flights → t.moves ≡ u.moves → t.expected ≡ u.expected → t.parts ≡ u.parts → t.trail ≡ u.trail → t.outbox ≡ u.outbox → t.kept ≡ u.kept → t.kept_texts ≡ u.kept_texts → t.counts ≡ u.counts → t.builds ≡ u.builds → t ≡ u
all_same stations old_waybills waybills stock flights moves expected parts trail outbox kept kept_texts counts builds = λ i. record {
  stations = stations i;
  old_waybills = old_waybills i;
  waybills = waybills i;
  stock = stock i;
  flights = flights i;
  moves = moves i;
  expected = expected i;
  parts = parts i;
  trail = trail i;
  outbox = outbox i;
  kept = kept i;
  kept_texts = kept_texts i;
  counts = counts i;
  builds = builds i;
}

pub same_tables : (db : Database) (t : Tables) → IsStation db → IsStationOf (read_as Second db) t → tables_of db.trees ≡ t
same_tables db t was all =
    let station = all.1.1.1.1.1.1.1.1.1.1.1.1.1.0.held in
    let stations : (tables_of db.trees).stations ≡ t.stations = station_is (waybill2 ∷ []) Second db was.schema (typed_stations db was) station.0 station.1 station.2 ∙ sym station.3 in
    let old_waybills = (old_waybill_typed db was).0 t.old_waybills all.1.1.1.1.1.1.1.1.1.1.1.1.0.held in
    let waybills = (waybill_typed db was).0 t.waybills all.1.1.1.1.1.1.1.1.1.1.1.0.held in
    let stock = same_entries_map _ t.stock ((stock_typed db was).0 (entries t.stock) all.1.1.1.1.1.1.1.1.1.1.0.held) in
    let flights = same_entries_map _ t.flights ((flight_typed db was).0 (entries t.flights) all.1.1.1.1.1.1.1.1.1.0.held) in
    let moves = (moves_typed db was).0 t.moves all.1.1.1.1.1.1.1.1.0.held in
    let expected = same_entries_map _ t.expected ((expected_typed db was).0 (entries t.expected) all.1.1.1.1.1.1.1.0.held) in
    let parts = same_entries_map _ t.parts ((part_typed db was).0 (entries t.parts) all.1.1.1.1.1.1.0.held) in
    let trail = (trail_typed db was).0 t.trail all.1.1.1.1.1.0.held in
    let outbox = (outbox_typed db was).0 t.outbox all.1.1.1.1.0.held in
    let kept = same_entries_map _ t.kept ((kept_key_typed db was).0 (entries t.kept) all.1.1.1.0.held) in
    let kept_texts = same_entries_map _ t.kept_texts ((kept_text_typed db was).0 (entries t.kept_texts) all.1.1.0.held) in
    let counts = same_entries_map _ t.counts ((counts_typed db was).0 (entries t.counts) all.1.0.held) in
    let builds = same_entries_map _ t.builds ((build_typed db was).0 (entries t.builds) all.0.held) in
    all_same stations old_waybills waybills stock flights moves expected parts trail outbox kept kept_texts counts builds

-- ---- and in a file of version 1 those that its tables become

pub old_same_tables : (db : Database) (t : Tables) → IsOldStation db → IsStationOf (read_as First db) t → upgraded (old_tables_of db.trees) ≡ t
old_same_tables db t was all =
    let station = all.1.1.1.1.1.1.1.1.1.1.1.1.1.0.held in
    let stations : raised (tables_of db.trees).stations ≡ t.stations = ap raised (station_is [] First db was.schema was.typed.0 station.0 station.1 station.2) ∙ sym station.3 in
    let old_waybills : [] ≡ t.old_waybills = sym all.1.1.1.1.1.1.1.1.1.1.1.1.0.held in
    let olds = all.1.1.1.1.1.1.1.1.1.1.1.0.held in
    let waybills : map undated (tables_of db.trees).old_waybills ≡ t.waybills = ap (map undated) ((old_waybill_old db was).0 olds.0 olds.1) ∙ sym olds.2 in
    let stock = same_entries_map _ t.stock ((stock_old db was).0 (entries t.stock) all.1.1.1.1.1.1.1.1.1.1.0.held) in
    let flights = same_entries_map _ t.flights ((flight_old db was).0 (entries t.flights) all.1.1.1.1.1.1.1.1.1.0.held) in
    let moves = (moves_old db was).0 t.moves all.1.1.1.1.1.1.1.1.0.held in
    let expected = same_entries_map _ t.expected ((expected_old db was).0 (entries t.expected) all.1.1.1.1.1.1.1.0.held) in
    let parts = same_entries_map _ t.parts ((part_old db was).0 (entries t.parts) all.1.1.1.1.1.1.0.held) in
    let trail = (trail_old db was).0 t.trail all.1.1.1.1.1.0.held in
    let outbox = (outbox_old db was).0 t.outbox all.1.1.1.1.0.held in
    let kept = same_entries_map _ t.kept ((kept_key_old db was).0 (entries t.kept) all.1.1.1.0.held) in
    let kept_texts = same_entries_map _ t.kept_texts ((kept_text_old db was).0 (entries t.kept_texts) all.1.1.0.held) in
    let counts = same_entries_map _ t.counts ((counts_old db was).0 (entries t.counts) all.1.0.held) in
    let builds = same_entries_map _ t.builds ((build_old db was).0 (entries t.builds) all.0.held) in
    all_same stations old_waybills waybills stock flights moves expected parts trail outbox kept kept_texts counts builds
