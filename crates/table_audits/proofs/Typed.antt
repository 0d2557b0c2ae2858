-- In a database with the tables that a station declares, typed tables that are lawful are held.
use Rattle.table_audits.proofs.Common.{AllByRecursion, Bool, Database, HasCountsTexts, HasOldWaybillTexts, HoldsStation, IsAscii-airport, IsGood, IsHeld, IsLawfulTable, IsStation, IsStationOf, IsUtf8-from_ascii, List, Second, Station, TableName, [], and_parts, book_in, build_typed, counts_typed, expected_typed, flight_typed, is_airport, is_station, is_utf8-from_IsUtf8, kept_key_typed, kept_text_typed, list_all, moves_typed, new_row, old_waybill_typed, outbox_typed, part_typed, pos, read_as, station_typed, stock_typed, subst, sym, tables_of, trail_typed, true, waybill_typed, ℕ, ℤ, ◌∷◌, ◌≡◌, is_int}
use Rattle.table_audits.specs.declared.name.TableName.TheVariants as table
use Rattle.table_audits.proofs.RowTexts.{waybill_texts, stock_texts, flight_texts, moves_texts, expected_texts, part_texts, trail_texts, outbox_texts, kept_key_texts, kept_text_texts, build_texts}

each : {X : Type 0} (test : X → Bool) (P : X → Type 0) → ((x : X) → test x ≡ true → P x) → (xs : List X) → list_all test xs ≡ true → AllByRecursion P xs
each test P so [] h = tt
each test P so (x ∷ xs) h = let a = and_parts (test x) (list_all test xs) h in (so x a.0, each test P so xs a.1)

no_texts : {X : Type 0} (P : X → Type 0) → ((x : X) → P x) → (xs : List X) → AllByRecursion P xs
no_texts P so [] = tt
no_texts P so (x ∷ xs) = (so x, no_texts P so xs)

no_rows : {X : Type 0} (P : X → Type 0) (xs : List X) → xs ≡ [] → AllByRecursion P xs
no_rows P xs none = subst (AllByRecursion P) (sym none) tt

-- the row of `station`

only_row : (rows : List Station) → is_station rows ≡ true → (airport : List ℕ) × (confirmed : ℤ) × (rows ≡ new_row airport confirmed ∷ []) × (is_airport airport ≡ true)
only_row [] h = absurd (cc)
only_row (x ∷ []) h =
    let a = and_parts _ _ h in
    let b = and_parts _ _ a.0 in
    let c = and_parts _ _ b.0 in
    let id = is_int x.id (pos 1) c.0 in
    let version = is_int x.version (pos 2) b.1 in
    (x.airport, x.confirmed, (λ k. record { id = id k; airport = x.airport; version = version k; confirmed = x.confirmed } ∷ []), c.1)
only_row (x ∷ y ∷ rows) h = absurd (cc)

station_held : (db : Database) → IsStation db → is_station (tables_of db.trees).stations ≡ true → HoldsStation (read_as Second db) (tables_of db.trees)
station_held db was h =
    let r = only_row (tables_of db.trees).stations h in
    (r.0, r.1, station_typed db r.0 r.1 was r.2 (is_utf8-from_IsUtf8 _ (IsUtf8-from_ascii r.0 (IsAscii-airport r.0 r.3))), r.2)

pub all_held : (db : Database) → IsStation db → ((name : TableName) → IsLawfulTable name (tables_of db.trees)) → (name : TableName) → IsHeld name (read_as Second db) (tables_of db.trees)
all_held db was lawful table.Station = station_held db was (lawful table.Station)
all_held db was lawful table.Waybill = (old_waybill_typed db was).1 (no_rows HasOldWaybillTexts _ (lawful table.Waybill))
all_held db was lawful table.Waybill2 = (waybill_typed db was).1 (each _ _ waybill_texts _ (lawful table.Waybill2).rows)
all_held db was lawful table.Stock = (stock_typed db was).1 (each _ _ stock_texts _ (lawful table.Stock).rows.rows)
all_held db was lawful table.Flight = (flight_typed db was).1 (each _ _ flight_texts _ (lawful table.Flight).rows)
all_held db was lawful table.Moves = (moves_typed db was).1 (each _ _ moves_texts _ (lawful table.Moves).rows)
all_held db was lawful table.Expected = (expected_typed db was).1 (each _ _ expected_texts _ (lawful table.Expected).rows)
all_held db was lawful table.Part = (part_typed db was).1 (each _ _ part_texts _ (lawful table.Part).rows)
all_held db was lawful table.Trail = (trail_typed db was).1 (each _ _ trail_texts _ (lawful table.Trail).rows)
all_held db was lawful table.Outbox = (outbox_typed db was).1 (each _ _ outbox_texts _ (lawful table.Outbox).rows)
all_held db was lawful table.KeptKey = (kept_key_typed db was).1 (each _ _ kept_key_texts _ (lawful table.KeptKey).rows)
all_held db was lawful table.KeptText = (kept_text_typed db was).1 (each _ _ kept_text_texts _ (lawful table.KeptText).rows)
all_held db was lawful table.Counts = (counts_typed db was).1 (no_texts HasCountsTexts (λ _. tt) _)
all_held db was lawful table.Build = (build_typed db was).1 (build_texts _ (book_in (tables_of db.trees).moves) (lawful table.Build))

pub station_held_whole : (db : Database) → IsStation db → ((name : TableName) → IsLawfulTable name (tables_of db.trees)) → IsStationOf (read_as Second db) (tables_of db.trees)
station_held_whole db was lawful =
    let good : (name : TableName) → IsGood (read_as Second db) (tables_of db.trees) name = λ name. record { held = all_held db was lawful name; lawful = lawful name } in
    (good table.Build, (good table.Counts, (good table.KeptText, (good table.KeptKey, (good table.Outbox, (good table.Trail, (good table.Part, (good table.Expected, (good table.Moves, (good table.Flight, (good table.Stock, (good table.Waybill2, (good table.Waybill, (good table.Station, tt))))))))))))))
