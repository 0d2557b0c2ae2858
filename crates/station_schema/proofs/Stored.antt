-- From the rows of a tree to a table, and back.
use Rattle.station_schema.proofs.Common.{IsTotalOrder, numbered, from_entries, AllByRecursion, AreEntries, AreListed, Bool, Database, Edits, FinMap, IsInside, IsKeyedBy, IsStation, IsTyped, List, Row, Shows, State, Table, Tables, Trees, [], ap, arith, cond, false, if◌then◌else◌, map, map_back, refl, station_schema, subst, sym, tables_of, true, ℕ, ℤ, ◌==◌, ◌∙◌, ◌∷◌, ◌≡◌, ◌≢◌}
use Rattle.station_schema.proofs.TableRows.{rows_in, tables_in}
use Rattle.std.specs.declared.cmp.Ordering.{Ordering}
use Rattle.station_schema.specs.Tables as table
use Rattle.station_schema.proofs.ColumnKeys.{IsMap, reads_back, entries_by}
use Rattle.station_schema.proofs.Keys.{stock_total, flight_total, expected_total, part_total, kept_total, kept_text_total, count_total, build_total}
use Rattle.station_schema.proofs.Inside.{transaction_stays}

-- ---- a table whose key is the rowid

module _ {X : Type 0} (key : X → ℤ) (to_row : X → Row) (from_row : Row → X) (back : (x : X) → from_row (to_row x) ≡ x) (rows : List Row) (xs : List X) (is : rows ≡ map to_row xs) where
  pub list_back : map from_row rows ≡ xs
  list_back = ap (map from_row) is ∙ map_back to_row from_row back xs

  pub listed : IsKeyedBy key xs → AreListed key to_row from_row rows
  listed up = record { rows = is ∙ ap (map to_row) (sym list_back); keyed = subst (IsKeyedBy key) (sym list_back) up }

-- ---- one tree was written, and no other

same_nat : (n t : ℕ) → (n == t) ≡ true → n ≡ t
same_nat n t e = grind arith

nat_same : (n t : ℕ) → n ≡ t → (n == t) ≡ true
nat_same n t e = grind arith

abbrev pub put_tree : Trees → ℕ → List Row → Trees
put_tree db t rows n = if n == t then rows else db n

-- this one or another
module _ (old new : Trees) (t : ℕ) where
  is_put : (n : ℕ) → (n ≢ t → new n ≡ old n) → new n ≡ put_tree old t (new t) n
  is_put n other = go (n == t) refl
    where
      go : (b : Bool) → (n == t) ≡ b → new n ≡ (if b then new t else old n)
      go true e = ap new (same_nat n t e)
      go false e = other (λ same. absurd (let k : true ≡ false = sym (nat_same n t same) ∙ e in cc))

  typed_after : (tables : List Table) → AllByRecursion (λ (table : Table). table.tree ≢ t → new table.tree ≡ old table.tree) tables → IsTyped t (new t) → AllByRecursion (λ (table : Table). IsTyped table.tree (old table.tree)) tables
      → AllByRecursion (λ (table : Table). IsTyped table.tree (new table.tree)) tables
  typed_after [] others this was = tt
  typed_after (x ∷ xs) others this was = (go (x.tree == t) refl, typed_after xs others.1 this was.1)
    where
      go : (b : Bool) → (x.tree == t) ≡ b → IsTyped x.tree (new x.tree)
      go true e = subst (λ n. IsTyped n (new n)) (sym (same_nat x.tree t e)) this
      go false e = subst (IsTyped x.tree) (sym (others.0 (λ same. absurd (let k : true ≡ false = sym (nat_same x.tree t same) ∙ e in cc)))) was.0

-- all tables: each line is one
pub rows_after : (old new : Trees) (t : ℕ) → AllByRecursion (λ (table : Table). table.tree ≢ t → new table.tree ≡ old table.tree) station_schema.tables → rows_in new ≡ rows_in (put_tree old t (new t))
rows_after old new t others = λ i. record {
  stations = is_put old new t 0 others.0 i;
  old_waybills = is_put old new t 1 others.1.0 i;
  waybills = is_put old new t 22 others.1.1.1.1.1.1.1.1.1.1.1.1.1.0 i;
  stock = is_put old new t 2 others.1.1.0 i;
  flights = is_put old new t 4 others.1.1.1.0 i;
  moves = is_put old new t 6 others.1.1.1.1.0 i;
  expected = is_put old new t 8 others.1.1.1.1.1.0 i;
  parts = is_put old new t 10 others.1.1.1.1.1.1.0 i;
  trail = is_put old new t 12 others.1.1.1.1.1.1.1.0 i;
  outbox = is_put old new t 13 others.1.1.1.1.1.1.1.1.0 i;
  kept = is_put old new t 14 others.1.1.1.1.1.1.1.1.1.0 i;
  kept_texts = is_put old new t 16 others.1.1.1.1.1.1.1.1.1.1.0 i;
  counts = is_put old new t 18 others.1.1.1.1.1.1.1.1.1.1.1.0 i;
  builds = is_put old new t 20 others.1.1.1.1.1.1.1.1.1.1.1.1.0 i;
}

module _ (old new : State) (t : ℕ) (inside : IsInside old) (schema : new.now.schema ≡ station_schema)
    (others : AllByRecursion (λ (table : Table). table.tree ≢ t → new.now.trees table.tree ≡ old.now.trees table.tree) station_schema.tables)
    (shown : Shows old new new.now (cond old.in_transaction old.committed new.now) old.in_transaction) where
  pub edits_by : (change : Tables → Tables) → IsTyped t (new.now.trees t) → tables_in (rows_in (put_tree old.now.trees t (new.now.trees t))) ≡ change (tables_of old.now.trees) → Edits old new change
  edits_by change typed is = record {
    station = record { schema = schema; typed = typed_after old.now.trees new.now.trees t station_schema.tables others typed inside.station.typed };
    tables = ap tables_in (rows_after old.now.trees new.now.trees t others) ∙ is;
    shown = transaction_stays old new inside.begun shown;
  }

module _ (old new : State) (inside : IsInside old) (schema : new.now.schema ≡ station_schema) where
  abbrev Others : ℕ → Type 0
  Others t = AllByRecursion (λ (table : Table). table.tree ≢ t → new.now.trees table.tree ≡ old.now.trees table.tree) station_schema.tables

  abbrev Shown : Type 0
  Shown = Shows old new new.now (cond old.in_transaction old.committed new.now) old.in_transaction

  abbrev before : Tables
  before = tables_of old.now.trees

  -- ---- only one table was written

  module _ {X : Type 0} (t : ℕ) (key : X → ℤ) (to_row : X → Row) (rows_in_tables : Tables → List X) (with_rows : Tables → List X → Tables) where
    abbrev EditsList : Type 0
    EditsList = Others t → Shown → (change : List X → List X) → new.now.trees t ≡ map to_row (change (rows_in_tables before)) → IsKeyedBy key (change (rows_in_tables before)) → Edits old new (λ tables. with_rows tables (change (rows_in_tables tables)))

    by_list : (from_row : Row → X) → ((x : X) → from_row (to_row x) ≡ x) → (AreListed key to_row from_row (new.now.trees t) → IsTyped t (new.now.trees t))
        → tables_in (rows_in (put_tree old.now.trees t (new.now.trees t))) ≡ with_rows before (map from_row (new.now.trees t)) → EditsList
    by_list from_row back typed put others shown change rows up = edits_by old new t inside schema others shown (λ tables. with_rows tables (change (rows_in_tables tables)))
        (typed (listed key to_row from_row back _ _ rows up)) (put ∙ ap (with_rows before) (list_back key to_row from_row back _ _ rows))

  module _ {K V : Type 0} (t : ℕ) (R : K → K → Ordering) (to_row : K × V → Row) (map_in : Tables → FinMap R V) (with_map : Tables → FinMap R V → Tables) where
    abbrev EditsMap : Type 0
    EditsMap = Others t → Shown → (change : FinMap R V → FinMap R V) → IsMap R to_row (new.now.trees t) (change (map_in before)) → Edits old new (λ tables. with_map tables (change (map_in tables)))

    by_map : IsTotalOrder R → (from_row : Row → K × V) → ((n : ℤ × (K × V)) → from_row (numbered to_row n) ≡ n.1) → (AreEntries R to_row from_row (new.now.trees t) → IsTyped t (new.now.trees t))
        → tables_in (rows_in (put_tree old.now.trees t (new.now.trees t))) ≡ with_map before (from_entries (map from_row (new.now.trees t))) → EditsMap
    by_map total from_row back typed put others shown change now = edits_by old new t inside schema others shown (λ tables. with_map tables (change (map_in tables)))
        (typed (entries_by R total to_row from_row back _ _ now)) (put ∙ ap (with_map before) (reads_back R total to_row from_row back _ _ now))

  pub edits_stations : EditsList 0 table.station_id table.station_row (λ tables. tables.stations) (λ tables xs. record tables { stations = xs })
  edits_stations = by_list _ _ _ (λ tables. tables.stations) (λ tables xs. record tables { stations = xs }) table.station_in (λ _. refl) (λ h. h) refl

  pub edits_old_waybills : EditsList 1 table.old_waybill_id table.old_waybill_row (λ tables. tables.old_waybills) (λ tables xs. record tables { old_waybills = xs })
  edits_old_waybills = by_list _ _ _ (λ tables. tables.old_waybills) (λ tables xs. record tables { old_waybills = xs }) table.old_waybill_in (λ _. refl) (λ h. h) refl

  pub edits_stock : EditsMap 2 table.stock_cmp table.stock_row (λ tables. tables.stock) (λ tables m. record tables { stock = m })
  edits_stock = by_map _ _ _ (λ tables. tables.stock) (λ tables m. record tables { stock = m }) stock_total table.stock_in (λ _. refl) (λ h. h) refl

  pub edits_flights : EditsMap 4 table.flight_cmp table.flight_row (λ tables. tables.flights) (λ tables m. record tables { flights = m })
  edits_flights = by_map _ _ _ (λ tables. tables.flights) (λ tables m. record tables { flights = m }) flight_total table.flight_in (λ _. refl) (λ h. h) refl

  pub edits_moves : EditsList 6 table.move_id table.move_row (λ tables. tables.moves) (λ tables xs. record tables { moves = xs })
  edits_moves = by_list _ _ _ (λ tables. tables.moves) (λ tables xs. record tables { moves = xs }) table.move_in (λ _. refl) (λ h. h) refl

  pub edits_expected : EditsMap 8 table.expected_cmp table.expected_row (λ tables. tables.expected) (λ tables m. record tables { expected = m })
  edits_expected = by_map _ _ _ (λ tables. tables.expected) (λ tables m. record tables { expected = m }) expected_total table.expected_in (λ _. refl) (λ h. h) refl

  pub edits_parts : EditsMap 10 table.part_cmp table.part_row (λ tables. tables.parts) (λ tables m. record tables { parts = m })
  edits_parts = by_map _ _ _ (λ tables. tables.parts) (λ tables m. record tables { parts = m }) part_total table.part_in (λ _. refl) (λ h. h) refl

  pub edits_trail : EditsList 12 table.trail_id table.trail_row (λ tables. tables.trail) (λ tables xs. record tables { trail = xs })
  edits_trail = by_list _ _ _ (λ tables. tables.trail) (λ tables xs. record tables { trail = xs }) table.trail_in (λ _. refl) (λ h. h) refl

  pub edits_outbox : EditsList 13 table.message_id table.message_row (λ tables. tables.outbox) (λ tables xs. record tables { outbox = xs })
  edits_outbox = by_list _ _ _ (λ tables. tables.outbox) (λ tables xs. record tables { outbox = xs }) table.message_in (λ _. refl) (λ h. h) refl

  pub edits_kept : EditsMap 14 table.kept_cmp table.kept_row (λ tables. tables.kept) (λ tables m. record tables { kept = m })
  edits_kept = by_map _ _ _ (λ tables. tables.kept) (λ tables m. record tables { kept = m }) kept_total table.kept_in (λ _. refl) (λ h. h) refl

  pub edits_kept_texts : EditsMap 16 table.kept_text_cmp table.kept_text_row (λ tables. tables.kept_texts) (λ tables m. record tables { kept_texts = m })
  edits_kept_texts = by_map _ _ _ (λ tables. tables.kept_texts) (λ tables m. record tables { kept_texts = m }) kept_text_total table.kept_text_in (λ _. refl) (λ h. h) refl

  pub edits_counts : EditsMap 18 table.count_cmp table.count_row (λ tables. tables.counts) (λ tables m. record tables { counts = m })
  edits_counts = by_map _ _ _ (λ tables. tables.counts) (λ tables m. record tables { counts = m }) count_total table.count_in (λ _. refl) (λ h. h) refl

  pub edits_builds : EditsMap 20 table.build_cmp table.build_row (λ tables. tables.builds) (λ tables m. record tables { builds = m })
  edits_builds = by_map _ _ _ (λ tables. tables.builds) (λ tables m. record tables { builds = m }) build_total table.build_in (λ _. refl) (λ h. h) refl

  pub edits_waybills : EditsList 22 table.waybill_id table.waybill_row (λ tables. tables.waybills) (λ tables xs. record tables { waybills = xs })
  edits_waybills = by_list _ _ _ (λ tables. tables.waybills) (λ tables xs. record tables { waybills = xs }) table.waybill_in (λ _. refl) (λ h. h) refl

-- ---- tables that were just made

no_entries : {K V : Type 0} (R : K → K → Ordering) (to_row : K × V → Row) (from_row : Row → K × V) (stored : List Row) → stored ≡ [] → AreEntries R to_row from_row stored
no_entries R to_row from_row stored none = subst (AreEntries R to_row from_row) (sym none) (record { rows = refl; keyed = tt; apart = tt })

no_list : {X : Type 0} (key : X → ℤ) (to_row : X → Row) (from_row : Row → X) (stored : List Row) → stored ≡ [] → AreListed key to_row from_row stored
no_list key to_row from_row stored none = subst (AreListed key to_row from_row) (sym none) (record { rows = refl; keyed = tt })

pub made_station : (db : Database) → db.schema ≡ station_schema → AllByRecursion (λ (t : Table). db.trees t.tree ≡ []) station_schema.tables → IsStation db
made_station db schema empty = record {
  schema = schema;
  typed = (no_list _ _ _ _ empty.0, (no_list _ _ _ _ empty.1.0, (no_entries _ _ _ _ empty.1.1.0, (no_entries _ _ _ _ empty.1.1.1.0, (no_list _ _ _ _ empty.1.1.1.1.0, (no_entries _ _ _ _ empty.1.1.1.1.1.0, (no_entries _ _ _ _ empty.1.1.1.1.1.1.0, (no_list _ _ _ _ empty.1.1.1.1.1.1.1.0, (no_list _ _ _ _ empty.1.1.1.1.1.1.1.1.0, (no_entries _ _ _ _ empty.1.1.1.1.1.1.1.1.1.0, (no_entries _ _ _ _ empty.1.1.1.1.1.1.1.1.1.1.0, (no_entries _ _ _ _ empty.1.1.1.1.1.1.1.1.1.1.1.0, (no_entries _ _ _ _ empty.1.1.1.1.1.1.1.1.1.1.1.1.0, (no_list _ _ _ _ empty.1.1.1.1.1.1.1.1.1.1.1.1.1.0, tt))))))))))))));
}
