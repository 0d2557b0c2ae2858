-- Each table of a database: its rows occur once, and they can be put into tables that are good before it.
use Rattle.table_audits.proofs.Common.{AllByRecursion, AreGood, Bool, Build, BuildKey, Count, CountKey, Database, Expected, ExpectedKey, FileVersion, FinMap, First, Flight, FlightKey, HasBefore, HasBuildTexts, HasCountsTexts, HasExpectedTexts, HasFlightTexts, HasKeptKeyTexts, HasKeptTextTexts, HasMovesTexts, HasOldWaybillTexts, HasOutboxTexts, HasPartTexts, HasStockTexts, HasTrailTexts, HasWaybillTexts, HoldsBuild, HoldsCounts, HoldsExpected, HoldsFlight, HoldsKeptKey, HoldsKeptText, HoldsMoves, HoldsOldWaybill, HoldsOldWaybills, HoldsOutbox, HoldsPart, HoldsStock, HoldsTrail, HoldsWaybills, IsAscending, IsFirstBad, IsGood, IsHeld, IsJudged, IsLawfulMove, IsLawfulTable, IsNoted, IsPermutation, IsTotalOrder, IsTrue, Kept, Less, List, Message, OldWaybill, Ordering, PartKey, Place, Reading, RisesByNumber, Second, Stock, StockKey, TableName, Tables, TrailLine, Waybill, [], all_weaker, ap, ascending-map, ascending_sorted, ascending_weaker, before, build_cmp, build_columns, build_name, build_read, build_total, by_key, by_number, cargo_in, count_cmp, count_read, count_total, counts_columns, counts_name, entries, entries_of, entries_rise, eq_by_cmp, expected_back, expected_cmp, expected_columns, expected_name, expected_row, expected_total, false, flight_back, flight_cmp, flight_columns, flight_name, flight_row, flight_total, from_entries, held_once, kept_cmp, kept_key_back, kept_key_columns, kept_key_name, kept_row, kept_text_back, kept_text_cmp, kept_text_columns, kept_text_name, kept_text_row, kept_text_total, kept_total, list_all, list_all-map, map, message_id, message_read, message_shown, move_id, move_read, move_shown, moves_columns, moves_name, old_waybill_back, old_waybill_columns, old_waybill_id, old_waybill_name, old_waybill_shown, on_total, outbox_columns, outbox_name, part_back, part_cmp, part_columns, part_name, part_row, part_total, refl, sorted_unique, stock_cmp, stock_columns, stock_name, stock_read, stock_row, stock_total, subst, sym, trail_columns, trail_id, trail_name, trail_read, trail_shown, true, undated, waybill_columns, waybill_id, waybill_name, waybill_read, waybill_shown, ℕ, ℤ, ◌↔◌, ◌∙◌, ◌∷◌, ◌≡◌}
use Rattle.shipment_machine.specs.declared.moves.Move as cargo
use Rattle.shipment_machine.specs.declared.moves.Place.TheVariants as place
use Rattle.station_schema.specs.Tables.{Move, count_row, build_row}
use Rattle.table_load.proofs.Orders.{old_waybill_agrees, waybill_agrees, stock_agrees, flight_agrees, moves_agrees, expected_agrees, part_agrees, trail_agrees, outbox_agrees, kept_key_agrees, kept_text_agrees, counts_agrees, build_agrees}
use Rattle.table_audits.specs.declared.name.TableName.TheVariants as table

-- ---- a good table stays so where others change

-- the tables `u` with those of `t` that the law of a table reads
abbrev with_own : TableName → Tables → Tables → Tables
with_own table.Station t u = record u { stations = t.stations }
with_own table.Waybill t u = record u { old_waybills = t.old_waybills }
with_own table.Waybill2 t u = record u { waybills = t.waybills }
with_own table.Stock t u = record u { waybills = t.waybills; stock = t.stock }
with_own table.Flight t u = record u { stations = t.stations; flights = t.flights }
with_own table.Moves t u = record u { waybills = t.waybills; flights = t.flights; moves = t.moves }
with_own table.Expected t u = record u { waybills = t.waybills; expected = t.expected }
with_own table.Part t u = record u { parts = t.parts }
with_own table.Trail t u = record u { waybills = t.waybills; trail = t.trail }
with_own table.Outbox t u = record u { stations = t.stations; outbox = t.outbox }
with_own table.KeptKey t u = record u { kept = t.kept }
with_own table.KeptText t u = record u { parts = t.parts; kept_texts = t.kept_texts }
with_own table.Counts t u = record u { moves = t.moves; counts = t.counts }
with_own table.Build t u = record u { moves = t.moves; builds = t.builds }

-- a move asks of cargo that its waybill is declared, and its flights noted
module _ (t u : Tables) where
  abbrev both : Tables
  both = with_own table.Moves t u

  noted : (p : Place) → IsNoted (cargo_in t) p → IsNoted (cargo_in both) p
  noted (place.Built f) h = h
  noted _ h = tt

  a_move : (m : cargo.Move) → IsLawfulMove (cargo_in t) m → IsLawfulMove (cargo_in both) m
  a_move m h = record {
    pair = h.pair;
    some = h.some;
    not_more = h.not_more;
    declared = h.declared;
    noted_from = noted m.from h.noted_from;
    noted_to = noted m.to h.noted_to;
    names_from = h.names_from;
    names_to = h.names_to;
  }

module _ (db : Reading) (t u : Tables) where
  again : (name : TableName) → IsGood db t name → IsGood db (with_own name t u) name
  again table.Station g = record { held = g.held; lawful = g.lawful }
  again table.Waybill g = record { held = g.held; lawful = g.lawful }
  again table.Waybill2 g = record { held = g.held; lawful = record { rows = g.lawful.rows; amounts = g.lawful.amounts } }
  again table.Stock g = record { held = g.held; lawful = record { rows = g.lawful.rows; used = g.lawful.used } }
  again table.Flight g = record { held = g.held; lawful = record { rows = g.lawful.rows; outbound = g.lawful.outbound } }
  again table.Moves g =
      let h = g.lawful in
      record {
        held = g.held;
        lawful = record {
          rows = h.rows;
          numbers = h.numbers;
          moves = all_weaker (IsLawfulMove (cargo_in t)) (IsLawfulMove (cargo_in (both t u))) (a_move t u) (cargo_in t).book h.moves;
          stocked = h.stocked;
          covered = h.covered;
          within = h.within;
          closed = h.closed;
          departed = h.departed;
          empty = h.empty;
          room = h.room;
        };
      }
  again table.Expected g = record { held = g.held; lawful = record { rows = g.lawful.rows; expectations = g.lawful.expectations } }
  again table.Part g = record { held = g.held; lawful = record { rows = g.lawful.rows } }
  again table.Trail g = record { held = g.held; lawful = record { rows = g.lawful.rows; numbers = g.lawful.numbers; lines = g.lawful.lines } }
  again table.Outbox g = record { held = g.held; lawful = record { rows = g.lawful.rows; numbers = g.lawful.numbers; mark = g.lawful.mark } }
  again table.KeptKey g = record { held = g.held; lawful = record { rows = g.lawful.rows; requests = g.lawful.requests } }
  again table.KeptText g = record { held = g.held; lawful = record { rows = g.lawful.rows; parts = g.lawful.parts } }
  again table.Counts g = record { held = g.held; lawful = g.lawful }
  again table.Build g = record { held = g.held; lawful = g.lawful }

  -- they stay so where the law of none of them reads what differs
  good_again : (names : List TableName) → AllByRecursion (λ name. with_own name t u ≡ u) names → AreGood db t names → AreGood db u names
  good_again [] same good = tt
  good_again (name ∷ names) same good = (subst (λ v. IsGood db v name) same.0 (again name good.0), good_again names same.1 good.1)

-- ---- entries in the order of their keys are those of the map that they make

apart : {K V : Type 0} (R : K → K → Ordering) (a b : K × V) → by_key R a b ≡ Less → eq_by_cmp R a.0 b.0 ≡ false
apart R a b less = rw less refl

same_entries : {K V : Type 0} (R : K → K → Ordering) → IsTotalOrder R → (es : List (K × V)) → IsAscending (λ a b. by_key R a b ≡ Less) es → entries (from_entries {R = R} es) ≡ es
same_entries {K} {V} R total es up =
    let m : FinMap R V = from_entries es in
    let by_total : IsTotalOrder (by_key {V = V} R) = on_total (λ (e : K × V). e.0) total in
    let same : IsPermutation es (entries m) = entries_of R total es (ascending_weaker _ _ (apart R) es up) in
    sorted_unique (by_key R) by_total es (entries m) up same (ascending_sorted (by_key R) by_total (entries m) (entries_rise R total m))

map_held : {K V : Type 0} (R : K → K → Ordering) → IsTotalOrder R → (Holds : List (K × V) → Type 0) (es : List (K × V)) → IsAscending (λ a b. by_key R a b ≡ Less) es → Holds es → Holds (entries (from_entries {R = R} es))
map_held R total Holds es rising held = subst Holds (sym (same_entries R total es rising)) held

-- ---- a table that was read

pub record Table {E : Type 0} (db : Reading) (name : TableName) (Holds : List E → Type 0) (of : Tables → List E) : Type 0 where
  pub is : (t : Tables) → IsHeld name db t → Holds (of t)
  pub once : (xs ys : List E) → Holds xs → Holds ys → xs ≡ ys
  pub put : (t : Tables) → AreGood db t (before name) → (es : List E) → Holds es → (u : Tables) × AreGood db u (before name) × IsHeld name db u

module _ {E : Type 0} {db : Reading} {name : TableName} {Holds : List E → Type 0} {of : Tables → List E} (table : Table db name Holds of) (so_far : HasBefore name db) where
  -- where nothing is held, the table is the first that isn't good
  pub missing : {Same : Type 0} → ((es : List E) → ¬ Holds es) × Same → IsFirstBad db name × Same
  missing read = (record { tables = so_far.0; so_far = so_far.1; no_further = λ t all. read.0 (of t) (table.is t all.0.held) }, read.1)

  module _ (es : List E) (held : Holds es) where
    -- whatever is held is what was read
    pub are : (t : Tables) → IsHeld name db t → of t ≡ es
    are t h = table.once (of t) es (table.is t h) held

    -- where an exact test of it fails, it is the first that isn't good
    pub bad : ((t : Tables) → AreGood db t (before name) → of t ≡ es → IsTrue false ↔ IsLawfulTable name t) → IsFirstBad db name
    bad exact = record {
      tables = so_far.0;
      so_far = so_far.1;
      no_further = λ t all. absurd (let no : false ≡ true = (exact t all.1 (are t all.0.held)).1 all.0.lawful in cc);
    }

    -- an exact test of it says which it is
    pub tested : {Kept : Type 0} (good : Bool) → ((t : Tables) → AreGood db t (before name) → of t ≡ es → IsTrue good ↔ IsLawfulTable name t) → Kept → IsJudged name db Kept good
    tested true exact kept =
        let put = table.put so_far.0 so_far.1 es held in
        ((put.0, (record { held = put.2; lawful = (exact put.0 put.1 (are put.0 put.2)).0 refl }, put.1)), kept)
    tested false exact kept = bad exact

-- a test of each row that was read is exact if it is so for those of the tables
pub as_law : {X E Law : Type 0} (b : Bool) (test : E → Bool) (meant : X → E) (own : List E) (rows : List X) → b ≡ list_all (λ row. test (meant row)) rows → own ≡ map meant rows → (list_all test own ≡ true → Law) → (Law → list_all test own ≡ true) → IsTrue b ↔ Law
as_law b test meant own rows says is there back =
    let same : list_all test own ≡ b = ap (list_all test) is ∙ list_all-map test meant rows ∙ sym says in
    (λ h. there (same ∙ h), λ law. sym same ∙ back law)

-- ---- each table

old_waybill_once : (db : Database) (xs ys : List OldWaybill) → HoldsOldWaybill db xs → HoldsOldWaybill db ys → xs ≡ ys
old_waybill_once db = held_once {E = OldWaybill} 1 old_waybill_shown (by_number old_waybill_id) old_waybill_agrees HasOldWaybillTexts old_waybill_back (λ _. refl) db old_waybill_name old_waybill_columns

old_waybills_once : (v : FileVersion) (db : Database) (xs ys : List OldWaybill) → HoldsOldWaybills v db xs → HoldsOldWaybills v db ys → xs ≡ ys
old_waybills_once First db xs ys x y = x ∙ sym y
old_waybills_once Second db xs ys x y = old_waybill_once db xs ys x y

waybills_once : (v : FileVersion) (db : Database) (xs ys : List Waybill) → HoldsWaybills v db xs → HoldsWaybills v db ys → xs ≡ ys
waybills_once First db xs ys x y = x.2 ∙ ap (map undated) (old_waybill_once db x.0 y.0 x.1 y.1) ∙ sym y.2
waybills_once Second db xs ys x y = held_once {E = Waybill} 1 waybill_shown (by_number waybill_id) waybill_agrees HasWaybillTexts waybill_read (λ _. refl) db waybill_name waybill_columns xs ys x y

-- the waybills are in the order of their numbers
pub waybills_rise : (v : FileVersion) (db : Database) (waybills : List Waybill) → HoldsWaybills v db waybills → RisesByNumber waybills
waybills_rise First db waybills h = subst RisesByNumber (sym h.2) (ascending-map (λ a b. by_number waybill_id a b ≡ Less) undated h.0 h.1.are.rising)
waybills_rise Second db waybills h = h.are.rising

module _ (db : Reading) where
  -- a table whose rows are put in place of those that some tables have
  module _ {E : Type 0} (name : TableName) (Holds : List E → Type 0) (of : Tables → List E) (with : List E → Tables → Tables) where
    table_of : ((t : Tables) → IsHeld name db t → Holds (of t)) → ((xs ys : List E) → Holds xs → Holds ys → xs ≡ ys)
        → ((t : Tables) (es : List E) → AllByRecursion (λ n. with_own n t (with es t) ≡ with es t) (before name))
        → ((t : Tables) (es : List E) → Holds es → IsHeld name db (with es t)) → Table db name Holds of
    table_of is once same held = record { is = is; once = once; put = λ t good es h. (with es t, good_again db t (with es t) (before name) (same t es) good, held t es h) }

  pub old_waybill_table : Table db table.Waybill (HoldsOldWaybills db.version db.database) (λ t. t.old_waybills)
  old_waybill_table = table_of table.Waybill (HoldsOldWaybills db.version db.database) (λ t. t.old_waybills) (λ es t. record t { old_waybills = es }) (λ t h. h)
      (old_waybills_once db.version db.database)
      (λ t es. (refl, tt)) (λ t es h. h)

  pub waybill_table : Table db table.Waybill2 (HoldsWaybills db.version db.database) (λ t. t.waybills)
  waybill_table = table_of table.Waybill2 (HoldsWaybills db.version db.database) (λ t. t.waybills) (λ es t. record t { waybills = es }) (λ t h. h)
      (waybills_once db.version db.database)
      (λ t es. (refl, (refl, tt))) (λ t es h. h)

  pub stock_table : Table db table.Stock (HoldsStock db.database) (λ t. entries t.stock)
  stock_table = table_of table.Stock (HoldsStock db.database) (λ t. entries t.stock) (λ es t. record t { stock = from_entries {R = stock_cmp} es }) (λ t h. h)
      (held_once {E = StockKey × Stock} 2 stock_row (by_key stock_cmp) stock_agrees HasStockTexts stock_read (λ _. refl) db.database stock_name stock_columns)
      (λ t es. (refl, (refl, (refl, tt))))
      (λ t es h. map_held stock_cmp stock_total (HoldsStock db.database) es h.are.rising h)

  pub flight_table : Table db table.Flight (HoldsFlight db.database) (λ t. entries t.flights)
  flight_table = table_of table.Flight (HoldsFlight db.database) (λ t. entries t.flights) (λ es t. record t { flights = from_entries {R = flight_cmp} es }) (λ t h. h)
      (held_once {E = FlightKey × Flight} 2 flight_row (by_key flight_cmp) flight_agrees HasFlightTexts flight_back (λ _. refl) db.database flight_name flight_columns)
      (λ t es. (refl, (refl, (refl, (refl, tt)))))
      (λ t es h. map_held flight_cmp flight_total (HoldsFlight db.database) es h.are.rising h)

  pub moves_table : Table db table.Moves (HoldsMoves db.database) (λ t. t.moves)
  moves_table = table_of table.Moves (HoldsMoves db.database) (λ t. t.moves) (λ es t. record t { moves = es }) (λ t h. h)
      (held_once {E = Move} 1 move_shown (by_number move_id) moves_agrees HasMovesTexts move_read (λ _. refl) db.database moves_name moves_columns)
      (λ t es. (refl, (refl, (refl, (refl, (refl, tt)))))) (λ t es h. h)

  pub expected_table : Table db table.Expected (HoldsExpected db.database) (λ t. entries t.expected)
  expected_table = table_of table.Expected (HoldsExpected db.database) (λ t. entries t.expected) (λ es t. record t { expected = from_entries {R = expected_cmp} es }) (λ t h. h)
      (held_once {E = ExpectedKey × Expected} 3 expected_row (by_key expected_cmp) expected_agrees HasExpectedTexts expected_back (λ _. refl) db.database expected_name expected_columns)
      (λ t es. (refl, (refl, (refl, (refl, (refl, (refl, tt)))))))
      (λ t es h. map_held expected_cmp expected_total (HoldsExpected db.database) es h.are.rising h)

  pub part_table : Table db table.Part (HoldsPart db.database) (λ t. entries t.parts)
  part_table = table_of table.Part (HoldsPart db.database) (λ t. entries t.parts) (λ es t. record t { parts = from_entries {R = part_cmp} es }) (λ t h. h)
      (held_once {E = PartKey × List ℕ} 4 part_row (by_key part_cmp) part_agrees HasPartTexts part_back (λ _. refl) db.database part_name part_columns)
      (λ t es. (refl, (refl, (refl, (refl, (refl, (refl, (refl, tt))))))))
      (λ t es h. map_held part_cmp part_total (HoldsPart db.database) es h.are.rising h)

  pub trail_table : Table db table.Trail (HoldsTrail db.database) (λ t. t.trail)
  trail_table = table_of table.Trail (HoldsTrail db.database) (λ t. t.trail) (λ es t. record t { trail = es }) (λ t h. h)
      (held_once {E = TrailLine} 1 trail_shown (by_number trail_id) trail_agrees HasTrailTexts trail_read (λ _. refl) db.database trail_name trail_columns)
      (λ t es. (refl, (refl, (refl, (refl, (refl, (refl, (refl, (refl, tt))))))))) (λ t es h. h)

  pub outbox_table : Table db table.Outbox (HoldsOutbox db.database) (λ t. t.outbox)
  outbox_table = table_of table.Outbox (HoldsOutbox db.database) (λ t. t.outbox) (λ es t. record t { outbox = es }) (λ t h. h)
      (held_once {E = Message} 1 message_shown (by_number message_id) outbox_agrees HasOutboxTexts message_read (λ _. refl) db.database outbox_name outbox_columns)
      (λ t es. (refl, (refl, (refl, (refl, (refl, (refl, (refl, (refl, (refl, tt)))))))))) (λ t es h. h)

  pub kept_key_table : Table db table.KeptKey (HoldsKeptKey db.database) (λ t. entries t.kept)
  kept_key_table = table_of table.KeptKey (HoldsKeptKey db.database) (λ t. entries t.kept) (λ es t. record t { kept = from_entries {R = kept_cmp} es }) (λ t h. h)
      (held_once {E = List ℕ × Kept} 1 kept_row (by_key kept_cmp) kept_key_agrees HasKeptKeyTexts kept_key_back (λ _. refl) db.database kept_key_name kept_key_columns)
      (λ t es. (refl, (refl, (refl, (refl, (refl, (refl, (refl, (refl, (refl, (refl, tt)))))))))))
      (λ t es h. map_held kept_cmp kept_total (HoldsKeptKey db.database) es h.are.rising h)

  pub kept_text_table : Table db table.KeptText (HoldsKeptText db.database) (λ t. entries t.kept_texts)
  kept_text_table = table_of table.KeptText (HoldsKeptText db.database) (λ t. entries t.kept_texts) (λ es t. record t { kept_texts = from_entries {R = kept_text_cmp} es }) (λ t h. h)
      (held_once {E = List ℕ × ℤ} 1 kept_text_row (by_key kept_text_cmp) kept_text_agrees HasKeptTextTexts kept_text_back (λ _. refl) db.database kept_text_name kept_text_columns)
      (λ t es. (refl, (refl, (refl, (refl, (refl, (refl, (refl, (refl, (refl, (refl, (refl, tt))))))))))))
      (λ t es h. map_held kept_text_cmp kept_text_total (HoldsKeptText db.database) es h.are.rising h)

  pub counts_table : Table db table.Counts (HoldsCounts db.database) (λ t. entries t.counts)
  counts_table = table_of table.Counts (HoldsCounts db.database) (λ t. entries t.counts) (λ es t. record t { counts = from_entries {R = count_cmp} es }) (λ t h. h)
      (held_once {E = CountKey × Count} 2 count_row (by_key count_cmp) counts_agrees HasCountsTexts count_read (λ _. refl) db.database counts_name counts_columns)
      (λ t es. (refl, (refl, (refl, (refl, (refl, (refl, (refl, (refl, (refl, (refl, (refl, (refl, tt)))))))))))))
      (λ t es h. map_held count_cmp count_total (HoldsCounts db.database) es h.are.rising h)

  pub build_table : Table db table.Build (HoldsBuild db.database) (λ t. entries t.builds)
  build_table = table_of table.Build (HoldsBuild db.database) (λ t. entries t.builds) (λ es t. record t { builds = from_entries {R = build_cmp} es }) (λ t h. h)
      (held_once {E = BuildKey × Build} 3 build_row (by_key build_cmp) build_agrees HasBuildTexts build_read (λ _. refl) db.database build_name build_columns)
      (λ t es. (refl, (refl, (refl, (refl, (refl, (refl, (refl, (refl, (refl, (refl, (refl, (refl, (refl, tt))))))))))))))
      (λ t es h. map_held build_cmp build_total (HoldsBuild db.database) es h.are.rising h)
