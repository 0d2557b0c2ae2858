-- What was read of a row is what the state has that is shown.
use Rattle.std.proofs.Common.{◌≡◌, ℕ, ℤ, pos, Bool, true, List, length, Option, Some, option_map, is_some, map, filter, not, sym, ap, ap₂, subst, ◌∙◌}
use Rattle.table_state.proofs.Common.{AnnouncedRow, AreAnnounced, AreBuilds, AreCounts, AreExpectations, AreNoted, BTreeSet, ExpectedRow, FlightDate, FlightRow, HaveCome, Holders, IsKeyedBy, KeptRow, ListedWaybillRow, Means, Move, NotedFlightRow, Part, State, Stocked, Tables, WaybillRow, announced_by, book_in, book_told, contains, declared_by, entries, expectation_by, expectations_on_told, expectations_told, expected_by, expected_for, expected_meant, flight_meant, flight_text, get, get_by, has_moves, holders_in, holders_told, is_designator, is_listed_on, is_of, kept_by, kept_meant, length-map, listed_waybill_meant, move_meant, nat_cmp, nat_lt, natural, noted_by, noted_flight_meant, noted_told, outbound_by, waybill_id, waybill_meant}
use Rattle.sqlite_trees.proofs.ListLemmas.{map-map}
use Rattle.station_core.specs.declared.rows.Expectation.{Expectation}
use Rattle.station_core.specs.declared.rows.ExpectedQuery.TheVariants.{On}
use Rattle.station_core.specs.declared.rows.NotedFlight.{NotedFlight}
use Rattle.station_rows.specs.declared.moves.MoveRow.{MoveRow}
use Rattle.row_codec.proofs.Reading.{declared_read, outbound_read, expected_read, part_read, kept_key_read, kept_text_read}
use Rattle.table_state.proofs.Announced.{announced_told}
use Rattle.table_state.proofs.HasMoves.{any_move}

module _ (t : Tables) (s : State) (means : Means t (Some s)) where
  pub declared_is : (w : ℕ) (awb : ℤ) (found : Option WaybillRow) → awb ≡ pos w → option_map waybill_meant found ≡ get_by waybill_id t.waybills awb
      → option_map (λ (r : WaybillRow). declared_by (waybill_meant r)) found ≡ s.cargo.declared w
  declared_is w awb found is tells = declared_read t s means w found (tells ∙ ap (get_by waybill_id t.waybills) is)

  pub outbound_is : (f : FlightDate) (name : List ℕ) (day : ℤ) (found : Option FlightRow) → name ≡ flight_text f.flight → day ≡ pos f.day → is_designator f.flight ≡ true
      → option_map flight_meant found ≡ get t.flights (name, day) → option_map (λ (r : FlightRow). outbound_by (flight_meant r)) found ≡ s.cargo.flights f
  outbound_is f name day found is_name is_day may tells = outbound_read t s means f found may (tells ∙ (λ i. get t.flights (is_name i, is_day i)))

  pub expected_is : (f : FlightDate) (w : ℕ) (name : List ℕ) (day awb : ℤ) (found : Option ExpectedRow) → name ≡ flight_text f.flight → day ≡ pos f.day → awb ≡ pos w → is_designator f.flight ≡ true
      → option_map expected_meant found ≡ get t.expected (name, (day, awb)) → option_map (λ (r : ExpectedRow). expected_by (expected_meant r)) found ≡ s.cargo.expected f w
  expected_is f w name day awb found is_name is_day is_awb may tells = expected_read t s means f w found may (tells ∙ (λ i. get t.expected (is_name i, (is_day i, is_awb i))))

  pub kept_key_is : (key name : List ℕ) (found : Option KeptRow) → name ≡ key → option_map kept_meant found ≡ get t.kept name
      → option_map (λ (row : KeptRow). kept_by (kept_meant row)) found ≡ s.kept_keys key
  kept_key_is key name found is tells = kept_key_read t s means key found (tells ∙ ap (get t.kept) is)

  pub kept_text_is : (text name : List ℕ) (found : Option ℤ) → name ≡ text → found ≡ get t.kept_texts name → option_map natural found ≡ s.kept_texts text
  kept_text_is text name found is tells = kept_text_read t s means text found (tells ∙ ap (get t.kept_texts) is)

  pub part_is : {X : Type 0} (bytes : X → List ℕ) (p : Part) (name airport : List ℕ) (day number : ℤ) (found : Option X) (there : Bool) → name ≡ flight_text p.flight.flight → day ≡ pos p.flight.day → airport ≡ p.airport → number ≡ pos p.number → is_designator p.flight.flight ≡ true → there ≡ is_some found
      → option_map bytes found ≡ get t.parts (name, (day, (airport, number))) → there ≡ is_some (s.cargo.parts p)
  part_is bytes p name airport day number found there is_name is_day is_airport is_number may by tells =
      by ∙ part_read t s means bytes p found may (tells ∙ (λ i. get t.parts (is_name i, (is_day i, (is_airport i, is_number i)))))

  pub by_stock : (P : Holders → Type 0) → (Stocked t → P (holders_in t.stock)) → P s.cargo.holders
  by_stock P tells = subst P (holders_told t s means) (tells means.0.stock)

  pub moves_are : (rows : List MoveRow) (moved : Bool) (w : ℕ) (awb : ℤ) → awb ≡ pos w → moved ≡ nat_lt 0 (length rows)
      → map move_meant rows ≡ filter (is_of awb) t.moves → moved ≡ has_moves s.cargo.book w
  moves_are rows moved w awb is by tells =
      by ∙ ap (nat_lt 0) (sym (length-map rows move_meant)) ∙ ap (λ ms. nat_lt 0 (length ms)) (tells ∙ ap (λ a. filter (is_of a) t.moves) is)
      ∙ sym (any_move t.moves w means.0.moves) ∙ ap (λ book. has_moves book w) (book_told t s means)

  pub noted_are : (rows : List NotedFlightRow) (all : List NotedFlight) → map Some all ≡ map (λ (row : NotedFlightRow). noted_by (noted_flight_meant row)) rows
      → map noted_flight_meant rows ≡ entries t.flights → AreNoted s.cargo.flights all
  noted_are rows all by tells = noted_told t s means all (by ∙ sym (map-map noted_by noted_flight_meant rows) ∙ ap (map noted_by) tells)

  pub expectations_are : (rows : List ListedWaybillRow) (all : List Expectation) → map Some all ≡ map (λ (row : ListedWaybillRow). expectation_by (listed_waybill_meant row)) rows
      → map listed_waybill_meant rows ≡ entries t.expected → AreExpectations s.cargo.expected all
  expectations_are rows all by tells = expectations_told t s means all (by ∙ sym (map-map expectation_by listed_waybill_meant rows) ∙ ap (map expectation_by) tells)

  pub expectations_on_are : (f : FlightDate) (name : List ℕ) (day : ℤ) → name ≡ flight_text f.flight → day ≡ pos f.day → is_designator f.flight ≡ true
      → (rows : List ListedWaybillRow) (all : List Expectation) → map Some all ≡ map (λ (row : ListedWaybillRow). expectation_by (listed_waybill_meant row)) rows
      → map listed_waybill_meant rows ≡ filter (is_listed_on name day) (entries t.expected) → AreExpectations (expected_for (On f) s.cargo.expected) all
  expectations_on_are f name day is_name is_day may rows all by tells =
      expectations_on_told t s means f may all
      (by ∙ sym (map-map expectation_by listed_waybill_meant rows)
      ∙ ap (map expectation_by) (tells ∙ ap₂ (λ (text : List ℕ) (on : ℤ). filter (is_listed_on text on) (entries t.expected)) is_name is_day))

  pub announced_are : (come : BTreeSet ℕ) (rows : List WaybillRow) (all : List AnnouncedRow) → all ≡ filter (λ (one : AnnouncedRow). not (contains nat_cmp come one.awb)) (map (λ (row : WaybillRow). announced_by (waybill_meant row)) rows)
      → (map waybill_meant rows ≡ t.waybills) × IsKeyedBy waybill_id t.waybills → HaveCome come s.cargo.book → AreAnnounced s.cargo all
  announced_are come rows all by tells have =
      announced_told t s means come all have tells.1
      (by ∙ ap (filter (λ (one : AnnouncedRow). not (contains nat_cmp come one.awb))) (sym (map-map announced_by waybill_meant rows) ∙ ap (map announced_by) tells.0))

  -- what the running counts say of each book whose sums they are

  pub by_counts : (P : List Move → Type 0) → ((book : List Move) → AreCounts t.counts book → P book) → P s.cargo.book
  by_counts P tells = subst P (book_told t s means) (tells (book_in t.moves) means.0.counts)

  pub by_builds : (P : List Move → Type 0) → ((book : List Move) → AreBuilds t.builds book → P book) → P s.cargo.book
  by_builds P tells = subst P (book_told t s means) (tells (book_in t.moves) means.0.builds)
