-- Lawfulness of each table of a station: of its own values, and with the tables before it.
use Rattle.std.specs.Prelude.{◌≡◌, ◌≤◌, ℕ, [], false, ◌↔◌, IsTrue, IsSome, IfSome, Some, length}
use Rattle.table_audits.specs.Common.{AllByRecursion, list_all, list_any, bytes_eq, entries, is_line, Used, FlightDate, Part, Place, fits, built, taken_and_found, waybills_on, Cargo, is_closed, is_outside, IsStocked, IsCovered, IsLawfulMove, IsLawfulAmount, departs_with, StaysDeparted, Tables, move_id, trail_id, message_id, AreNumbered, is_waybill_row, AreStockRows, is_flight_row, book_in, is_move_row, AreCounts, AreBuilds, is_expected_row, is_part_row, is_trail_row, is_message_row, is_kept_row, AreRequests, is_kept_text_row, is_station, meaning_of, most_waybills, TableName}
use Rattle.table_audits.specs.declared.name.TableName.TheVariants as table

abbrev pub cargo_in : Tables → Cargo
cargo_in t = (meaning_of t).cargo

-- each waybill is in range, and weighs at least a tenth a piece
pub record AreWaybills (t : Tables) : Type 0 where
  pub rows : IsTrue (list_all is_waybill_row t.waybills)
  pub amounts : (w : ℕ) → IfSome ((cargo_in t).declared w) (λ d. IsLawfulAmount d.pieces d.tenths)

-- each row is in range, no number is in two rows, and used numbers are declared
pub record AreStocks (t : Tables) : Type 0 where
  pub rows : AreStockRows t.stock
  pub used : (w : ℕ) → (cargo_in t).holders w ≡ Some Used → IsSome ((cargo_in t).declared w)

-- each flight is in range, and not unloaded here
pub record AreFlights (t : Tables) : Type 0 where
  pub rows : IsTrue (list_all is_flight_row (entries t.flights))
  pub outbound : (flight : FlightDate)
      → IfSome ((cargo_in t).flights flight) (λ o. bytes_eq o.unload (cargo_in t).here ≡ false)

-- The book: moves numbered from 1, each lawful by itself, no negative balances, no more returned
-- than received, and exactly the departed flights closed.
pub record AreMoves (t : Tables) : Type 0 where
  pub rows : IsTrue (list_all is_move_row t.moves)
  pub numbers : AreNumbered move_id t.moves
  pub moves : AllByRecursion (IsLawfulMove (cargo_in t)) (cargo_in t).book
  pub stocked : (w : ℕ) (p : Place) → is_outside p ≡ false → IsStocked (cargo_in t).book w p
  pub covered : (w : ℕ) → IsCovered (cargo_in t).book w
  pub within : (w : ℕ) → IsTrue (fits (taken_and_found (cargo_in t).book w))
  pub closed : (flight : FlightDate)
      → IsTrue (is_closed ((cargo_in t).flights flight)) ↔ IsTrue (list_any (departs_with flight) (cargo_in t).book)
  pub departed : (flight : FlightDate) → StaysDeparted flight (cargo_in t).book
  pub empty : (flight : FlightDate) (w : ℕ) → IsTrue (is_closed ((cargo_in t).flights flight))
      → (built (cargo_in t).book w flight).pieces ≡ 0
  pub room : (flight : FlightDate) → length (waybills_on (cargo_in t).book flight) ≤ most_waybills

-- each expectation is in range, weighs at least a tenth a piece, and is of a declared waybill
pub record AreExpected (t : Tables) : Type 0 where
  pub rows : IsTrue (list_all is_expected_row (entries t.expected))
  pub expectations : (flight : FlightDate) (w : ℕ)
      → IfSome ((cargo_in t).expected flight w) (λ e. IsLawfulAmount e.pieces e.tenths
      × IsSome ((cargo_in t).declared w))

-- each part is in range, and its telegram is a text
pub record AreParts (t : Tables) : Type 0 where
  pub rows : IsTrue (list_all is_part_row (entries t.parts))

-- printable lines of declared waybills, numbered from 1
pub record AreTrailLines (t : Tables) : Type 0 where
  pub rows : IsTrue (list_all is_trail_row t.trail)
  pub numbers : AreNumbered trail_id t.trail
  pub lines : AllByRecursion (λ row. IsSome ((cargo_in t).declared row.0)
      × IsTrue (is_line row.1)) (cargo_in t).trail

-- messages that are texts, numbered from 1, and a number of the last confirmed message that exists
-- or is 0
pub record AreMessages (t : Tables) : Type 0 where
  pub rows : IsTrue (list_all is_message_row t.outbox)
  pub numbers : AreNumbered message_id t.outbox
  pub mark : (cargo_in t).confirmed ≤ length (cargo_in t).outbox

pub record AreKeptKeys (t : Tables) : Type 0 where
  pub rows : IsTrue (list_all is_kept_row (entries t.kept))
  pub requests : AreRequests t.kept

-- the telegram of each part is among the accepted ones
pub record AreKeptTexts (t : Tables) : Type 0 where
  pub rows : IsTrue (list_all is_kept_text_row (entries t.kept_texts))
  pub parts : (part : Part)
      → IfSome ((cargo_in t).parts part) (λ text. IsSome ((meaning_of t).kept_texts text))

-- a table is lawful: in its own values, and with the tables before it
abbrev pub IsLawfulTable : TableName → Tables → Type 0
IsLawfulTable table.Station t = IsTrue (is_station t.stations)
IsLawfulTable table.Waybill t = t.old_waybills ≡ []
IsLawfulTable table.Waybill2 t = AreWaybills t
IsLawfulTable table.Stock t = AreStocks t
IsLawfulTable table.Flight t = AreFlights t
IsLawfulTable table.Moves t = AreMoves t
IsLawfulTable table.Expected t = AreExpected t
IsLawfulTable table.Part t = AreParts t
IsLawfulTable table.Trail t = AreTrailLines t
IsLawfulTable table.Outbox t = AreMessages t
IsLawfulTable table.KeptKey t = AreKeptKeys t
IsLawfulTable table.KeptText t = AreKeptTexts t
IsLawfulTable table.Counts t = AreCounts t.counts (book_in t.moves)
IsLawfulTable table.Build t = AreBuilds t.builds (book_in t.moves)
