-- The words of other crates that this crate's definitions and contracts cite, passed on from one
-- place. Declares nothing.
pub use Rattle.std.specs.BTreeMap.{BTreeMap, get}
pub use Rattle.std.specs.BTreeSet.{BTreeSet, contains, insert_key}
pub use Rattle.std.specs.List.{filter}
pub use Rattle.std.specs.Ordering.{nat_cmp}
pub use Rattle.awb_number.specs.Number.{IsNumber}
pub use Rattle.row_codec.specs.Stored.{AreBuilds, AreCounts, running, trail_row_by, Means, book_row_by, is_move_row, move_by, move_row, Posted, WereThere}
pub use Rattle.row_codec.specs.Flights.{noted_by, expectation_by, natural, declared_by}
pub use Rattle.row_codec.specs.Known.{AreKnown}
pub use Rattle.shipment_machine.specs.Book.{balances_of, in_store, same_place, waybills_on}
pub use Rattle.shipment_machine.specs.Cargo.{Cargo, written, is_in}
pub use Rattle.shipment_machine.specs.declared.flight.FlightDate.{FlightDate}
pub use Rattle.shipment_machine.specs.declared.moves.Balances.{Balances}
pub use Rattle.shipment_machine.specs.declared.moves.Declared.{Declared}
pub use Rattle.shipment_machine.specs.declared.moves.Move.{Move}
pub use Rattle.shipment_machine.specs.declared.moves.Place.TheVariants.{Built, Hand, Missing, Surplus}
pub use Rattle.shipment_machine.specs.declared.plans.Change.TheVariants.{Confirm, Declare, Expect, NoteFlight, NotePart, Trail, UseUp}
pub use Rattle.sqlite.specs.Held.{state}
pub use Rattle.sqlite.specs.State.{HasCleanDisk}
pub use Rattle.sqlite.specs.Tree.{Trees}
pub use Rattle.sqlite_keyed.specs.Keyed.{get_by}
pub use Rattle.state_store.specs.Store.{Lines, lines_in, with_line, Changes, HandsOut, ReadsAtRest, Seen, StaysAtRest, Storing, at_rest, asked, is_asked_for, waybills_for}
pub use Rattle.state_store.specs.Status.{AreWithin}
pub use Rattle.state_store.specs.declared.lines.ExpectedLines.{ExpectedLines}
pub use Rattle.state_store.specs.declared.viewing.WaybillQuery.{WaybillQuery}
pub use Rattle.state_store.specs.declared.viewing.WaybillQuery.TheVariants.{Irregular, Stored}
pub use Rattle.station_core.specs.Readers.{announced, AreAnnounced, AreExpectations, book_by, book_row, expected_for, has_come, is_about, is_of_flight, message, messages_about, numbered}
pub use Rattle.station_core.specs.Step.{IsLawfulState, State, most_rows, opening}
pub use Rattle.station_core.specs.Keeping.{AreAllBalances, on_cargo, sizes_of}
pub use Rattle.station_core.specs.declared.rows.AnnouncedRow.{AnnouncedRow}
pub use Rattle.station_core.specs.declared.rows.BookQuery.TheVariants.{On}
pub use Rattle.station_core.specs.declared.rows.BookRow.{BookRow}
pub use Rattle.station_core.specs.declared.rows.ExpectedQuery.TheVariants.{Open}
pub use Rattle.station_core.specs.declared.rows.Message.{Message}
pub use Rattle.station_core.specs.declared.stored.Sizes.{Sizes}
pub use Rattle.station_rows.specs.Shown.{ShowsChange, rows_view}
pub use Rattle.station_rows.specs.Meant.{changing_waybill, expected_meant, flight_meant, listed_waybill_meant, message_meant, move_meant, noted_flight_meant, trail_meant, waybill_meant, with_expected, with_flight, with_move, with_waybill, are_declared}
pub use Rattle.station_schema.specs.Schema.{IsOneStep, takes_name}
pub use Rattle.station_schema.specs.Connection.{IsOpening, IsVacant, connection_view, IsOwn, LiesInOrder}
pub use Rattle.station_schema.specs.Store.{IsAtRest, IsShowing, IsUnchanged, Survives, View, inside}
pub use Rattle.station_schema.specs.Tables.{Tables, Waybill, tables_of, waybill_id}
