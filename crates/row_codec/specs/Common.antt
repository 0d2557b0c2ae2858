-- The words of other crates that this crate's definitions and contracts cite, passed on from one
-- place. Declares nothing.
pub use Rattle.std.specs.BTreeMap.{Updates}
pub use Rattle.std.specs.FinMap.{FinMap, entries, get, insert, remove}
pub use Rattle.std.specs.Int.{w64}
pub use Rattle.std.specs.List.{find, list_all, prefix_len, range_with_len}
pub use Rattle.std.specs.Option.{SomeIff, option_and_then, option_map, unwrap_or}
pub use Rattle.std.specs.Ordering.{int_eq, nat_cmp}
pub use Rattle.std.specs.Str.{bytes_eq, is_utf8}
pub use Rattle.std.specs.declared.cmp.Ordering.{Ordering}
pub use Rattle.agent_stock.specs.Fields.{is_agent_code}
pub use Rattle.agent_stock.specs.Stock.{Holders}
pub use Rattle.agent_stock.specs.declared.runs.StockRun.{StockRun}
pub use Rattle.agent_stock.specs.declared.stock.Holder.{Holder}
pub use Rattle.awb_number.specs.Number.{is_letter, key_of, prefix_of, serial_of, serials}
pub use Rattle.imp_fields.specs.Fields.{is_airport, most_parts, most_pieces, most_tenths, is_line, is_printable, Designator, flight_of, flight_text, is_carrier, most_flight_number}
pub use Rattle.imp_fields.specs.Message.{is_goods}
pub use Rattle.shipment_machine.specs.Book.{balance, balances_of, built, drawn, held, pieces_of, same_place, tenths_of, waybills_on}
pub use Rattle.shipment_machine.specs.declared.flight.FlightDate.{FlightDate}
pub use Rattle.shipment_machine.specs.declared.moves.Declared.{Declared}
pub use Rattle.shipment_machine.specs.declared.moves.Move.{Move}
pub use Rattle.shipment_machine.specs.declared.moves.Outbound.{Outbound}
pub use Rattle.shipment_machine.specs.declared.moves.Part.{Part}
pub use Rattle.shipment_machine.specs.declared.moves.Place.{Place}
pub use Rattle.shipment_machine.specs.declared.moves.Place.TheVariants.{Built, Delivered, Departed, Free, Hand, Missing, Surplus, Transferred}
pub use Rattle.sqlite_keyed.specs.Keyed.{get_by}
pub use Rattle.station_core.specs.Readers.{is_key, book_by, book_row, message, trail_by, trail_row}
pub use Rattle.station_core.specs.Step.{State, most_rows}
pub use Rattle.station_core.specs.Keeping.{AreAllBalances, IsRequest, kept_of, loads_on}
pub use Rattle.station_core.specs.declared.rows.BookQuery.{BookQuery}
pub use Rattle.station_core.specs.declared.rows.BookRow.{BookRow}
pub use Rattle.station_core.specs.declared.rows.Expectation.{Expectation}
pub use Rattle.station_core.specs.declared.rows.NotedFlight.{NotedFlight}
pub use Rattle.station_core.specs.declared.rows.TrailQuery.{TrailQuery}
pub use Rattle.station_core.specs.declared.rows.TrailRow.{TrailRow}
pub use Rattle.station_core.specs.declared.stored.Load.{Load}
pub use Rattle.station_days.specs.Date.{first_moment_day, last_moment_day}
pub use Rattle.station_rows.specs.Shown.{Reads, ShowsChange, ShowsStill}
pub use Rattle.station_rows.specs.Meant.{build_meant, count_meant, counts_for, expected_meant, flight_meant, kept_meant, lines_for, listed_waybill_meant, message_meant, move_meant, moves_for, noted_flight_meant, stock_meant, trail_meant, waybill_meant}
pub use Rattle.station_rows.specs.declared.moves.MoveQuery.{MoveQuery}
pub use Rattle.station_rows.specs.declared.trail.LineQuery.{LineQuery}
pub use Rattle.station_schema.specs.Tables.{adjust, Build, BuildKey, Count, CountKey, Expected, ExpectedKey, Flight, FlightKey, Kept, Message, PartKey, Station, Stock, StockKey, Tables, TrailLine, Waybill, build_cmp, count_cmp, expected_cmp, flight_cmp, kept_cmp, kept_text_cmp, message_id, move_id, part_cmp, stock_cmp, trail_id, waybill_id}
pub use Rattle.station_schema.specs.Store.{IsShowing, Seen, Survives, View, inside}
pub use Rattle.row_codec.specs.declared.tally.Tally.{Tally}
