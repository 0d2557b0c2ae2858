-- The words of other crates that this crate's definitions and contracts cite, passed on from one
-- place. Declares nothing.
pub use Rattle.std.specs.BTreeMap.{IsOrdered, get}
pub use Rattle.std.specs.Char.{digit_char}
pub use Rattle.std.specs.List.{AllZip, flat_map, join_with_byte, slice_get, sum_by}
pub use Rattle.std.specs.Option.{option_map, unwrap_or}
pub use Rattle.std.specs.Ordering.{eq_by_cmp, nat_cmp}
pub use Rattle.std.specs.Str.{IsAscii, bytes_eq}
pub use Rattle.agent_stock.specs.Stock.{holder_text, AreStockRuns, Holders}
pub use Rattle.agent_stock.specs.declared.runs.StockRun.{StockRun}
pub use Rattle.agent_stock.specs.declared.stock.Holder.{Holder}
pub use Rattle.agent_stock.specs.declared.stock.Holder.TheVariants.{Agent, Desk, Used, Void}
pub use Rattle.awb_number.specs.Number.{padded, number_text, prefix_of, serial_of}
pub use Rattle.desk_commands.specs.Command.{day_line}
pub use Rattle.imp_fields.specs.Fields.{flight_text}
pub use Rattle.imp_fields.specs.Message.{weight_text}
pub use Rattle.json.specs.Print.{escape, escape_byte, escape_letter, quoted}
pub use Rattle.serde_json.specs.Data.{Data, Items, Members, array, boolean, item, member, no_items, no_members, null, number, object, string, unsigned}
pub use Rattle.serde_json.specs.Written.{compact_text}
pub use Rattle.shipment_machine.specs.Book.{amount, built, found, in_store, missing, pieces_of, same_flight_date, same_place, store, tenths_of, waybills_of}
pub use Rattle.shipment_machine.specs.Cargo.{Cargo}
pub use Rattle.shipment_machine.specs.declared.moves.Amount.{Amount}
pub use Rattle.shipment_machine.specs.declared.flight.FlightDate.{FlightDate}
pub use Rattle.shipment_machine.specs.declared.moves.Move.{Move}
pub use Rattle.shipment_machine.specs.declared.moves.Place.{Place}
pub use Rattle.shipment_machine.specs.declared.moves.Place.TheVariants.{Built, Departed, Free, Hand, Missing, Surplus}
pub use Rattle.station_core.specs.Ends.{HasCause, NoneFailed, OneFailed, Sent}
pub use Rattle.station_core.specs.Given.{Given}
pub use Rattle.station_core.specs.Keeping.{IfSound, IsMemory, IsReadersFault, Keeping, OnlyReads, Reads, Reopens, kept_of, summary_of}
pub use Rattle.station_core.specs.Readers.{AreAnnounced, AreExpectedBy, AreExpectedRows, AreFlightRows, book_by, book_rows, irregular_rows, is_about, is_named, messages_about, messages_after, messages_by, pending_messages, shed_rows, trail_by, trail_rows, waybill_of}
pub use Rattle.station_core.specs.Step.{Kept, State, flight_date_text}
pub use Rattle.station_core.specs.declared.rows.AnnouncedRow.{AnnouncedRow}
pub use Rattle.station_core.specs.declared.rows.BookQuery.{BookQuery}
pub use Rattle.station_core.specs.declared.rows.BookRow.{BookRow}
pub use Rattle.station_core.specs.declared.rows.ExpectedQuery.{ExpectedQuery}
pub use Rattle.station_core.specs.declared.rows.ExpectedQuery.TheVariants.{Open}
pub use Rattle.station_core.specs.declared.rows.ExpectedRow.{ExpectedRow}
pub use Rattle.station_core.specs.declared.rows.FlightRow.{FlightRow}
pub use Rattle.station_core.specs.declared.rows.IrregularRow.{IrregularRow}
pub use Rattle.station_core.specs.declared.rows.Message.{Message}
pub use Rattle.station_core.specs.declared.rows.MessageQuery.{MessageQuery}
pub use Rattle.station_core.specs.declared.rows.ShedRow.{ShedRow}
pub use Rattle.station_core.specs.declared.rows.TrailQuery.{TrailQuery}
pub use Rattle.station_core.specs.declared.rows.TrailRow.{TrailRow}
pub use Rattle.station_core.specs.declared.rows.Waybill.{Waybill}
pub use Rattle.station_core.specs.declared.stored.Summary.{Summary}
pub use Rattle.station_days.specs.Date.{LocalMinute}
pub use Rattle.reports.specs.declared.arrivals.ArrivalRow.{ArrivalRow}
pub use Rattle.reports.specs.declared.days.Dated.{Dated}
pub use Rattle.reports.specs.declared.manifest.ManifestRow.{ManifestRow}
