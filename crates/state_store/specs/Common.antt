-- The words of other crates that this crate's definitions and contracts cite, passed on from one
-- place. Declares nothing.
pub use Rattle.std.specs.BTreeMap.{BTreeMap, IsOrdered, get, is_at}
pub use Rattle.std.specs.Cmp.{IsTotalOrder, nat_cmp_total, on_total, partial_equiv_from_equiv, po, then_total}
pub use Rattle.std.specs.Cmp.Lexicographic.{nat_list_cmp_total}
pub use Rattle.std.specs.HashMap.{HashMap, get_by}
pub use Rattle.std.specs.List.{flat_map, sum_by}
pub use Rattle.std.specs.Map.{lookup}
pub use Rattle.std.specs.Option.{option_map, unwrap_or}
pub use Rattle.std.specs.Ordering.{eq_by_cmp, nat_cmp}
pub use Rattle.std.specs.Str.{bytes_eq}
pub use Rattle.agent_stock.specs.Stock.{AreStockRuns, IsNoneFrom, Holders, RefusesOrder, after_order, assigned, is_run, lowest_failing, order_refusal, run_refusal}
pub use Rattle.agent_stock.specs.declared.stock.Holder.{Holder}
pub use Rattle.imp_fields.specs.Fields.{IsDesignator, flight_text}
pub use Rattle.row_sinks.specs.Handed.{HandedOut, Hands}
pub use Rattle.shipment_machine.specs.Lawful.{rows_for, view_of, IsLawful}
pub use Rattle.shipment_machine.specs.Book.{amount, balances_of, built, has_moves, moved_in, moved_out, pieces_of, same_place, store, tenths_of, waybills_of, same_flight_date}
pub use Rattle.shipment_machine.specs.Cargo.{Cargo, same_part, written, declaration, declaration_view, flight_view, line_view_of, loads_of, rows_of, waybill_view}
pub use Rattle.shipment_machine.specs.Effect.{lines_for}
pub use Rattle.shipment_machine.specs.declared.moves.Amount.{Amount}
pub use Rattle.shipment_machine.specs.declared.command.InboundPart.{InboundPart}
pub use Rattle.shipment_machine.specs.declared.flight.FlightDate.{FlightDate}
pub use Rattle.shipment_machine.specs.declared.moves.Balances.{Balances}
pub use Rattle.shipment_machine.specs.declared.moves.Declared.{Declared}
pub use Rattle.shipment_machine.specs.declared.moves.Expected.{Expected}
pub use Rattle.shipment_machine.specs.declared.moves.Move.{Move}
pub use Rattle.shipment_machine.specs.declared.moves.Outbound.{Outbound}
pub use Rattle.shipment_machine.specs.declared.moves.Part.{Part}
pub use Rattle.shipment_machine.specs.declared.moves.Place.{Place}
pub use Rattle.shipment_machine.specs.declared.moves.Place.TheVariants.{Built, Delivered, Departed, Free, Hand, Missing, Surplus, Transferred}
pub use Rattle.shipment_machine.specs.declared.plans.Change.TheVariants.{Confirm, Declare, Expect, NoteFlight, NotePart, Trail, UseUp}
pub use Rattle.shipment_machine.specs.declared.view.FlightLoad.{FlightLoad}
pub use Rattle.shipment_machine.specs.declared.view.Rows.{Rows}
pub use Rattle.station_core.specs.Keeping.{KeepsPremise, irregular_by, kept_of, loads_on, on_cargo, shed_by, stored_of, with_key, with_messages, with_moves, with_text}
pub use Rattle.station_core.specs.Readers.{AreAnnounced, AreExpectations, AreExpectedBy, AreFlightRows, AreNoted, book_row, by_flight, expected_row, flight_row, has_come, irregular_rows, is_about, is_of_flight, message, messages_about, messages_after, movements_for, numbered, shed_rows, told_of, trail_row, waybill_of}
pub use Rattle.station_core.specs.Step.{Kept, State, has_room, most_rows, opening, texts_in}
pub use Rattle.station_core.specs.declared.rows.AnnouncedRow.{AnnouncedRow}
pub use Rattle.station_core.specs.declared.rows.BookQuery.{BookQuery}
pub use Rattle.station_core.specs.declared.rows.BookRow.{BookRow}
pub use Rattle.station_core.specs.declared.rows.Message.{Message}
pub use Rattle.station_core.specs.declared.rows.TrailQuery.{TrailQuery}
pub use Rattle.station_core.specs.declared.rows.TrailRow.{TrailRow}
pub use Rattle.station_core.specs.declared.stored.KeptReply.{KeptReply}
pub use Rattle.station_core.specs.declared.stored.Load.{Load}
pub use Rattle.station_core.specs.declared.stored.WaybillBalances.{WaybillBalances}
