-- The words of other crates that this crate's definitions and contracts cite, passed on from one
-- place. Declares nothing.
pub use Rattle.std.specs.Cmp.Lexicographic.{slice_cmp}
pub use Rattle.std.specs.Coded.{Coded, code_by, coded_list, coded_ℕ, coded×}
pub use Rattle.std.specs.FinMap.{is_sorted}
pub use Rattle.std.specs.Io.KnownBytes.{ReadConsumes, WriteAppends}
pub use Rattle.std.specs.List.{AllByRecursion, find, flat_map, list_all, list_any, sum_by}
pub use Rattle.std.specs.Option.{option_map, unwrap_or}
pub use Rattle.std.specs.Ordering.{nat_cmp, ordering_then}
pub use Rattle.std.specs.Str.{bytes_eq}
pub use Rattle.std.specs.declared.cmp.Ordering.{Ordering}
pub use Rattle.agent_stock.specs.Stock.{after_order, order_refusal, run_of}
pub use Rattle.agent_stock.specs.declared.stock.Order.{Order}
pub use Rattle.awb_number.specs.Number.{IsNumber, number_text}
pub use Rattle.desk_commands.specs.Command.{IsCommand, command_text}
pub use Rattle.desk_commands.specs.declared.command.Command.{Command}
pub use Rattle.imp_fields.specs.Fields.{is_airport, IsPieces, IsTenths, most_parts, is_line, IsDesignator, flight_text}
pub use Rattle.imp_fields.specs.Message.{is_goods}
pub use Rattle.row_sinks.specs.Handed.{HandedOut}
pub use Rattle.shipment_machine.specs.Book.{amount, less, balances_of, built, delivered, departed, found, free, missing, same_place, store, taken, transferred, waybills_of, waybills_on, same_flight_date}
pub use Rattle.shipment_machine.specs.Cargo.{Cargo, opening_cargo, declaration}
pub use Rattle.shipment_machine.specs.Effect.{Outcome, carried_out, effect}
pub use Rattle.shipment_machine.specs.Lawful.{IsLawful}
pub use Rattle.shipment_machine.specs.Laws.{AreBalances, IsConserved}
pub use Rattle.shipment_machine.specs.declared.moves.Amount.{Amount}
pub use Rattle.shipment_machine.specs.declared.command.CargoLine.{CargoLine}
pub use Rattle.shipment_machine.specs.declared.command.InboundLine.{InboundLine}
pub use Rattle.shipment_machine.specs.declared.command.ShipmentCommand.{ShipmentCommand}
pub use Rattle.shipment_machine.specs.declared.flight.FlightDate.{FlightDate}
pub use Rattle.shipment_machine.specs.declared.moves.Balances.{Balances}
pub use Rattle.shipment_machine.specs.declared.moves.Declared.{Declared}
pub use Rattle.shipment_machine.specs.declared.moves.Expected.{Expected}
pub use Rattle.shipment_machine.specs.declared.moves.Move.{Move}
pub use Rattle.shipment_machine.specs.declared.moves.Outbound.{Outbound}
pub use Rattle.shipment_machine.specs.declared.moves.Part.{Part}
pub use Rattle.shipment_machine.specs.declared.moves.Place.TheVariants.{Built}
pub use Rattle.shipment_machine.specs.declared.notice.Notice.{Notice}
pub use Rattle.shipment_machine.specs.declared.plans.Detail.{Detail}
pub use Rattle.shipment_machine.specs.declared.plans.Refusal.{Refusal}
pub use Rattle.station_days.specs.Date.{IsCalendarDay, LocalMinute}
pub use Rattle.telegrams.specs.Meaning.{notice_text}
pub use Rattle.telegrams.specs.declared.telegram.Content.{Content}
pub use Rattle.telegrams.specs.declared.telegram.Content.TheVariants.{Ffm, Fsu, Fwb}
pub use Rattle.station_core.specs.declared.answer.Reply.{Reply}
pub use Rattle.station_core.specs.declared.answer.Answer.{Answer}
pub use Rattle.station_core.specs.declared.rows.IrregularRow.{IrregularRow}
pub use Rattle.station_core.specs.declared.rows.ShedRow.{ShedRow}
pub use Rattle.station_core.specs.declared.answer.Answer.TheVariants.{Done, Refused}
