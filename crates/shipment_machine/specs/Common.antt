-- The words of other crates that this crate's definitions and contracts cite, passed on from one
-- place. Declares nothing.
pub use Rattle.std.specs.HashMap.{get}
pub use Rattle.std.specs.List.{AllByRecursion, filter, flat_map, list_all, list_any, sum_by}
pub use Rattle.std.specs.Option.{unwrap_or}
pub use Rattle.std.specs.Str.{bytes_eq}
pub use Rattle.agent_stock.specs.Stock.{Holders}
pub use Rattle.agent_stock.specs.declared.stock.Holder.{Holder}
pub use Rattle.agent_stock.specs.declared.stock.Holder.TheVariants.{Used}
pub use Rattle.awb_number.specs.Number.{number_text}
pub use Rattle.imp_fields.specs.Fields.{IsBookTenths, IsPieces, book_weight_of, most_pieces, most_tenths, share_of, is_line, flight_text, is_carrier, most_waybills, same_flight, most_lines}
pub use Rattle.imp_fields.specs.Message.{why_word, weight_text}
pub use Rattle.imp_fields.specs.declared.line.Discrepancy.{Discrepancy}
pub use Rattle.imp_fields.specs.declared.line.WaybillSummary.{WaybillSummary}
pub use Rattle.station_days.specs.Date.{LocalMinute, day_line, is_moment_day, resolved, where_true}
pub use Rattle.shipment_machine.specs.declared.flight.FlightDate.{FlightDate}
pub use Rattle.shipment_machine.specs.declared.moves.Move.{Move}
pub use Rattle.shipment_machine.specs.declared.moves.Place.{Place}
pub use Rattle.shipment_machine.specs.declared.moves.Expected.{Expected}
pub use Rattle.shipment_machine.specs.declared.command.CargoLine.{CargoLine}
pub use Rattle.shipment_machine.specs.declared.moves.Part.{Part}
pub use Rattle.shipment_machine.specs.declared.plans.Change.{Change}
pub use Rattle.shipment_machine.specs.declared.plans.Refusal.{Refusal}
pub use Rattle.shipment_machine.specs.declared.moves.Declared.{Declared}
pub use Rattle.shipment_machine.specs.declared.moves.Amount.{Amount}
pub use Rattle.shipment_machine.specs.declared.moves.Place.TheVariants.{Built, Delivered, Departed, Free, Hand, Missing, Surplus, Transferred}
pub use Rattle.shipment_machine.specs.declared.moves.Balances.{Balances}
pub use Rattle.shipment_machine.specs.declared.view.FlightLoad.{FlightLoad}
pub use Rattle.shipment_machine.specs.declared.view.RowsKey.{RowsKey}
pub use Rattle.shipment_machine.specs.declared.view.Rows.{Rows}
pub use Rattle.shipment_machine.specs.declared.view.LineView.{LineView}
pub use Rattle.shipment_machine.specs.declared.command.InboundPart.{InboundPart}
pub use Rattle.shipment_machine.specs.declared.plans.PlanFault.{PlanFault}
pub use Rattle.shipment_machine.specs.declared.moves.Outbound.{Outbound}
pub use Rattle.shipment_machine.specs.declared.plans.Change.TheVariants.{Confirm, Declare, Expect, NoteFlight, NotePart, Trail, UseUp}
pub use Rattle.shipment_machine.specs.declared.view.DeclarationView.{DeclarationView}
pub use Rattle.shipment_machine.specs.declared.view.WaybillView.{WaybillView}
pub use Rattle.shipment_machine.specs.declared.view.FlightView.{FlightView}
pub use Rattle.shipment_machine.specs.declared.command.InboundLine.{InboundLine}
