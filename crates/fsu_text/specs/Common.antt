-- The words of other crates that this crate's definitions and contracts cite, passed on from one
-- place. Declares nothing.
pub use Rattle.std.specs.List.{join_with_byte, list_all}
pub use Rattle.std.specs.Str.{bytes_eq}
pub use Rattle.awb_number.specs.Number.{IsNumber}
pub use Rattle.imp_fields.specs.Fields.{airport_of, is_airport, IsBookTenths, IsPieces, fields, Designator, IsDesignator, flight_of, flight_text, is_line_token}
pub use Rattle.imp_fields.specs.Message.{HasSpans, Shipment, WrittenLine, consignment_of, consignment_text, shipment_of, shipment_written, err_of, fault_in, is_head, sent_text, unless_true, is_name, IsFaultOf, line_texts, normal_lines, quantity_of, quantity_text, written_code}
pub use Rattle.imp_fields.specs.declared.amount.Quantity.{Quantity}
pub use Rattle.imp_fields.specs.declared.amount.ShipmentCode.TheVariants.{Total}
pub use Rattle.imp_fields.specs.declared.line.Discrepancy.{Discrepancy}
pub use Rattle.imp_fields.specs.declared.line.Discrepancy.TheVariants.{Found, Missing, Offloaded}
pub use Rattle.imp_fields.specs.declared.fault.TextFault.{TextFault}
pub use Rattle.imp_fields.specs.declared.fault.Why.{Why}
pub use Rattle.imp_fields.specs.declared.line.Lines.{Lines}
pub use Rattle.imp_fields.specs.declared.line.WaybillSummary.{WaybillSummary}
pub use Rattle.station_days.specs.Date.{CalendarDay, IsCalendarDay, When, date_text, date_time_of, optional_time_of, when_text, or_else, where_true, ◌>>=◌}
pub use Rattle.fsu_text.specs.declared.sent.SentStatus.{SentStatus}
pub use Rattle.fsu_text.specs.declared.status.Carriage.{Carriage}
pub use Rattle.fsu_text.specs.declared.sent.SentUpdate.{SentUpdate}
