-- The words of other crates that this crate's definitions and contracts cite, passed on from one
-- place. Declares nothing.
pub use Rattle.std.specs.List.{AllZip, last_or, list_all, list_any, starts_with}
pub use Rattle.std.specs.Str.{bytes_eq}
pub use Rattle.awb_number.specs.Number.{is_digit, IsNumber, number_text}
pub use Rattle.imp_fields.specs.Fields.{airport_of, is_airport, IsBookTenths, IsPieces, count_of, fields, Designator, IsDesignator, flight_of, flight_text, most_waybills, most_lines}
pub use Rattle.imp_fields.specs.Checks.{need, ◌>>=◌}
pub use Rattle.imp_fields.specs.Message.{HasSpans, Shipment, WrittenLine, consignment_of, consignment_text, goods_text, shipment_of, shipment_written, err_of, fault_in, is_head, sent_text, unless_true, is_goods, IsFaultOf, fault_at, first_fault, line_texts, normal_lines, quantity_text, written_code}
pub use Rattle.imp_fields.specs.declared.fault.TextFault.{TextFault}
pub use Rattle.imp_fields.specs.declared.fault.Why.{Why}
pub use Rattle.imp_fields.specs.declared.line.Token.{Token}
pub use Rattle.station_days.specs.Date.{CalendarDay, IsCalendarDay, date_text, month_of, optional_time_of, two_digits_of}
