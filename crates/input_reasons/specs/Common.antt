-- The words of other crates that this crate's definitions and contracts cite, passed on from one
-- place. Declares nothing.
pub use Rattle.std.specs.List.{cons_option, join_by, list_all, list_any, position_or_len, slice_split, starts_with, suffix_len}
pub use Rattle.std.specs.Str.{IsAscii}
pub use Rattle.awb_number.specs.Number.{is_digit, is_letter, number_text}
pub use Rattle.ffm_text.specs.Ffm.{is_cargo_line, unloading_point}
pub use Rattle.imp_fields.specs.Fields.{is_blank, is_line, is_printable, flight_text, most_lines, is_line_token}
pub use Rattle.imp_fields.specs.Message.{Shipment, consignment_of, fault_at, is_message_line, is_newline, line_texts, line_without_end, lines_of, normal_lines}
pub use Rattle.imp_fields.specs.declared.fault.TextFault.{TextFault}
pub use Rattle.serde_json.specs.Data.{boolean, string}
pub use Rattle.serde_json.specs.Written.{compact_text}
pub use Rattle.shipment_machine.specs.Book.{amount_text}
pub use Rattle.shipment_machine.specs.declared.command.CargoLine.{CargoLine}
pub use Rattle.shipment_machine.specs.declared.command.InboundLine.{InboundLine}
pub use Rattle.shipment_machine.specs.declared.plans.Refusal.{Refusal}
pub use Rattle.station_core.specs.Ends.{SendsLine}
pub use Rattle.station_days.specs.Date.{date_text, day_in_year}
pub use Rattle.telegrams.specs.Meaning.{IsTelegram, Meant, cargo_line, kind_said, refusal_of, telegram_fault}
pub use Rattle.telegrams.specs.declared.telegram.Content.{Content}
pub use Rattle.telegrams.specs.declared.telegram.PartContent.{PartContent}
pub use Rattle.telegrams.specs.declared.telegram.TelegramFault.{TelegramFault}
