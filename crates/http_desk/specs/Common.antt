-- The words of other crates that this crate's definitions and contracts cite, passed on from one
-- place. Declares nothing.
pub use Rattle.std.specs.Char.{digit_value, is_ascii_alphanumeric, is_ascii_graphic, is_digit, to_ascii_lowercase}
pub use Rattle.std.specs.List.{after_first, before_first, flat_map, list_all, position_or_len}
pub use Rattle.std.specs.Result.{result_ok}
pub use Rattle.std.specs.Str.{bytes_eq}
pub use Rattle.agent_stock.specs.Fields.{is_agent_code}
pub use Rattle.agent_stock.specs.declared.stock.Holder.{Holder}
pub use Rattle.awb_number.specs.Number.{decimal_value, IsNumber, number_of, number_text}
pub use Rattle.desk_commands.specs.Body.{IsBodyOf}
pub use Rattle.desk_commands.specs.Command.{day_of, verb_called, word}
pub use Rattle.desk_commands.specs.declared.command.Command.{Command}
pub use Rattle.desk_commands.specs.declared.verb.Verb.{Verb}
pub use Rattle.http.specs.StatusCode.{IsStatusCode, status_text}
pub use Rattle.httparse.specs.Grammar.{ReadsRequest, RequestHead, print_request}
pub use Rattle.httparse.specs.Spans.{IsHeaderWithin, IsRequestAt, IsRequestOf, IsRequestWithin, RequestOverflows, header_bytes, name_and_value}
pub use Rattle.imp_fields.specs.Fields.{is_printable, Designator, IsDesignator, flight_of, flight_text, most_bytes}
pub use Rattle.imp_fields.specs.declared.fault.TextFault.{TextFault}
pub use Rattle.input_reasons.specs.Look.{IsLook, IsLookFault, look_object}
pub use Rattle.input_reasons.specs.Reason.{IsReason}
pub use Rattle.input_reasons.specs.declared.look.Look.{Look}
pub use Rattle.percent_encoding.specs.Iter.{encoded_text}
pub use Rattle.percent_encoding.specs.Percent.{percent_encode_byte, percent_sign}
pub use Rattle.reports.specs.Reports.{IsListing, listing_called, holder_name, holder_word, since_text}
pub use Rattle.reports.specs.declared.report.ReportCause.{ReportCause}
pub use Rattle.reports.specs.declared.layout.Form.{Form}
pub use Rattle.reports.specs.declared.report.Listing.{Listing}
pub use Rattle.reports.specs.declared.report.Report.{Report}
pub use Rattle.serde_json.specs.Data.{Data, array, boolean, item, member, no_items, no_members, number, object, string, unsigned}
pub use Rattle.serde_json.specs.Read.{read}
pub use Rattle.serde_json.specs.View.{view}
pub use Rattle.serde_json.specs.Written.{compact_text}
pub use Rattle.shipment_machine.specs.declared.moves.Amount.{Amount}
pub use Rattle.shipment_machine.specs.declared.flight.FlightDate.{FlightDate}
pub use Rattle.shipment_machine.specs.declared.plans.Refusal.{Refusal}
pub use Rattle.station_core.specs.Ends.{given_of, inner_of, HasCause, NoneFailed, OneFailed, Sent}
pub use Rattle.station_core.specs.Given.{Given, nothing_given}
pub use Rattle.station_core.specs.Keeping.{IfSound, IfWorks, IsMemoryOrStore, IsReadersFault, Keeping, KeepsSound, OnlyReads, StaysIfBroken}
pub use Rattle.station_core.specs.Readers.{is_key, waybill_of}
pub use Rattle.station_core.specs.Step.{State, accepted, step, detail_text}
pub use Rattle.station_core.specs.declared.answer.ActFault.{ActFault}
pub use Rattle.station_core.specs.declared.answer.Answer.{Answer}
pub use Rattle.station_core.specs.declared.answer.Answer.TheVariants.{Done, Refused}
pub use Rattle.station_core.specs.declared.answer.Input.{Input}
pub use Rattle.station_core.specs.declared.answer.Input.TheVariants.{Keyed, Wire}
pub use Rattle.station_core.specs.declared.rows.Waybill.{Waybill}
pub use Rattle.station_days.specs.Date.{LocalMinute, day_line, where_true}
pub use Rattle.telegrams.specs.Meaning.{IsTelegram, Meant, refusal_of, telegram_fault}
pub use Rattle.http_desk.specs.declared.wanted.HeadWants.{HeadWants}
pub use Rattle.http_desk.specs.declared.printout.Printout.{Printout}
