-- The words of other crates that this crate's definitions and contracts cite, passed on from one
-- place. Declares nothing.
pub use Rattle.std.specs.Io.{IsEmptyOrEndsWith, ReadsAtMost, StopsAt}
pub use Rattle.std.specs.Io.BufRead.{drop_through, take_through}
pub use Rattle.std.specs.Io.Buffered.{reader_remaining}
pub use Rattle.std.specs.Io.KnownBytes.{Consumes, IsAtEnd, ReadConsumes}
pub use Rattle.std.specs.List.{AllByRecursion, list_all}
pub use Rattle.std.specs.Option.{option_and_then, option_map}
pub use Rattle.std.specs.Str.{bytes_eq}
pub use Rattle.agent_stock.specs.Fields.{is_agent_code}
pub use Rattle.agent_stock.specs.declared.stock.Order.{Order}
pub use Rattle.agent_stock.specs.declared.stock.Order.TheVariants.{GiveBack, Issue, TakeIn, Void}
pub use Rattle.agent_stock.specs.declared.stock.Run.{Run}
pub use Rattle.awb_number.specs.Number.{decimal_value, is_digit, key_of}
pub use Rattle.cli_words.specs.declared.line.LineCommand.{LineCommand}
pub use Rattle.csv.specs.Reading.{default_config, error_kind, records, strip_bom}
pub use Rattle.csv.specs.Records.{field_at, fields_of}
pub use Rattle.csv.specs.declared.error.ErrorKind.{ErrorKind}
pub use Rattle.desk_commands.specs.Body.{IsBodyOf, member_count}
pub use Rattle.desk_commands.specs.Command.{word}
pub use Rattle.desk_commands.specs.declared.command.Command.{Command}
pub use Rattle.desk_commands.specs.declared.command.Command.TheVariants.{Stock}
pub use Rattle.desk_commands.specs.declared.verb.Verb.{Verb}
pub use Rattle.http_desk.specs.Reply.{IsHistory, holder_data, waybill_data}
pub use Rattle.imp_fields.specs.Fields.{most_bytes}
pub use Rattle.imp_fields.specs.declared.fault.TextFault.{TextFault}
pub use Rattle.input_reasons.specs.Look.{IsLook, IsLookFault, has_doubt, look_text}
pub use Rattle.input_reasons.specs.Reason.{HasReason, is_unread, numbered_head}
pub use Rattle.input_reasons.specs.declared.look.Look.{Look}
pub use Rattle.reports.specs.Reports.{IsListing}
pub use Rattle.reports.specs.declared.report.ReportCause.{ReportCause}
pub use Rattle.reports.specs.declared.report.ReportFault.{ReportFault}
pub use Rattle.serde_json.specs.Data.{Data, string}
pub use Rattle.serde_json.specs.Find.{as_str, get}
pub use Rattle.serde_json.specs.Read.{read}
pub use Rattle.serde_json.specs.View.{view}
pub use Rattle.serde_json.specs.Written.{compact_text}
pub use Rattle.shipment_machine.specs.declared.plans.Refusal.{Refusal}
pub use Rattle.station_core.specs.Ends.{given_of, inner_of, HasCause, HasSent, NoneFailed, OneFailed, ReadStep, SendsLine}
pub use Rattle.station_core.specs.Given.{Given, nothing_given}
pub use Rattle.station_core.specs.Keeping.{IfSound, IfWorks, IsAfterAnswered, Keeping, OnlyReads, StaysIfBroken, StaysInService}
pub use Rattle.station_core.specs.Readers.{is_key, waybill_of}
pub use Rattle.station_core.specs.Retries.{is_done}
pub use Rattle.station_core.specs.Step.{State, after_all, answers_of, step, refusal_text, reply_text}
pub use Rattle.station_core.specs.declared.answer.ActFault.{ActFault}
pub use Rattle.station_core.specs.declared.answer.Answer.{Answer}
pub use Rattle.station_core.specs.declared.answer.Answer.TheVariants.{Done, Refused}
pub use Rattle.station_core.specs.declared.ends.Counted.{Counted}
pub use Rattle.station_core.specs.declared.answer.Input.{Input}
pub use Rattle.station_core.specs.declared.answer.Input.TheVariants.{Keyed, Wire}
pub use Rattle.station_core.specs.declared.rows.Waybill.{Waybill}
pub use Rattle.station_days.specs.Date.{LocalMinute}
pub use Rattle.telegrams.specs.Meaning.{IsTelegram, Meant, refusal_of, telegram_fault}
pub use Rattle.cli_run.specs.declared.telling.RunFault.{RunFault}
pub use Rattle.cli_run.specs.declared.request.Request.{Request}
