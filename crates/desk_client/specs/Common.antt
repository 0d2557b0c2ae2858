-- The words of other crates that this crate's definitions and contracts cite, passed on from one
-- place. Declares nothing.
pub use Rattle.std.specs.Cmp.Lexicographic.{pointwise}
pub use Rattle.std.specs.List.{ends_with, list_all}
pub use Rattle.std.specs.Str.{bytes_eq}
pub use Rattle.agent_stock.specs.Fields.{is_agent_code}
pub use Rattle.agent_stock.specs.declared.stock.Order.{Order}
pub use Rattle.agent_stock.specs.declared.stock.Order.TheVariants.{GiveBack, Issue, TakeIn, Void}
pub use Rattle.agent_stock.specs.declared.stock.Run.{Run}
pub use Rattle.awb_number.specs.Number.{is_digit, padded, IsNumber, number_of, number_text, prefix_of, serial_of}
pub use Rattle.cli_run.specs.Lines.{IsActAsked, IsFrame, IsWired, IsWritten, HasNotHeard, HasSkipped, is_blank, HasRunInput, row_asks, Row, input_of, stock_rows, HasToldBadRow}
pub use Rattle.cli_run.specs.Ends.{HasCome, HasFailed, HasGrown, Call, call}
pub use Rattle.cli_run.specs.Requests.{HasToldPart, IsReadToEnd, IsCommandAsked, answer_text, named, IsAnsweredShut}
pub use Rattle.cli_run.specs.Seen.{HasGivenReason, HasToldWhy, reason_head}
pub use Rattle.cli_run.specs.Done.{HaveBeenAnswered, HaveBeenMade, kept_lines, HasTakenNext}
pub use Rattle.cli_run.specs.declared.telling.RunFault.{RunFault}
pub use Rattle.cli_run.specs.declared.request.Request.{Request}
pub use Rattle.cli_words.specs.declared.line.LineCommand.{LineCommand}
pub use Rattle.csv.specs.Records.{fields_of}
pub use Rattle.desk_commands.specs.Body.{IsBodyOf}
pub use Rattle.desk_commands.specs.Command.{IsRun, order_verb, word}
pub use Rattle.desk_commands.specs.declared.command.Command.TheVariants.{Stock}
pub use Rattle.desk_commands.specs.declared.verb.Verb.{Verb}
pub use Rattle.http_desk.specs.Reply.{HasHead, head_of, Reply, answer_reply, history_reply, json_reply, look_reply, media_type, report_reply}
pub use Rattle.http_desk.specs.Request.{number_told, IsListed, report_path, rows_path, segments, as_text, in_form, HeadAsks, IsSaid, head_asks, key_of, looks_up, sends, values_of, gets, got_history, got_holder, got_report, got_waybill, posted_command, posted_telegram, path_text}
pub use Rattle.httparse.specs.Grammar.{HasNoResponse, MayBecomeResponse, ReadsResponse, RequestHead, ResponseHead, print_request, status_code}
pub use Rattle.httparse.specs.Spans.{IsHeaderWithin, header_bytes, name_and_value}
pub use Rattle.imp_fields.specs.Fields.{is_printable, most_bytes}
pub use Rattle.input_reasons.specs.Reason.{is_unread}
pub use Rattle.reports.specs.declared.layout.Form.{Form}
pub use Rattle.reports.specs.declared.report.Listing.{Listing}
pub use Rattle.reports.specs.declared.report.Report.{Report}
pub use Rattle.serde_json.specs.Data.{Data, depth, member, no_members, number, object, string, unsigned}
pub use Rattle.serde_json.specs.Find.{as_number, as_str, as_u64, get}
pub use Rattle.serde_json.specs.Read.{max_depth, read}
pub use Rattle.serde_json.specs.View.{view}
pub use Rattle.serde_json.specs.Written.{compact_text}
pub use Rattle.shipment_machine.specs.declared.plans.Detail.{Detail}
pub use Rattle.station_core.specs.Ends.{HasCause, HasSent, NoneFailed, SendsLine}
pub use Rattle.station_core.specs.Given.{Given}
pub use Rattle.station_core.specs.Readers.{is_key}
pub use Rattle.station_core.specs.declared.answer.Answer.{Answer}
pub use Rattle.station_core.specs.declared.answer.Answer.TheVariants.{Done, Refused}
pub use Rattle.station_core.specs.declared.answer.Input.{Input}
pub use Rattle.station_core.specs.declared.answer.Input.TheVariants.{Keyed, Wire}
pub use Rattle.station_days.specs.Date.{where_true}
pub use Rattle.desk_client.specs.declared.ask.Response.{Response}
pub use Rattle.desk_client.specs.declared.ask.AskFault.{AskFault}
pub use Rattle.desk_client.specs.declared.reading.LastTry.{LastTry}
