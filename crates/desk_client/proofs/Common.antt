-- The names that proofs of this crate cite, passed on from one place. Declares nothing.
pub use Rattle.agent_stock.specs.declared.stock.Order.{Order}
pub use Rattle.awb_number.proofs.NumberLaws.{number_again, number_takes}
pub use Rattle.awb_number.specs.Number.{decimal_value, is_digit, padded, check_digit, number_text, prefix_of, serial_of}
pub use Rattle.cli_run.proofs.Grown.{grown_more, has_come}
pub use Rattle.cli_run.proofs.Parts.{cause_behind, first_part, next_part, untroubled_more}
pub use Rattle.cli_run.specs.Ends.{HasCome, HasGrown, most_reads, Call, call}
pub use Rattle.cli_run.specs.Requests.{answer_text, named}
pub use Rattle.cli_run.specs.declared.telling.RunFault.{RunFault}
pub use Rattle.desk_client.specs.Try.{HasTalked, HasTried, HasTriedThrice, IsAnswered, IsAskedUntil, IsRefused, Talk, talk, command_head, command_lines, command_request, get_request, history_path, holder_path, key_line, most_answer, most_of, most_row_bytes, request_of, telegram_head, waybill_path, HasAsked, HasRead, HasTaken, HasUnderstood, by_time}
pub use Rattle.desk_client.specs.Whole.{before_digits, behind_digits, has_count, has_count_in, has_end, is_before_count, is_before_json_count, without, IsFrontEnd, mark_of, IsAsLong, IsCutShort, IsExtent, IsExtentOf, IsFound, IsOfRows, IsReport, IsShortBody, IsTooShort, IsWhole, IsWholeBody, has_media, most_fields}
pub use Rattle.desk_client.specs.Content.{HasAnswered, HasAnsweredInput, HasHeard, HasUnderstoodLine, body_of, is_late, service_fault, service_text}
pub use Rattle.desk_client.specs.Done.{IsOrderText, IsTextOf, agents_object, order_data, run_object, HasHeardValue, IsPosted, posted_request, request_by}
pub use Rattle.desk_client.specs.Printed.{HasPrinted, HasPrintedBody, HasPrintedFront, HasPrintedLast, HasPrintedMore, HasReadOn, HasStopped, HasTurned, IsHeld, call_ended, last_after}
pub use Rattle.desk_client.specs.declared.ask.AskFault.{AskFault}
pub use Rattle.desk_client.specs.declared.ask.Response.{Response}
pub use Rattle.desk_client.specs.declared.printing.PrintFault.{PrintFault}
pub use Rattle.desk_commands.specs.Command.{IsOrder, order_verb, word}
pub use Rattle.desk_commands.specs.declared.command.Command.TheVariants.{Stock}
pub use Rattle.desk_commands.specs.declared.verb.Verb.{Verb}
pub use Rattle.http_desk.specs.Request.{is_number, number_told, HasPath, IsPathOf, most_path, report_path, rows_path, Head, HeadAsks, IsSaid, head_asks, key_of, length_in, looks_up, place_asks, sends, sends_body, values_of, within_length, Got, Posted, gets, got_history, got_holder, got_report, got_waybill, place_of, posted_command, posted_telegram, posts}
pub use Rattle.httparse.proofs.GrammarLemmas.{ReadsResponse-append, response_prefix_free, response_unique}
pub use Rattle.httparse.specs.Grammar.{Field, ReadsRequest, ReadsResponse, RequestHead, ResponseHead, is_ows, is_value_byte, status_code}
pub use Rattle.httparse.specs.Spans.{IsResponseOf, header_bytes, name_and_value}
pub use Rattle.reports.specs.declared.layout.Form.{Form}
pub use Rattle.serde_json.specs.Data.{Data, depth}
pub use Rattle.serde_json.specs.Read.{max_depth, read}
pub use Rattle.serde_json.specs.View.{view}
pub use Rattle.station_core.specs.Ends.{HasCause, HasSent, NoneFailed, SendsLine}
pub use Rattle.station_core.specs.Given.{Given}
pub use Rattle.station_days.specs.Date.{where_true}
pub use Rattle.std.proofs.Common.{Bool, Err, IfOk, IfSome, List, None, Ok, Option, Result, Some, [], ap, append_assoc, arith, codes, decimal, drop, false, inl, inr, length, length-append, length-drop, length-take, map, refl, reverse, rules, string_bytes, subst, suc, sym, take, true, zero, ℕ, ⊎_elim, ◌++◌, ◌+◌, ◌-◌, ◌<◌, ◌^◌, ◌∙◌, ◌∷◌, ◌≡◌, ◌≤◌}
pub use Rattle.std.proofs.Math.Bool.{and-false, or-true}
pub use Rattle.std.proofs.Math.Seq.{drop-append_seam, take-append-add, take-append_seam, take-length}
pub use Rattle.std.proofs.lemmas.Bool.Decides.{nat_tests}
pub use Rattle.std.proofs.lemmas.Bool.{and_from, and_parts, le-leb, leb-true, lt-ltb, ltb-false, ltb-true}
pub use Rattle.std.proofs.lemmas.Fmt.{decimal_nonempty, length-decimal-le}
pub use Rattle.std.proofs.lemmas.List.{append-nil, append_cancel_left, length-map, nil_from_length, reverse-append, reverse-reverse, take-append-drop}
pub use Rattle.std.specs.List.{ends_with, list_all}
pub use Rattle.std.specs.Prelude.{IsErrAnd, IsUtf8, if◌then◌else◌, nat_le, nat_lt, not, option_and_then, option_map, ◌&&◌, ◌==◌, ◌||◌, ◌⊎◌}
pub use Rattle.std.specs.Str.{bytes_eq}
