-- The names that proofs of this crate cite, passed on from one place. Declares nothing.
pub use Rattle.awb_number.proofs.Padded.{decimal_value-last, digits-padded, length-padded}
pub use Rattle.awb_number.specs.Number.{decimal_value, is_digit, is_letter_or_digit, padded, IsNumber, check_digit, number_of, number_text, prefix_of, serial_of}
pub use Rattle.desk_commands.proofs.Words.{called_again, called_is, of_every}
pub use Rattle.desk_commands.proofs.Written.{told}
pub use Rattle.desk_commands.specs.Command.{verb_called, word}
pub use Rattle.desk_commands.specs.declared.verb.Verb.{Verb}
pub use Rattle.http_desk.specs.Reply.{Answers, HasHead, IsAnsweredAs, Replied, SendsWhole, head_of, head_room, most_fields, HasCome, HasEndedAfter, HasEndedEarly, HasGrown, HasMore, HasNoHead, HasNoHeadYet, IsHistory, IsWritten, Reply, answer_reply, body_reply, body_state, fault_reply, got_reply, history_of, holder_data, holder_reply, holding_data, json_answer, json_reply, look_reply, numbered, ok_answer, ok_data, pair_data, refusal_reply, refusal_status, refused_data, report_head, status_line, unknown, waybill_data, waybill_reply, BeginsAs200, BeginsAs503, GetsReport, HasServed, HasServedShut, IsAfterStep, IsAnswer, IsBeginning, IsPartOut, IsPosted, IsUnchangedOrBroken, IsUnfinished, LacksBody, SomeOrEach, StopsServing, added, unavailable, StationAfter, WorksAt, station_after, station_at, HasAsked, HasAskedShut, IsHistoryTold, IsToldAs, IsUnavailable, TellsHistory, tells_reopen, BodyWants, HasWants, Wants, WantsNow, posted_of, wanted_reply, wanted_state, HasBegun, HasReported, HasSent, HasWritten, HasWrittenShut, IsToldFor, IsToldShut}
pub use Rattle.http_desk.specs.Came.{BeginsWith, HasBody, HasPartBody}
pub use Rattle.http_desk.specs.Request.{is_number, number_told, meant, HasPath, IsListed, IsName, IsPage, IsPath, IsPathOf, LeadsTo, LeadsToPage, is_path_byte, listing_path, rows_path, rows_segments, segments, IsPrinted, as_text, flight_on, in_form, is_json, numbered_rows, printout_at, row_number, rows_at, rows_named, rows_part, rows_word, waybill_rows, BodyAsks, Fault, Head, HeadAsks, IsAskedUnder, IsCheckAsked, IsSaid, bad_body, bad_data, body_length, fault, for_station, good_data, head_asks, is_foreign, is_named, key_of, length_among, length_beside, looks_at, looks_up, misread_data, misreads, IsMisread, own_asks, place_asks, refuses, sends, sends_body, unreadable, values_of, within_length, wrong_method, Got, Place, Posted, asked_place, gets, got_history, got_holder, got_report, got_waybill, is_dry, page_at, page_named, page_part, page_word, path_of, place_of, place_told, posted_check, posted_command, posted_look, posted_telegram, posts, by_segments, by_slash, has_slash, is_slash, joined, path_text}
pub use Rattle.http_desk.specs.Keys.{and_then, decoded, escaped_byte, is_unescaped, key_in, key_segment, printed_byte}
pub use Rattle.http_desk.specs.declared.asking.Response.{Response}
pub use Rattle.http_desk.specs.declared.serve.FaultTold.{FaultTold}
pub use Rattle.http_desk.specs.declared.printout.Printout.{Printout}
pub use Rattle.http_desk.specs.declared.serve.ServeFault.{ServeFault}
pub use Rattle.http_desk.specs.declared.serve.Served.{Served}
pub use Rattle.http_desk.specs.declared.wanted.HeadWants.{HeadWants}
pub use Rattle.http_desk.specs.declared.wanted.Wanted.{Wanted}
pub use Rattle.httparse.proofs.GrammarLemmas.{ReadsRequest-append, print_request-append, request_unique}
pub use Rattle.httparse.specs.Grammar.{Field, HasNoRequest, ReadsRequest, RequestHead, print_blank, print_request}
pub use Rattle.httparse.specs.Spans.{IsRequestAt, IsRequestWithin, RequestOverflows, header_bytes, name_and_value}
pub use Rattle.httparse.specs.declared.spans.HeaderSpan.{HeaderSpan}
pub use Rattle.imp_fields.proofs.SameFlight.{bytes_eq-true}
pub use Rattle.reports.specs.Passes.{HasEndedBy, HasTold, HaveGone, IsBegun, IsCause, StopsBy}
pub use Rattle.reports.specs.declared.report.ReportCause.{ReportCause}
pub use Rattle.serde_json.specs.Data.{boolean, string}
pub use Rattle.serde_json.specs.View.{view}
pub use Rattle.serde_json.specs.Written.{compact_text}
pub use Rattle.serde_json.specs.declared.value.Value.{the_lemmas}
pub use Rattle.shipment_machine.specs.declared.plans.Refusal.{Refusal}
pub use Rattle.station_core.specs.Ends.{HasCause, NoneFailed, OneFailed, Sent}
pub use Rattle.station_core.specs.Given.{Given}
pub use Rattle.station_core.specs.Keeping.{IsBrokenAfter, IsMemoryOrStore, IsReadersFault, Keeping, MayLeave, OnlyReads}
pub use Rattle.station_core.specs.Readers.{is_key, is_key_byte}
pub use Rattle.station_core.specs.Step.{State, accepted, after_all, opening, step}
pub use Rattle.station_core.specs.declared.answer.ActFault.{ActFault}
pub use Rattle.station_core.specs.declared.answer.Input.{Input}
pub use Rattle.station_core.specs.declared.rows.Waybill.{Waybill}
pub use Rattle.station_days.specs.Date.{LocalMinute, date_on, year_of, where_true}
pub use Rattle.std.proofs.Common.{Bool, Err, IsTrue, List, None, Ok, Option, Result, Some, [], ap, append_assoc, arith, cond, decimal, drop, inl, inr, length, length-append, map, refl, rules, set, subst, suc, sym, take, true, ℕ, ⊎_elim, ◌%◌, ◌*◌, ◌++◌, ◌+◌, ◌-◌, ◌/◌, ◌<◌, ◌^◌, ◌∙◌, ◌∷◌, ◌≡◌, ◌≤◌}
pub use Rattle.std.proofs.Math.Seq.{drop-append_seam, take-append-add, take-append_seam, take-length}
pub use Rattle.std.proofs.lemmas.Bool.Decides.{nat_tests}
pub use Rattle.std.proofs.lemmas.Bool.{agree_below_at, and_from, and_parts, cases_Bool, cond-false, le-leb, leb-true, lt-ltb, ltb-true}
pub use Rattle.std.proofs.lemmas.Fmt.{decimal_by_steps, decimal_nonempty, length-decimal-le}
pub use Rattle.std.proofs.lemmas.List.Folds.{list_all-append}
pub use Rattle.std.proofs.lemmas.List.{length-drop, length-map, length-take, length-take-le, take-append-drop, take_all, take_more_set}
pub use Rattle.std.specs.Char.{digit_value, is_ascii_graphic}
pub use Rattle.std.specs.Fmt.{digit_glyph}
pub use Rattle.std.specs.List.{after_first, before_first, flat_map, list_all, position_or_len}
pub use Rattle.std.specs.Prelude.{IfOk, IfSome, MatchResult, codes, false, if◌then◌else◌, nat_le, nat_lt, not, option_and_then, option_map, string_bytes, ◌&&◌, ◌==◌, ◌||◌, ◌↔◌, ◌⊎◌}
pub use Rattle.std.specs.Result.{IsErrAnd, result_ok}
pub use Rattle.std.specs.Str.{bytes_eq}
