-- The names that proofs of this crate cite, passed on from one place. Declares nothing.
pub use Rattle.agent_stock.specs.declared.stock.Order.{Order}
pub use Rattle.cli_run.specs.Lines.{IsActAsked, kept, most_line, HasAnsweredLine, HasAnswered, HasAnsweredAsked, HasNotReceived, HasReceived, HasToldUnread, asked_by, row_asks, Row, bad_line, input_of, row_head, stock_rows, HasAnsweredAsks, HasAnsweredRow}
pub use Rattle.cli_run.specs.Ends.{HasCome, HasGrown, IsWithin, most_come, most_read, Call, Ends, call, call_to, ends}
pub use Rattle.cli_run.specs.Requests.{HasToldPart, IsAnswered, IsStopped, IsReadersFault, IsShutAfter, Kept, kept_by, reader_fault, run_fault, told_by, IsCommandAsked, IsTelegramAsked, asked_after, numbered}
pub use Rattle.cli_run.specs.Seen.{HasExplained, HasGivenReason, HasToldWhy, asked_unread, is_command, reason_head, telegram_head, HasSeen, HasStoppedLook, IsSeen, has_reason}
pub use Rattle.cli_run.specs.Done.{AreAnswered, AreFirst, AreMade, HasEndedAt, HaveBeenAnswered, HaveBeenMade, in_front, kept_lines, lines_of, HasTakenNext}
pub use Rattle.cli_run.specs.declared.telling.RunFault.{RunFault}
pub use Rattle.cli_run.specs.declared.request.Request.{Request}
pub use Rattle.csv.specs.Reading.{AreRecords, ReadRecord, Ready, default_config, records, source_of, strip_bom}
pub use Rattle.csv.specs.Records.{fields_of}
pub use Rattle.imp_fields.specs.Fields.{most_bytes}
pub use Rattle.input_reasons.specs.Reason.{HasReason, is_unread, numbered_head}
pub use Rattle.serde_json.specs.Data.{Data, string}
pub use Rattle.serde_json.specs.View.{members_view, view}
pub use Rattle.station_core.proofs.Premise.{kept_at, kept_on}
pub use Rattle.station_core.specs.Ends.{HasCause, HasSent, NoneFailed, ReadStep}
pub use Rattle.station_core.specs.Given.{Given}
pub use Rattle.station_core.specs.Keeping.{Answers, IsBrokenAfter, IsMemoryOrStore, Keeping, MayLeave, OnlyReads, StaysInService}
pub use Rattle.station_core.specs.Step.{State, after_all, answers_of, step}
pub use Rattle.station_core.specs.declared.answer.ActFault.{ActFault}
pub use Rattle.station_core.specs.declared.answer.Input.{Input}
pub use Rattle.station_days.specs.Date.{LocalMinute}
pub use Rattle.std.proofs.BufReadLemmas.{Consumes_shown, Consumes_through, drop_through-append, take_through-append, take_through-nil}
pub use Rattle.std.proofs.Common.{All, Bool, Err, Fits, IfSome, IsSome, IsTrue, List, None, Ok, OnSome, Option, Result, Some, String, [], ap, ap₂, arith, cond, false, get_or, inl, inr, is_some, le_refl, length, map, refl, rules, subst, suc, sym, take, take_all, true, w64, zero, ℕ, ⊎_elim, ◌++◌, ◌+◌, ◌-◌, ◌<◌, ◌==◌, ◌∙◌, ◌∷◌, ◌≡◌, ◌≢◌, ◌≤◌}
pub use Rattle.std.proofs.Math.Seq.{take-append-add, take-append_seam, take-length}
pub use Rattle.std.proofs.lemmas.Bool.{false≢true}
pub use Rattle.std.proofs.lemmas.List.{append-nil, append_assoc, length-append, take-append-le}
pub use Rattle.std.specs.Io.BufRead.{DropsConsumable, DropsThrough, FillKeeps, drop_through, take_through}
pub use Rattle.std.specs.Io.KnownBytes.{Consumes, IsAtEnd, Keeps}
pub use Rattle.std.specs.List.{AllByRecursion, list_all}
pub use Rattle.std.specs.Prelude.{IfErr, IfOk, OnOk, codes, option_map, string_bytes, ◌&&◌, ◌^◌, ◌⊎◌}
pub use Rattle.std.specs.Result.{IsErrAnd}
