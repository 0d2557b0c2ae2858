-- The words of other crates that this crate's definitions and contracts cite, passed on from one
-- place. Declares nothing.
pub use Rattle.std.specs.Fmt.{signed_decimal}
pub use Rattle.std.specs.List.{AllByRecursion}
pub use Rattle.cli_run.specs.Done.{HasDone, AsksAt, HasLeft, HasGivenReasons, HasSaid, IfAnswers, answers_inputs, Turn, turns_inputs, turns_text}
pub use Rattle.cli_run.specs.Ends.{Ends, Reached, ends, reached, here_of, is_migration, is_new}
pub use Rattle.cli_run.specs.declared.telling.RunFault.{RunFault}
pub use Rattle.cli_words.specs.declared.line.Line.{Line}
pub use Rattle.cli_words.specs.declared.line.LineCommand.{LineCommand}
pub use Rattle.desk_server.specs.Served.{AreAskedBy, HasServedInputs, WasWritten, Exchange, GoesOn, HaveServed}
pub use Rattle.desk_server.specs.declared.server.ServerFault.{ServerFault}
pub use Rattle.line_opening.specs.Opened.{HasOpened}
pub use Rattle.reports.specs.Reports.{program_version}
pub use Rattle.sqlite.specs.Held.{Held, state}
pub use Rattle.sqlite.specs.State.{IsLive, Opens}
pub use Rattle.sqlite_trees.specs.declared.schema.Object.{Object}
pub use Rattle.sqlite_trees.specs.declared.store.Store.{Ghosts}
pub use Rattle.station_core.specs.Ends.{HasCause, HasSent, NoneFailed, OneFailed, SendsLine, BeginsWith, begun, taken_of}
pub use Rattle.station_core.specs.Given.{Given}
pub use Rattle.station_core.specs.Keeping.{Keeping, OnlyReads, StaysInService}
pub use Rattle.station_core.specs.Retries.{ActsOnce, RetryEvent, committed, cut_after, reopened, sent, started}
pub use Rattle.station_core.specs.Step.{IsLawfulState, State, after_all, opening}
pub use Rattle.station_core.specs.declared.answer.Input.{Input}
pub use Rattle.station_days.specs.Date.{LocalMinute}
pub use Rattle.station_files.specs.Backing.{Backing, EndsLeadOn, HasEnded, own_files, whole_files}
pub use Rattle.station_schema.specs.Connection.{new_station, IsVacant, IsOldOwn, LiesInOrder}
pub use Rattle.station_schema.specs.Schema.{station_schema}
pub use Rattle.station_tables.specs.Attached.{IsOldStateIn}
pub use Rattle.station_tables.specs.Called.{HasMoved, HasReleased}
pub use Rattle.station_tables.specs.Lives.{IsAfterLife, IsAfterLives, Life}
pub use Rattle.station_tables.specs.declared.attaching.AttachFault.{AttachFault}
pub use Rattle.station_tables.specs.declared.station.Station.{Station}
pub use Rattle.table_audits.specs.Verdict.{name_text}
pub use Rattle.cli_call.specs.declared.ended.DeskFault.{DeskFault}
pub use Rattle.cli_call.specs.declared.run.FileEnd.{FileEnd}
