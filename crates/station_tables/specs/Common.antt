-- The words of other crates that this crate's definitions and contracts cite, passed on from one
-- place. Declares nothing.
pub use Rattle.std.specs.List.{AllByRecursion, flat_map}
pub use Rattle.row_codec.specs.Stored.{Means, meaning_of}
pub use Rattle.shipment_machine.specs.Laws.{AreBalances, IsConserved}
pub use Rattle.sqlite.specs.Effect.{Database}
pub use Rattle.sqlite.specs.Held.{Held, state}
pub use Rattle.sqlite.specs.State.{HasCleanDisk, Survives}
pub use Rattle.sqlite.specs.Tree.{Trees}
pub use Rattle.sqlite_trees.specs.declared.store.Store.{Ghosts}
pub use Rattle.state_store.specs.Store.{at_rest}
pub use Rattle.station_core.specs.Keeping.{Acts, Answers, Breaks, FindsOnly, IfSound, IfWorks, IsAfterAnswered, IsBrokenAtEnd, IsMemoryOrReopen, IsMemoryOrStore, Keeping, Leaves, MayLeave, Reopens}
pub use Rattle.station_core.specs.Retries.{AreInputs, ActsOnce, RetryEvent, committed, cut_after, cut_before, reopened, sent, started}
pub use Rattle.station_core.specs.Step.{IsLawfulState, State, after_all, answers_of, opening, repeated, step}
pub use Rattle.station_core.specs.declared.answer.ActFault.{ActFault}
pub use Rattle.station_core.specs.declared.answer.Answer.{Answer}
pub use Rattle.station_core.specs.declared.answer.Answer.TheVariants.{Done}
pub use Rattle.station_core.specs.declared.answer.Reply.{Reply}
pub use Rattle.station_core.specs.declared.answer.Input.{Input}
pub use Rattle.station_days.specs.Date.{LocalMinute}
pub use Rattle.station_rows.specs.Meant.{are_declared}
pub use Rattle.station_rows.specs.Shown.{rows_view}
pub use Rattle.station_schema.specs.Schema.{IsOneStep, IsSettled, IsUndone, Reads, takes_name, station_schema}
pub use Rattle.station_schema.specs.Connection.{IsVacant, connection_view, IsOldOwn, IsOwn, LiesInOrder}
pub use Rattle.station_schema.specs.Store.{IsUnchanged, View}
pub use Rattle.station_schema.specs.Tables.{IsOldStation, IsStation, Tables, tables_of}
pub use Rattle.table_audits.specs.Verdict.{IsStationOf, IsUnfit, Tells}
pub use Rattle.table_audits.specs.declared.name.TableName.{TableName}
pub use Rattle.table_audits.specs.declared.name.TableName.TheVariants.{Waybill, Waybill2}
pub use Rattle.table_audits.specs.declared.state.FoundState.{FoundState}
pub use Rattle.table_audits.specs.declared.rows.Unfit.{Unfit}
pub use Rattle.table_load.specs.Held.{Reading, read_as}
pub use Rattle.table_load.specs.Upgrade.{MeansUpgraded}
pub use Rattle.table_load.specs.declared.station.FileVersion.{FileVersion}
pub use Rattle.table_load.specs.declared.station.FileVersion.TheVariants.{First, Second}
pub use Rattle.table_state.specs.Shown.{IsFileOf, HasThese, IfGivenBack, Knows}
pub use Rattle.station_tables.specs.declared.attaching.AttachFault.{AttachFault}
pub use Rattle.station_tables.specs.declared.station.Station.{Station}
