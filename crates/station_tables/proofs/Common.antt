-- The names that proofs of this crate cite, passed on from one place. Declares nothing.
pub use Rattle.row_codec.specs.Stored.{IsReadable, Means, meaning_of}
pub use Rattle.shipment_machine.proofs.Conserved.{is_conserved}
pub use Rattle.shipment_machine.proofs.Shown.{are_balances}
pub use Rattle.sqlite.specs.Effect.{Database}
pub use Rattle.sqlite.specs.Held.{state}
pub use Rattle.sqlite.specs.State.{HasCleanDisk, Survives}
pub use Rattle.sqlite.specs.Tree.{Trees}
pub use Rattle.station_core.specs.Keeping.{Answers, IsAfterAnswered, MayLeave}
pub use Rattle.station_core.specs.Step.{IsLawfulState, State, after_all, answered, opening, repeated, step, stepped}
pub use Rattle.station_core.specs.declared.answer.Input.{Input}
pub use Rattle.station_days.specs.Date.{LocalMinute}
pub use Rattle.station_rows.specs.Meant.{are_declared}
pub use Rattle.station_rows.specs.Shown.{rows_view}
pub use Rattle.station_schema.specs.Connection.{connection_view, view_of, IsOldOwn, IsOwn, LiesInOrder}
pub use Rattle.station_schema.specs.Schema.{IsSettled, IsUndone, Reads, Stops}
pub use Rattle.station_schema.specs.Store.{IsUnchanged, View}
pub use Rattle.station_schema.specs.Tables.{IsOldStation, IsStation, Message, Tables, old_tables_of, tables_of, upgraded}
pub use Rattle.station_tables.specs.Attached.{IsBreakdown, IsFoundIn, IsJudged, IsOldStateIn, IsStateIn, IsStateOf, IsTypedState, Refuses, RefusesAs, connection_in, Finds}
pub use Rattle.station_tables.specs.contracts.station.StationKeeper.TheImpl.{ghosts}
pub use Rattle.station_tables.specs.declared.attaching.AttachFault.{AttachFault}
pub use Rattle.std.proofs.Common.{Bool, Err, List, None, Ok, Option, Result, Some, [], ap, arith, false, inl, inr, refl, rules, subst, suc, sym, take, true, zero, ℕ, ⊎_elim, ◌++◌, ◌+◌, ◌↔◌, ◌∙◌, ◌∷◌, ◌≡◌, ◌≢◌, ◌≤◌, ◌⊎◌}
pub use Rattle.std.specs.Prelude.{IfErr, IfOk, IsTrue, if◌then◌else◌, not}
pub use Rattle.table_audits.proofs.Declared.{each_lawful, old_same_tables, same_tables}
pub use Rattle.table_audits.specs.Verdict.{IsUnfit, Judges, Tells}
pub use Rattle.table_audits.specs.declared.state.FoundState.{FoundState}
pub use Rattle.table_audits.specs.declared.rows.Unfit.{Unfit}
pub use Rattle.table_load.specs.Held.{Reading, read_as}
pub use Rattle.table_load.specs.declared.station.FileVersion.TheVariants.{First, Second}
