-- The names that proofs of this crate cite, passed on from one place. Declares nothing.
pub use Rattle.shipment_machine.specs.Lawful.{StaysLawful, outcome_of}
pub use Rattle.shipment_machine.specs.Cargo.{Cargo, written, written_all}
pub use Rattle.shipment_machine.specs.Effect.{Outcome, carried_out, effect}
pub use Rattle.shipment_machine.specs.declared.plans.Change.{Change}
pub use Rattle.shipment_machine.specs.declared.plans.Plan.{Plan}
pub use Rattle.state_store.specs.Store.{Changes, StaysAtRest, Storing, Survives, at_rest, inside}
pub use Rattle.station_core.specs.Step.{Acted, IsLawfulState, State, Stepped, accepted, acted, answered, cargo_acted, first_time, has_room, keeping_text, kept_with, refused, repeated, sent, shipment_of, step, stepped, stock_acted, waybill_or_nothing, with_notices, texts_in}
pub use Rattle.station_core.specs.Keeping.{sizes_of, with_messages, with_moves, with_order}
pub use Rattle.station_core.specs.declared.answer.Input.{Input}
pub use Rattle.station_days.specs.Date.{LocalMinute}
pub use Rattle.station_engine.specs.Serving.{is_line, IfPlanned, IsAfter, IsEffect, IsNewTo, IsPlanned, Serves, with_changes, with_plan}
pub use Rattle.std.proofs.Common.{Bool, Err, IfOk, List, Ok, Result, [], ap, append-nil, arith, false, filter, get_or, inl, inr, length, map, refl, rules, subst, suc, sym, take, true, ℕ, ⊎_elim, ◌++◌, ◌+◌, ◌<◌, ◌∙◌, ◌∷◌, ◌≡◌}
pub use Rattle.std.proofs.lemmas.List.{length-append, length-map, take_more}
pub use Rattle.std.specs.Prelude.{IfErr, None, OnErr, OnOk, Option, Some, nat_le, ◌&&◌, ◌⊎◌}
pub use Rattle.telegrams.specs.Meaning.{notice_text}
