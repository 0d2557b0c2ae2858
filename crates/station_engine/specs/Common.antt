-- The words of other crates that this crate's definitions and contracts cite, passed on from one
-- place. Declares nothing.
pub use Rattle.std.specs.List.{filter}
pub use Rattle.std.specs.Option.{option_map}
pub use Rattle.agent_stock.specs.Stock.{order_refusal}
pub use Rattle.desk_commands.specs.Command.{IsCommand, command_text}
pub use Rattle.shipment_machine.specs.Lawful.{StaysLawful, outcome_of, IsLawful}
pub use Rattle.shipment_machine.specs.Cargo.{written_all}
pub use Rattle.shipment_machine.specs.Effect.{Outcome, carried_out, effect}
pub use Rattle.shipment_machine.specs.declared.plans.Change.{Change}
pub use Rattle.shipment_machine.specs.declared.plans.Change.TheVariants.{Trail}
pub use Rattle.shipment_machine.specs.declared.plans.Plan.{Plan}
pub use Rattle.shipment_machine.specs.declared.plans.Refusal.{Refusal}
pub use Rattle.state_store.specs.Store.{Changes, Commits, MayLeave, Reads, Storing, at_rest}
pub use Rattle.station_core.specs.Keeping.{Acts, Breaks, FindsOnly, IfWorks, Keeping, KeepsPremise, Leaves, Reopens, kept_of, on_cargo, sizes_of, with_messages, with_moves}
pub use Rattle.station_core.specs.Step.{IsLawfulState, State, acted, cargo_acted, has_room, kept_with, key_answer, most_rows, repeated, sent, step, stock_acted, text_answer, texts_in}
pub use Rattle.station_core.specs.declared.answer.Answer.{Answer}
pub use Rattle.station_core.specs.declared.answer.Input.{Input}
pub use Rattle.station_core.specs.declared.answer.Input.TheVariants.{Keyed, Wire}
pub use Rattle.station_days.specs.Date.{LocalMinute}
pub use Rattle.telegrams.specs.Meaning.{notice_text}
