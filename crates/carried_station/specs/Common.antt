-- The words of other crates that this crate's definitions and contracts cite, passed on from one
-- place. Declares nothing.
pub use Rattle.std.specs.List.{AllByRecursion, filter, find, list_any, range_with_len, sum_by}
pub use Rattle.std.specs.Option.{option_map}
pub use Rattle.std.specs.Str.{bytes_eq}
pub use Rattle.agent_stock.specs.declared.stock.Holder.{Holder}
pub use Rattle.agent_stock.specs.declared.stock.Holder.TheVariants.{Used}
pub use Rattle.awb_number.specs.Number.{number_text}
pub use Rattle.desk_commands.specs.Command.{IsCommand, command_text}
pub use Rattle.desk_commands.specs.declared.command.Command.{Command}
pub use Rattle.shipment_machine.specs.Book.{balances_of, built, has_moves, missing, pieces_of, same_place, store, tenths_of}
pub use Rattle.shipment_machine.specs.Cargo.{Cargo, IsAscending, is_in}
pub use Rattle.shipment_machine.specs.Effect.{is_closed}
pub use Rattle.shipment_machine.specs.Lawful.{departs_with}
pub use Rattle.shipment_machine.specs.declared.command.DeskCommand.{DeskCommand}
pub use Rattle.shipment_machine.specs.declared.flight.FlightDate.{FlightDate}
pub use Rattle.shipment_machine.specs.declared.moves.Declared.{Declared}
pub use Rattle.shipment_machine.specs.declared.moves.Move.{Move}
pub use Rattle.shipment_machine.specs.declared.moves.Outbound.{Outbound}
pub use Rattle.shipment_machine.specs.declared.moves.Part.{Part}
pub use Rattle.shipment_machine.specs.declared.moves.Place.{Place}
pub use Rattle.shipment_machine.specs.declared.moves.Place.TheVariants.{Built}
pub use Rattle.shipment_machine.specs.declared.notice.ManifestLine.{ManifestLine}
pub use Rattle.shipment_machine.specs.declared.notice.Notice.{Notice}
pub use Rattle.station_core.specs.Readers.{expected_for, shed_rows}
pub use Rattle.station_core.specs.Retries.{WasKept}
pub use Rattle.station_core.specs.Step.{IsLawfulState, State, repeated, step}
pub use Rattle.station_core.specs.declared.answer.Input.{Input}
pub use Rattle.station_core.specs.declared.answer.Input.TheVariants.{Keyed, Wire}
pub use Rattle.station_core.specs.declared.answer.Reply.{Reply}
pub use Rattle.station_core.specs.declared.rows.ExpectedQuery.TheVariants.{Open}
pub use Rattle.station_days.specs.Date.{LocalMinute}
pub use Rattle.telegrams.specs.Meaning.{IsMeant, Meant, notice_text}
pub use Rattle.telegrams.specs.declared.telegram.Content.{Content}
