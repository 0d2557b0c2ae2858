-- The names that proofs of this crate cite, passed on from one place. Declares nothing.
pub use Rattle.agent_stock.specs.declared.stock.Order.TheVariants.{GiveBack, Issue, TakeIn, Void}
pub use Rattle.agent_stock.specs.declared.stock.Order.{Order}
pub use Rattle.desk_commands.specs.Command.{IsDeskCommand, command_text}
pub use Rattle.imp_fields.specs.Fields.{Designator, flight_text}
pub use Rattle.shipment_machine.specs.Cargo.{Cargo, same_part, written, written_all}
pub use Rattle.shipment_machine.specs.declared.command.DeskCommand.TheVariants.{Confirm}
pub use Rattle.shipment_machine.specs.declared.command.DeskCommand.{DeskCommand}
pub use Rattle.shipment_machine.specs.declared.command.InboundLine.{InboundLine}
pub use Rattle.shipment_machine.specs.declared.flight.FlightDate.{FlightDate}
pub use Rattle.shipment_machine.specs.declared.moves.Place.TheVariants.{Free, Hand}
pub use Rattle.shipment_machine.specs.declared.plans.Refusal.{Refusal}
pub use Rattle.station_core.specs.Keeping.{KeepsSound}
pub use Rattle.station_core.specs.Readers.{is_key, is_key_byte, AreExpectations, asked_of, asks_for, book_by, book_rows, by_expectation, by_flight, expected_for, irregular_rows, pending_messages, shed_rows, trail_by, waybill_of}
pub use Rattle.station_core.specs.Retries.{AreInputs, IsContent, IsInboundLine, IsInput}
pub use Rattle.station_core.specs.Step.{Acted, IsLawfulState, State, Stepped, accepted, acted, after_all, answered, answers_of, cargo_acted, first_time, has_room, keeping_text, kept_with, key_answer, opening, refused, repeated, sent, shipment_of, step, stepped, stock_acted, text_answer, with_notices, refusal_text, reply_text, texts_in}
pub use Rattle.station_core.specs.declared.answer.Answer.TheVariants.{Done, Refused}
pub use Rattle.station_core.specs.declared.answer.Answer.{Answer}
pub use Rattle.station_core.specs.declared.answer.Input.TheVariants.{Keyed, Wire}
pub use Rattle.station_core.specs.declared.answer.Input.{Input}
pub use Rattle.station_core.specs.declared.rows.Expectation.{Expectation}
pub use Rattle.station_days.specs.Date.{LocalMinute}
pub use Rattle.std.proofs.Common.{Bool, Err, IfOk, IfSome, IsSome, List, None, Ok, Option, Result, Some, [], ap, arith, cond, false, get_or, length, nat_le, refl, subst, sym, take, true, ℕ, ◌*◌, ◌++◌, ◌+◌, ◌<◌, ◌∙◌, ◌∷◌, ◌≡◌, ◌≤◌}
pub use Rattle.std.proofs.lemmas.Bool.Decides.{nat_tests}
pub use Rattle.std.proofs.lemmas.List.{length-append, length-drop, length-take-le, map_more, take_all, take_more}
pub use Rattle.std.specs.Bool.{if◌then◌else◌}
pub use Rattle.std.specs.List.{AllByRecursion, filter, find, flat_map, list_all, list_any}
pub use Rattle.std.specs.Ordering.{is_lt, ordering_reverse}
pub use Rattle.std.specs.Prelude.{IsTrue, codes, is_some, map, not, ⊤, ◌&&◌, ◌==◌}
pub use Rattle.std.specs.Str.{IsAscii, bytes_eq}
pub use Rattle.std.specs.declared.cmp.Ordering.TheVariants.{Equal, Greater, Less}
pub use Rattle.std.specs.declared.cmp.Ordering.{Ordering}
pub use Rattle.telegrams.specs.Meaning.{notice_text}
pub use denote.RattleType.{RattleType, Valss, owns}
pub use denote.Steps.{nothing}
pub use mir.Val.{Val, vnil, vptr, vstruct}
pub use seplogic.Ra.Ura.{Ura}
pub use types.Kit.{ !, Goal, Item, Step, done, drop, feq_i, feq_l, fjoin, fpack, fsplit, keep, move, prop, qed, raw, regoal, split, suffices, ‵, ◌$◌, ◌∵◌, ◌⊛◌}
pub use types.Logic.{Logic}
