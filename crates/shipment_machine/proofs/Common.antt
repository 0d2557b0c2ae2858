-- The names that proofs of this crate cite, passed on from one place. Declares nothing.
pub use Rattle.agent_stock.specs.declared.stock.Holder.{Holder}
pub use Rattle.imp_fields.proofs.ShareLemmas.{share_heavy, share_leaves}
pub use Rattle.imp_fields.specs.Fields.{book_weight_of, share_of, is_line}
pub use Rattle.shipment_machine.specs.Lawful.{AreRowsOf, AreSound, FitsCommand, IsAnswer, IsOnBoard, IsViewOf, RefusesAs, StaysLawful, meant_by, outcome_of, rows_answer, rows_for, view_of, HasPieces, IsCovered, IsLawful, IsLawfulAmount, IsLawfulMove, IsNoted, IsProper, IsStocked, NamesFlight, StaysDeparted, builds_on, departs_with, is_outside, is_pair}
pub use Rattle.shipment_machine.specs.Book.{IsHeld, amount, amount_text, fits, less, part, pieces_word, plus, balances_of, brings, built, delivered, departed, drawn, found, free, has_moves, held, in_store, missing, moved_in, moved_out, pieces_of, put_rising, same_place, store, taken, taken_and_found, takes, tenths_of, transferred, waybills_of, waybills_on, same_flight_date}
pub use Rattle.shipment_machine.specs.Announced.{Earlier, announced_changes, changes_now, expected_now, expected_so_far, is_new, no_earlier, part_key, refusal_now, with_line}
pub use Rattle.shipment_machine.specs.Cargo.{Cargo, opening_cargo, written, written_all, is_in, declaration, declaration_view, line_view_of, loads_of, rows_of, undeclared}
pub use Rattle.shipment_machine.specs.Effect.{Outcome, all_pieces, announced, announcing, booked, carried_out, check_in_moves, counted_in, counted_more, dated, decided, declare, declared_by, declaring, depart_moves, effect, expected_after, expected_amount, first_refusal, inbound_flight, inbound_part, is_closed, is_day, line_changes, line_refusals, lines_changes, lines_for, manifest_line, move_of, reads, row_changes, row_refusals, rule, status_of, struck, surplus, then_write, uncounted, unless_refused, unload_of}
pub use Rattle.shipment_machine.specs.Laws.{AreBalances, BalancesAgree, CameFrom, IsBalance, IsConserved, KeepsLawful, balance_at}
pub use Rattle.shipment_machine.specs.declared.moves.Amount.{Amount}
pub use Rattle.shipment_machine.specs.declared.command.CargoLine.{CargoLine}
pub use Rattle.shipment_machine.specs.declared.command.InboundLine.{InboundLine}
pub use Rattle.shipment_machine.specs.declared.command.InboundPart.{InboundPart}
pub use Rattle.shipment_machine.specs.declared.command.ShipmentCommand.{ShipmentCommand}
pub use Rattle.shipment_machine.specs.declared.flight.FlightDate.{FlightDate}
pub use Rattle.shipment_machine.specs.declared.moves.Declared.{Declared}
pub use Rattle.shipment_machine.specs.declared.moves.Expected.{Expected}
pub use Rattle.shipment_machine.specs.declared.moves.Move.{Move}
pub use Rattle.shipment_machine.specs.declared.moves.Outbound.{Outbound}
pub use Rattle.shipment_machine.specs.declared.moves.Part.{Part}
pub use Rattle.shipment_machine.specs.declared.moves.Place.TheVariants.{Built, Delivered, Departed, Free, Hand, Missing, Surplus, Transferred}
pub use Rattle.shipment_machine.specs.declared.moves.Place.{Place}
pub use Rattle.shipment_machine.specs.declared.plans.Change.TheVariants.{Declare, Expect, NoteFlight, NotePart, Trail, UseUp}
pub use Rattle.shipment_machine.specs.declared.plans.Change.{Change}
pub use Rattle.shipment_machine.specs.declared.plans.Plan.{Plan}
pub use Rattle.shipment_machine.specs.declared.plans.PlanFault.{PlanFault}
pub use Rattle.shipment_machine.specs.declared.plans.Refusal.{Refusal}
pub use Rattle.shipment_machine.specs.declared.view.FlightLoad.{FlightLoad}
pub use Rattle.shipment_machine.specs.declared.view.LineView.{LineView}
pub use Rattle.station_days.specs.Date.{IsMomentDay, LocalMinute, is_moment_day, resolved}
pub use Rattle.std.proofs.Common.{All, Bool, Err, IfSome, IsSome, List, None, Ok, Option, Result, Some, [], add-one, ap, append_assoc, arith, drop, drop-cons, false, get_or, inl, inr, length, max, min, nat_eq, nat_le, nat_lt, not, refl, subst, suc, sym, take, true, true≢false, zero, zero-add, ℕ, ◌%◌, ◌&&◌, ◌*◌, ◌++◌, ◌+◌, ◌-◌, ◌/◌, ◌<◌, ◌==◌, ◌||◌, ◌∙◌, ◌∷◌, ◌≡◌, ◌≢◌, ◌≤◌, ◌⊎◌}
pub use Rattle.std.proofs.lemmas.Bool.Decides.{nat_tests}
pub use Rattle.std.proofs.lemmas.Bool.{and_from, and_parts, eq-eqb, eqb-true, le-leb, leb-false, leb-true, ltb-false, ltb-true}
pub use Rattle.std.proofs.lemmas.Int.{ints}
pub use Rattle.std.proofs.lemmas.List.Elements.{All-cons, All-more, recursion_from_All}
pub use Rattle.std.proofs.lemmas.List.Folds.{list_any-append}
pub use Rattle.std.proofs.lemmas.List.Sums.{sum_by-append, sum_by-cons, sum_by_push}
pub use Rattle.std.proofs.lemmas.List.{append-nil, length-map}
pub use Rattle.std.specs.Bool.{if◌then◌else◌}
pub use Rattle.std.specs.HashMap.{get}
pub use Rattle.std.specs.List.{AllByRecursion, filter, flat_map, list_all, list_any, range_with_len, sum_by}
pub use Rattle.std.specs.Option.{unwrap_or}
pub use Rattle.std.specs.Prelude.{IfErr, IfOk, IsTrue, codes, decimal, is_none, is_some, map, neg_ℤ, pos, ◌-ℤ◌, ◌↔◌}
pub use Rattle.std.specs.Str.{bytes_eq}
