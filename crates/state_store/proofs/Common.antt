-- The names that proofs of this crate cite, passed on from one place. Declares nothing.
pub use Rattle.agent_stock.specs.Stock.{AreStockRuns, IsNoneFrom, with_run, Holders, assigned, covers, lowest_failing, passes}
pub use Rattle.agent_stock.specs.declared.runs.StockRun.{StockRun}
pub use Rattle.agent_stock.specs.declared.stock.Holder.TheVariants.{Desk, Used, Void}
pub use Rattle.agent_stock.specs.declared.stock.Holder.{Holder}
pub use Rattle.imp_fields.proofs.SameFlight.{bytes_eq-refl, bytes_eq-true, one_by_text}
pub use Rattle.shipment_machine.proofs.FlightKeys.{same-is, same-refl}
pub use Rattle.shipment_machine.specs.Book.{amount, less, balances_of, brings, built, delivered, departed, found, free, has_moves, missing, moved_in, moved_out, pieces_of, same_place, store, taken, taken_and_found, takes, tenths_of, transferred, waybills_of, waybills_on, same_flight_date}
pub use Rattle.shipment_machine.specs.Cargo.{Cargo, same_part, written, declaration, line_view_of}
pub use Rattle.shipment_machine.specs.Effect.{is_day}
pub use Rattle.shipment_machine.specs.declared.moves.Amount.{Amount}
pub use Rattle.shipment_machine.specs.declared.flight.FlightDate.{FlightDate}
pub use Rattle.shipment_machine.specs.declared.moves.Declared.{Declared}
pub use Rattle.shipment_machine.specs.declared.moves.Expected.{Expected}
pub use Rattle.shipment_machine.specs.declared.moves.Move.{Move}
pub use Rattle.shipment_machine.specs.declared.moves.Part.{Part}
pub use Rattle.shipment_machine.specs.declared.moves.Place.TheVariants.{Built, Delivered, Departed, Free, Hand, Missing, Surplus, Transferred}
pub use Rattle.shipment_machine.specs.declared.moves.Place.{Place}
pub use Rattle.shipment_machine.specs.declared.plans.Change.TheVariants.{Declare, Expect, NoteFlight, NotePart, Trail, UseUp}
pub use Rattle.state_store.specs.Asked.{first_line, first_movement, if_line, if_movement, is_movement_of, aboard_of, part_rows_on}
pub use Rattle.state_store.specs.Store.{Lines, line_of, lines_in, no_lines, same_line, with_line, by_key, key_total, drawn_of, flow_of, flow_with, held_of, more, still, announced_by, asked_by, loaded, cargo_of, declared_in, flights_in, part_of, parts_in, trail_in, trail_line, named_by, with_numbers, Shows, in_memory, state_of, holders_of, nobody, MayLeave, Reads, ReadsAtRest, Says, Storing, Survives, at_rest, IsSummed, IsWaybillSummed, flow_at, flow_by, flow_in, flows_of, flows_with, no_flows, asked, is_asked_for, waybills_for, with_balances}
pub use Rattle.state_store.specs.declared.flight_key.FlightKey.{FlightKey}
pub use Rattle.state_store.specs.declared.maps.flow.Flow.{Flow}
pub use Rattle.state_store.specs.declared.maps.state.MapState.{MapState}
pub use Rattle.state_store.specs.declared.maps.waybill_flows.WaybillFlows.{WaybillFlows}
pub use Rattle.state_store.specs.declared.viewing.WaybillQuery.TheVariants.{Irregular, Stored}
pub use Rattle.state_store.specs.declared.viewing.WaybillQuery.{WaybillQuery}
pub use Rattle.station_core.proofs.Mapped.{map_twice, mapped}
pub use Rattle.station_core.specs.Readers.{AreAnnounced, AreExpectations, AreNoted, book_row, by_expectation, by_flight, expected_for, expected_row, flight_row, has_come, irregular_row, is_in_shed, is_irregular, last_of, lines_for, message, movements_for, numbered, shed_row, told_of, trail_row}
pub use Rattle.station_core.specs.Step.{State, has_room, keeping, keeping_text, sent, texts_in}
pub use Rattle.station_core.specs.Keeping.{irregular_by, kept_of, load_on, loads_on, on_cargo, shed_by, stored_of, with_key, with_text}
pub use Rattle.station_core.specs.declared.rows.Expectation.{Expectation}
pub use Rattle.station_core.specs.declared.stored.KeptReply.{KeptReply}
pub use Rattle.station_core.specs.declared.stored.Load.{Load}
pub use Rattle.std.proofs.Common.{All, Bool, Equal, Greater, IfSome, IsSome, Less, List, None, Ordering, Some, [], ap, append-nil, append_assoc, arith, cond, drop, false, get_or, inl, inr, is_eq, is_some, length, min, nat_eq, nat_le, nat_lt, not, refl, rules, subst, suc, sym, take, true, true≢false, zero, ℕ, ◌%◌, ◌&&◌, ◌*◌, ◌++◌, ◌+◌, ◌-◌, ◌<◌, ◌==◌, ◌||◌, ◌∙◌, ◌∷◌, ◌≡◌, ◌≤◌, ◌⊎◌}
pub use Rattle.std.proofs.lemmas.Bool.Decides.{nat_tests}
pub use Rattle.std.proofs.lemmas.Bool.{and_from, and_parts, cases_lt, cond-false, cond-true, eq-eqb, eqb-true}
pub use Rattle.std.proofs.lemmas.Grind.{common_steps}
pub use Rattle.std.proofs.lemmas.List.Concat.{flat_map-cons}
pub use Rattle.std.proofs.lemmas.List.{drop_all, drop_more, length-append, take_more}
pub use Rattle.std.proofs.lemmas.Map.Keys.{sorted_head, sorted_tail}
pub use Rattle.std.specs.BTreeMap.{BTreeMap, btree_map_len, get, insert_entry, is_at}
pub use Rattle.std.specs.Bool.{if◌then◌else◌}
pub use Rattle.std.specs.Cmp.Lexicographic.{nat_list_cmp_total, nat_list_eq_equiv, slice_cmp}
pub use Rattle.std.specs.Cmp.{Equal-is, both_ways, nat_cmp_total, tied_itself}
pub use Rattle.std.specs.FinMap.Entries.{below_all}
pub use Rattle.std.specs.FinMap.{is_sorted, nat_cmp-IsAntisymmetric, slice_cmp-IsAntisymmetric}
pub use Rattle.std.specs.HashMap.{get_by}
pub use Rattle.std.specs.List.Sorted.{IsStrictlySortedBy}
pub use Rattle.std.specs.List.{AllByRecursion, filter, find, flat_map, range_with_len, slice_get, sum_by}
pub use Rattle.std.specs.Map.{AreApart, IsKeyTest, keys_of, lookup}
pub use Rattle.std.specs.Option.{option_map, unwrap_or}
pub use Rattle.std.specs.Ordering.{eq_by_cmp, is_gt, is_lt, match_ordering, nat_cmp, ordering_then}
pub use Rattle.std.specs.Prelude.{Err, IfOk, IsTrue, Ok, OnOk, Option, Result, Vec, codes, map, string_bytes, ◌^◌}
pub use Rattle.std.specs.Str.{bytes_eq}
