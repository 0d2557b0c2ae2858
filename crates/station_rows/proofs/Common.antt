-- The names that proofs of this crate cite, passed on from one place. Declares nothing.
pub use Rattle.sqlite.proofs.Callers.{IsPlain, memory_is_clean, reads_as}
pub use Rattle.sqlite.specs.Collation.TheVariants.{Binary}
pub use Rattle.sqlite.specs.Command.TheVariants.{Delete, Insert, Select, Update}
pub use Rattle.sqlite.specs.Effect.{Answers, Database, value_rows}
pub use Rattle.sqlite.specs.Held.{Held, state}
pub use Rattle.sqlite.specs.Listing.{understood}
pub use Rattle.sqlite.specs.Order.{Row}
pub use Rattle.sqlite.specs.Query.{Output, Query, as_count, limited, output, output_cmp}
pub use Rattle.sqlite.specs.Source.TheVariants.{Values}
pub use Rattle.sqlite.specs.State.{CommitsBy, Executes, HasCleanDisk, IsUnchanged, Shown, Shows, State, Survives}
pub use Rattle.sqlite.specs.Term.{Term, col, eval, eval_all, holds, lit, op2}
pub use Rattle.sqlite.specs.Tree.{IsAscending, Trees}
pub use Rattle.sqlite.specs.declared.error.Error.{Error}
pub use Rattle.sqlite.specs.declared.types.Value.TheVariants.{Int, Null, Text}
pub use Rattle.sqlite_keyed.proofs.KeyedLemmas.{IsKeyedBy-insert_by}
pub use Rattle.sqlite_keyed.proofs.ListLemmas.{all-append, ascending-append, ascending-filter, map_back}
pub use Rattle.sqlite_keyed.specs.Keyed.{IsKeyedBy, get_by, insert_by}
pub use Rattle.sqlite_keyed.specs.Lists.{update_where}
pub use Rattle.sqlite_sql.specs.declared.ops.BinaryOp.TheVariants.{Compare}
pub use Rattle.sqlite_sql.specs.declared.ops.CompareOp.TheVariants.{Eq, Ge, Gt, Le}
pub use Rattle.sqlite_trees.specs.declared.store.Store.{Ghosts}
pub use Rattle.sqlite_typed.proofs.AnswerLemmas.{unfiltered}
pub use Rattle.sqlite_typed.proofs.TestLemmas.{at_ints, at_texts, last_key, last_term, then_key, then_term, turn_eq}
pub use Rattle.sqlite_value.proofs.OrderLemmas.{value_cmp-Int, value_cmp-Text}
pub use Rattle.sqlite_value.specs.Keys.{plain}
pub use Rattle.sqlite_value.specs.declared.keys.Key.{Key}
pub use Rattle.station_rows.specs.Meant.{build_meant, changing_waybill, confirming, count_meant, counts_for, expected_meant, flight_meant, is_between, is_flown, is_flown_within, is_line_after, is_line_of, is_listed_on, is_message_after, is_move_after, is_of, is_on, is_up_to, kept_meant, last_rows_up_to, last_up_to, listed_waybill_meant, message_meant, move_meant, noted_flight_meant, pieces_in, station_meant, stock_meant, trail_meant, waybill_meant, with_message, with_move, with_trail_line, with_waybill, AreRead, Queries, confirm_text, delete_build_text, delete_count_text, delete_stock_text, insert_build_text, insert_count_text, insert_expected_text, insert_flight_text, insert_kept_text, insert_kept_text_text, insert_message_text, insert_move_text, insert_part_text, insert_stock_text, insert_trail_text, insert_waybill_text, update_build_text, update_count_text, update_expected_text, update_flight_text, update_stock_text, update_waybill_text}
pub use Rattle.station_rows.specs.Shown.{build_read, count_read, expected_read, flight_read, kept_read, kept_text_shown, listed_waybill_read, message_shown, move_read, move_shown, noted_flight_read, part_shown, pieces_read, pieces_shown, station_read, stock_read, trail_shown, waybill_read, waybill_shown}
pub use Rattle.station_schema.proofs.AnyTexts.{Asks, Means, asks, by_column}
pub use Rattle.station_schema.proofs.ColumnKeys.{Compares, IsMap, deleted_at, inserted, map_of, row_shown, rows_in_order, updated_at}
pub use Rattle.station_schema.proofs.Inside.{reads}
pub use Rattle.station_schema.proofs.Keyed.{one_table, puts}
pub use Rattle.station_schema.proofs.Keys.{build_same, build_total, count_same, count_total, expected_same, expected_total, flight_same, flight_total, kept_same, kept_text_same, kept_text_total, kept_total, part_same, part_total, stock_same, stock_total}
pub use Rattle.station_schema.proofs.Listed.{changed_at, row_at, rows_by_key}
pub use Rattle.station_schema.proofs.OneRow.{first_true, int_both, second_true, texts_both}
pub use Rattle.station_schema.proofs.Ran.{IsPlaced, delete_ran, insert_ran, update_ran}
pub use Rattle.station_schema.proofs.Shared.{cast_int, cast_null}
pub use Rattle.station_schema.proofs.Statements.{changes, execute_survives, still_plain}
pub use Rattle.station_schema.proofs.Stored.{edits_builds, edits_counts, edits_expected, edits_flights, edits_kept, edits_kept_texts, edits_moves, edits_outbox, edits_parts, edits_stations, edits_stock, edits_trail, edits_waybills}
pub use Rattle.station_schema.specs.Connection.{Alters, Edits, IsInside, IsWorking, IsOwn}
pub use Rattle.station_schema.specs.Tables.{AreEntries, adjust, Build, BuildKey, Count, CountKey, Expected, ExpectedKey, Flight, FlightKey, IsStation, Kept, Message, Move, PartKey, Station, Stock, StockKey, Tables, TrailLine, Waybill, build_cmp, build_in, build_row, count_cmp, count_in, count_row, expected_cmp, expected_in, expected_row, flight_cmp, flight_in, flight_row, kept_cmp, kept_in, kept_row, kept_text_cmp, kept_text_in, kept_text_row, message_id, message_row, move_id, move_row, part_cmp, part_in, part_row, station_id, station_in, station_row, stock_cmp, stock_in, stock_row, tables_of, trail_id, trail_row, waybill_id, waybill_in, waybill_row}
pub use Rattle.station_schema.specs.Schema.{IsSettled, Reads, Stops, build, counts, expected, flight, kept_key, kept_text, moves, outbox, part, station, station_schema, stock, trail, waybill2}
pub use Rattle.station_schema.proofs.TableRows.{typed_builds, typed_counts, typed_expected, typed_flights, typed_kept, typed_kept_texts, typed_moves, typed_outbox, typed_parts, typed_stations, typed_stock, typed_trail, typed_waybills}
pub use Rattle.std.proofs.Common.{Bool, Err, IsTrue, List, None, Ok, Option, Ordering, Result, Some, [], ap, arith, codes, cond, false, filter, get_or, inl, inr, int_cmp, int_eq, length, map, not, option_map, pos, refl, reverse, rules, subst, suc, sym, take, true, zero, ℕ, ℤ, ⊎_elim, ◌++◌, ◌+◌, ◌-◌, ◌/◌, ◌<◌, ◌∙◌, ◌∷◌, ◌≡◌, ◌≢◌}
pub use Rattle.std.proofs.lemmas.List.{length-drop, length-reverse, map-append, reverse-append, reverse-reverse, take-append-drop, take-map, take_all, take_at}
pub use Rattle.std.specs.Cmp.{IsTotalOrder}
pub use Rattle.std.specs.FinMap.{FinMap, IsAntisymmetric, entries, from_entries, get, insert, remove}
pub use Rattle.std.specs.List.{AllByRecursion, last_or, list_all}
pub use Rattle.std.specs.Ordering.{eq_by_cmp, ordering_then}
pub use Rattle.std.specs.Prelude.{IfOk, IsErr, Vec, option_to_list, string_bytes, ◌&&◌}
pub use Rattle.std.specs.declared.alloc.Global.{Global}
