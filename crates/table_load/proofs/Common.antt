-- The names that proofs of this crate cite, passed on from one place. Declares nothing.
pub use Rattle.sqlite.proofs.Callers.{IsPlain, command_of, never_commits, one_permutation, reads_as, runs_as, unchanged_then}
pub use Rattle.sqlite.proofs.StateLemmas.{survives_then, survives_weaker}
pub use Rattle.sqlite.specs.Command.TheVariants.{CreateTable, Delete, Insert, Select, Update}
pub use Rattle.sqlite.specs.Effect.{Answers, Database}
pub use Rattle.sqlite.specs.Held.{Held, state}
pub use Rattle.sqlite.specs.Listing.{IsSourceOf, misses_table, reads_listing, understood}
pub use Rattle.sqlite.specs.Order.{Row}
pub use Rattle.sqlite.specs.Program.{overlay}
pub use Rattle.sqlite.specs.Schema.{Schema}
pub use Rattle.sqlite.specs.State.{CommitsBy, Executes, FailsToQuery, HasCleanDisk, IsStatement, IsUnchanged, Shows, ShowsRows, State, Survives, Writes}
pub use Rattle.sqlite.specs.Table.{Table}
pub use Rattle.sqlite.specs.Tree.{IsAscending, Trees}
pub use Rattle.sqlite.specs.declared.error.Error.{Error}
pub use Rattle.sqlite.specs.declared.types.Value.TheVariants.{Int, Null, Text}
pub use Rattle.sqlite_ast.specs.declared.Core.{Core, out-Core}
pub use Rattle.sqlite_ast.specs.declared.Expr.TheOpen.{Expr-F, Shown-F}
pub use Rattle.sqlite_ast.specs.declared.Expr.{Expr, out-Expr}
pub use Rattle.sqlite_ast.specs.declared.Sort.{Sort, out-Sort}
pub use Rattle.sqlite_ast.specs.declared.Source.{Source, out-Source}
pub use Rattle.sqlite_keyed.proofs.ListLemmas.{ascending-map, ascending_weaker, map-map, map_back, map_same}
pub use Rattle.sqlite_keyed.proofs.SortLemmas.{sorted_unique}
pub use Rattle.sqlite_keyed.specs.Keyed.{IsKeyedBy, insert_by}
pub use Rattle.sqlite_resolve.specs.Compile.{first}
pub use Rattle.sqlite_resolve.specs.Lowering.{Checked, and_then, fresh, max_budget, nothing}
pub use Rattle.sqlite_resolve.specs.Scope.{declared}
pub use Rattle.sqlite_resolve.specs.declared.compiled.Compiled.{Compiled}
pub use Rattle.sqlite_resolve.specs.declared.error.CompileError.TheVariants.{Mismatch}
pub use Rattle.sqlite_schema.specs.Names.{column_named, is_key, place_of, table_named}
pub use Rattle.sqlite_sql.specs.Query.{Output, Query, end, inner, key_cmp, matches_as, output, output_cmp}
pub use Rattle.sqlite_sql.specs.Term.{eval_all}
pub use Rattle.sqlite_sql.specs.declared.ops.CompareOp.TheVariants.{Eq}
pub use Rattle.sqlite_syntax.specs.declared.statement.Parsed.{Parsed}
pub use Rattle.sqlite_typed.proofs.TestLemmas.{at_ints, last_key, last_term, then_key}
pub use Rattle.sqlite_value.proofs.OrderLemmas.{value_cmp-Int, value_cmp-Text}
pub use Rattle.sqlite_value.specs.declared.keys.Collation.TheVariants.{Binary, NoCase, RTrim}
pub use Rattle.station_rows.proofs.ShownRows.{station_shown}
pub use Rattle.station_rows.specs.Shown.{build_read, count_read, message_read, message_shown, move_read, move_shown, stock_read, trail_read, trail_shown, waybill_read, waybill_shown}
pub use Rattle.station_schema.proofs.AnyTexts.{Means, asks, by_column}
pub use Rattle.station_schema.proofs.Inside.{commits_nothing, execute_stops, keeps, not_run, query_keeps, query_stops, survives_inside, survives_three, transaction_stays}
pub use Rattle.station_schema.proofs.Keyed.{any_rows, no_overlay, one_table, puts_all, puts_past, removed_any, seen}
pub use Rattle.station_schema.proofs.Statements.{changes, execute_survives}
pub use Rattle.station_schema.proofs.TableRows.{rows_in, tables_in, typed_builds, typed_counts, typed_expected, typed_flights, typed_kept, typed_kept_texts, typed_moves, typed_old_waybills, typed_outbox, typed_parts, typed_stations, typed_stock, typed_trail, typed_waybills}
pub use Rattle.station_schema.specs.Connection.{Edits, IsInside}
pub use Rattle.station_schema.specs.Tables.{AreEntries, AreListed, numbered, numbered_in, Build, BuildKey, Count, CountKey, Expected, ExpectedKey, Flight, FlightKey, IsOldStation, IsStation, Kept, Message, Move, OldWaybill, PartKey, Station, Stock, StockKey, Tables, TrailLine, Waybill, build_cmp, build_in, build_row, count_cmp, count_in, count_row, expected_cmp, expected_in, expected_row, flight_cmp, flight_in, flight_row, kept_cmp, kept_in, kept_row, kept_text_cmp, kept_text_in, kept_text_row, message_id, message_in, message_row, move_id, move_in, move_row, old_tables_of, old_waybill_id, old_waybill_in, old_waybill_row, part_cmp, part_in, part_row, raised, station_id, station_in, station_row, stock_cmp, stock_in, stock_row, tables_of, trail_id, trail_in, trail_row, undated, upgraded, waybill_id, waybill_in, waybill_row}
pub use Rattle.station_schema.specs.Schema.{Reads, Stops, old_schema, schema_with, station, station_schema, waybill, waybill2}
pub use Rattle.std.proofs.Common.{Bool, Err, IsTrue, None, Ok, Option, Result, Some, [], ap, ap₂, arith, codes, fold, inl, inr, length, map, negsuc, pos, refl, rules, slice_get, subst, subst₂, suc, sym, take, to_z, unwrap_or, w64, zero, ◌++◌, ◌+◌, ◌-◌, ◌<ℤ◌, ◌<◌, ◌∙◌, ◌∷◌, ◌≡◌, ◌≢◌, ◌≤◌}
pub use Rattle.std.proofs.lemmas.Int.{ints, to_z-of_z}
pub use Rattle.std.proofs.lemmas.List.Sorted.{IsPermutation-map, IsPermutation-refl, IsPermutation-sym, IsPermutation-trans, length_permutation}
pub use Rattle.std.proofs.lemmas.List.{length-map}
pub use Rattle.std.proofs.lemmas.Str.{IsUtf8-from_is_utf8, IsUtf8-string_bytes, is_utf8-from_IsUtf8}
pub use Rattle.std.specs.Cmp.{IsTotalOrder, int_cmp_total, on_total}
pub use Rattle.std.specs.FinMap.{FinMap, entries, from_entries}
pub use Rattle.std.specs.List.Sorted.{IsPermutation, IsSorted}
pub use Rattle.std.specs.List.{AllByRecursion, list_all, position_from}
pub use Rattle.std.specs.Ordering.{eq_by_cmp, int_eq, is_lt}
pub use Rattle.std.specs.Prelude.{IfOk, IsErr, List, OnOk, Vec, drop, false, flat_map, if◌then◌else◌, is_some, nat_lt, option_and_then, option_map, true, ℕ, ℤ, ◌&&◌, ◌==◌}
pub use Rattle.std.specs.Str.{IsUtf8, is_utf8}
pub use Rattle.std.specs.declared.alloc.Global.{Global}
pub use Rattle.table_load.specs.Held.{HasBuildTexts, HasCountsTexts, HasExpectedTexts, HasFlightTexts, HasKeptKeyTexts, HasKeptTextTexts, HasMovesTexts, HasOldWaybillTexts, HasOutboxTexts, HasPartTexts, HasStockTexts, HasTrailTexts, HasWaybillTexts, HoldsBuild, HoldsCounts, HoldsExpected, HoldsFlight, HoldsKeptKey, HoldsKeptText, HoldsMoves, HoldsOldWaybill, HoldsOutbox, HoldsPart, HoldsStock, HoldsTrail, HoldsWaybill, build_columns, build_name, by_key, by_number, counts_columns, counts_name, expected_back, expected_columns, expected_name, flight_back, flight_columns, flight_name, kept_key_back, kept_key_columns, kept_key_name, kept_text_back, kept_text_columns, kept_text_name, moves_columns, moves_name, old_waybill_back, old_waybill_columns, old_waybill_name, old_waybill_shown, outbox_columns, outbox_name, part_back, part_columns, part_name, stock_columns, stock_name, trail_columns, trail_name, waybill_columns, waybill_name, AreInOrder, found, found_at, found_in, key_order, place_by_name, places_by_name, rising_keys, rows_of, table_by_name, found_in_row, found_in_rows, found_meant, one_row, row_of_version, station_columns, station_found, station_name, station_of, version_number, AreSoFar, BeginNone, IsReadOnly, IsTyped, IsWalked, IsWalkedAs, TellsFold, TellsRows, Walks, follows, last_of, Agrees, AreLawful, AreRowsOf, HoldsTable, ShowsWhole, is_whole, is_whole_in}
pub use Rattle.table_load.specs.Upgrade.{AreShown, AreSorts, IsPlainCore, IsPlainSelect, IsPlainSource, IsQuery, IsSelect, column_names, HoldsOld, HoldsTyped, IsHeldBy, Adds, IsInsideOld, IsMoved, MeansUpgraded, clearing, copying, filling, raising}
pub use Rattle.table_load.specs.declared.station.FileVersion.TheVariants.{First, Second}
pub use Rattle.table_load.specs.declared.station.FileVersion.{FileVersion}
pub use Rattle.table_load.specs.declared.walk.Walk.{Walk}
