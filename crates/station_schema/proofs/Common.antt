-- The names that proofs of this crate cite, passed on from one place. Declares nothing.
pub use Rattle.sqlite.proofs.Callers.{EndsIn, IsPlain, begins_shown, begun_plain, command_of, given_begin, never_commits, one_permutation, one_step, runs_as, statement_of, unchanged_then}
pub use Rattle.sqlite.proofs.StateLemmas.{survives_then, survives_weaker}
pub use Rattle.sqlite.specs.Cast.{cast, cast_row}
pub use Rattle.sqlite.specs.Change.{KeepsRows, created, indexed, next_tree}
pub use Rattle.sqlite.specs.Clock.{timed}
pub use Rattle.sqlite.specs.Command.TheVariants.{Begin, Commit, CreateIndex, CreateTable, Delete, Insert, Release, Rollback, Select, Update}
pub use Rattle.sqlite.specs.Command.{Command}
pub use Rattle.sqlite.specs.Does.{AtPlace, Defines, Does, MakesIndex, OnRows, Tally, WritesRows, lacks_sequence}
pub use Rattle.sqlite.specs.Edit.{Applies, Edit, are_fresh, edit_of, id_in, is_taken, left_by, next_rowid, put_all, with_rowid, without_all}
pub use Rattle.sqlite.specs.Effect.{Answers, Database, IsDatabase, value_rows}
pub use Rattle.sqlite.specs.Held.{Held, state}
pub use Rattle.sqlite.specs.Kind.TheVariants.{Integer}
pub use Rattle.sqlite.specs.Listing.{IsSourceOf, reads_listing, understood}
pub use Rattle.sqlite.specs.Ops.{is_null}
pub use Rattle.sqlite.specs.Order.{Row, column, value_cmp}
pub use Rattle.sqlite.specs.Program.{overlay}
pub use Rattle.sqlite.specs.Query.{Output, Query, end, inner, output, output_cmp}
pub use Rattle.sqlite.specs.Rowids.TheVariants.{Above, Chosen, Given}
pub use Rattle.sqlite.specs.Schema.{Schema}
pub use Rattle.sqlite.specs.Source.TheVariants.{Values}
pub use Rattle.sqlite.specs.State.{CommitsBy, CommitsShowing, Executes, Fails, FailsToQuery, FailsToShow, HasCleanDisk, IsLive, IsMisplaced, IsNoStatement, IsRolledBack, IsStatement, IsUnchanged, KeepsCommit, MayChange, MayWrite, RunsAlone, RunsCommand, Shows, ShowsRows, State, Survives, Writes, mode_of, shows_rows, store_error}
pub use Rattle.sqlite.specs.Steps.{IsEmpty, over_memory}
pub use Rattle.sqlite.specs.Table.{Table}
pub use Rattle.sqlite.specs.Term.{Term, col, eval_all, holds, lit}
pub use Rattle.sqlite.specs.Tree.{IsAscending, IsTable, Trees, put_row, rowid}
pub use Rattle.sqlite.specs.declared.error.Error.{Error}
pub use Rattle.sqlite.specs.declared.types.Value.TheVariants.{Int, Null, Text}
pub use Rattle.sqlite.specs.declared.types.Value.{Value}
pub use Rattle.sqlite_keyed.proofs.KeyedLemmas.{IsKeyedBy-delete_where, IsKeyedBy-insert_by, IsKeyedBy-update_where, Less-from_lt, above_all, lt_from_Less}
pub use Rattle.sqlite_keyed.proofs.ListLemmas.{IsPermutation-filter, all-filter, all_both, all_map, all_unmap, all_weaker, ascending-append, ascending-filter, ascending-map, ascending_from_map, ascending_weaker, filter-map, filter_none, filter_same, map-map, map_back, map_same, none_from_any}
pub use Rattle.sqlite_keyed.proofs.SortLemmas.{pair_cmp, sorted_unique}
pub use Rattle.sqlite_keyed.specs.Keyed.{IsKeyedBy, get_by, has_key, insert_by, next_key}
pub use Rattle.sqlite_keyed.specs.Lists.{delete_where, update_where, without_key}
pub use Rattle.sqlite_resolve.specs.declared.compiled.Compiled.{Compiled}
pub use Rattle.sqlite_resolve.specs.declared.error.CompileError.{CompileError}
pub use Rattle.sqlite_rules.specs.Action.{works}
pub use Rattle.sqlite_rules.specs.Calls.{ids_of}
pub use Rattle.sqlite_schema.specs.Rules.{agree, are_present, are_typed, clashes, differ, has_computed, is_of}
pub use Rattle.sqlite_schema.specs.declared.program.Program.{Program}
pub use Rattle.sqlite_schema.specs.declared.schema.Index.{Index}
pub use Rattle.sqlite_schema.specs.declared.schema.Keys.{Keys}
pub use Rattle.sqlite_sql.specs.declared.ops.CompareOp.TheVariants.{Eq, Ne}
pub use Rattle.sqlite_trees.specs.Objects.{IsListed, catalog_tree, version_rows, version_tree, with_version}
pub use Rattle.sqlite_trees.specs.Props.{IsOrdered-prop, IsShaped-prop}
pub use Rattle.sqlite_trees.specs.View.{IsOrdered, IsShaped, View}
pub use Rattle.sqlite_trees.specs.declared.store.Store.{Ghosts}
pub use Rattle.sqlite_typed.proofs.AnswerLemmas.{Source, answer_by_keys, at_end, last_table, matches_are}
pub use Rattle.sqlite_typed.proofs.TestLemmas.{at_ints, at_texts, last_key, last_term, then_term}
pub use Rattle.sqlite_typed.specs.Tests.{bytes_cmp}
pub use Rattle.sqlite_value.proofs.OrderLemmas.{value_cmp-Int}
pub use Rattle.sqlite_value.specs.Keys.{plain}
pub use Rattle.sqlite_value.specs.declared.keys.Key.{Key}
pub use Rattle.station_schema.specs.Connection.{Changes, Edits, IsInside, new_station, with_station, IsNewStation, IsOldOwn, IsOwn, LiesInOrder}
pub use Rattle.station_schema.specs.Tables.{AreEntries, AreListed, adjust, numbered, numbered_in, ExpectedKey, FlightKey, IsOldStation, IsStation, IsTyped, PartKey, StockKey, Tables, build_cmp, count_cmp, expected_cmp, flight_cmp, kept_cmp, kept_text_cmp, part_cmp, station_id, station_row, stock_cmp, tables_of}
pub use Rattle.station_schema.specs.Schema.{Commits, IsMade, IsUndone, Makes, Reads, Stops, build, column_of, counts, expected, flight, kept_key, kept_text, key_column, moves, moves_index, no_schema, old_schema, outbox, part, schema_with, station, station_schema, stock, trail, waybill, waybill2, index_of, table_of}
pub use Rattle.station_schema.specs.declared.declarations.TheConstants.{DECLARATIONS, MOVES_AWB, WAYBILL2}
pub use Rattle.std.proofs.Common.{Equal, Greater, Less, None, Ordering, Some, T, ap, append-nil, append_assoc, ap₂, arith, codes, cond, drop-drop, filter, get_or, inl, inr, int_eq, is_eq, is_some, length, map-id, nat_le, negsuc, not, option_map, pos, rules, slice_get, slice_index_or, subst, subst₂, sym, take, ℤ, ◌++◌, ◌+ℤ◌, ◌+◌, ◌/◌, ◌<ℤ◌, ◌<◌, ◌^◌, ◌∙◌, ◌≢◌, ◌≤◌, ◌⊎◌}
pub use Rattle.std.proofs.Math.Logic.{∥∥₁_elim}
pub use Rattle.std.proofs.lemmas.Int.{ints}
pub use Rattle.std.proofs.lemmas.List.Sorted.{IsPermutation-cons, IsPermutation-map, IsPermutation-middle, IsPermutation-refl, IsPermutation-sym, IsPermutation-trans, length_permutation, list_any-IsPermutation}
pub use Rattle.std.proofs.lemmas.List.{length-map, take-map}
pub use Rattle.std.specs.Cmp.{IsTotalOrder, eq_by_cmp_equiv, int_cmp_total, on_total, then_total, tied_itself}
pub use Rattle.std.specs.FinMap.{FinMap, IsAntisymmetric, empty, entries, entries-insert, entries_sorted, find, from_entries, from_entries_push, get, get-entries, get-from_entries, get-insert, get-remove, insert, int_cmp-IsAntisymmetric, is_sorted, len-empty, len-entries, nat_cmp-IsAntisymmetric, put, remove, same_map, slice_cmp-IsAntisymmetric}
pub use Rattle.std.specs.List.{AllByRecursion, list_all, list_any}
pub use Rattle.std.specs.Ordering.{eq_by_cmp, int_cmp, is_lt, match_ordering, ordering_then}
pub use Rattle.std.specs.Prelude.{Bool, Err, IfErr, IfOk, IsErr, IsPermutation, IsSome, IsTrue, List, MatchBool, Ok, Option, Result, Vec, [], drop, false, fold, if◌then◌else◌, map, option_to_list, refl, suc, true, unwrap_or, zero, ℕ, ◌&&◌, ◌-◌, ◌==◌, ◌||◌, ◌∷◌, ◌≡◌}
