-- The words of other crates that this crate's definitions and contracts cite, passed on from one
-- place. Declares nothing.
pub use Rattle.std.specs.FinMap.{entries}
pub use Rattle.std.specs.List.{AllByRecursion}
pub use Rattle.std.specs.List.Sorted.{IsPermutation, IsSorted}
pub use Rattle.std.specs.Ordering.{int_cmp, int_eq, is_lt}
pub use Rattle.std.specs.Str.{is_utf8}
pub use Rattle.std.specs.declared.alloc.Global.{Global}
pub use Rattle.std.specs.declared.cmp.Ordering.{Ordering}
pub use Rattle.std.specs.declared.cmp.Ordering.TheVariants.{Less}
pub use Rattle.sqlite.specs.Collation.TheVariants.{Binary}
pub use Rattle.sqlite.specs.Effect.{Database}
pub use Rattle.sqlite.specs.Given.{HasGiven, IsPlain}
pub use Rattle.sqlite.specs.Held.{Held, state}
pub use Rattle.sqlite.specs.Listing.{understood}
pub use Rattle.sqlite.specs.Order.{Row, column}
pub use Rattle.sqlite.specs.Schema.{Schema}
pub use Rattle.sqlite.specs.State.{CommitsShowing, HasCleanDisk, IsUnchanged, KeepsCommit, Shows, State, Survives}
pub use Rattle.sqlite.specs.Table.{Table}
pub use Rattle.sqlite.specs.Tree.{IsAscending, Trees}
pub use Rattle.sqlite.specs.declared.error.Error.{Error}
pub use Rattle.sqlite.specs.declared.types.Value.{Value}
pub use Rattle.sqlite.specs.declared.types.Value.TheVariants.{Int, Text}
pub use Rattle.sqlite_ast.specs.declared.Core.{Core, out-Core}
pub use Rattle.sqlite_ast.specs.declared.Expr.{Expr, out-Expr}
pub use Rattle.sqlite_ast.specs.declared.Expr.TheOpen.{Expr-F, Shown-F}
pub use Rattle.sqlite_ast.specs.declared.Select.{Select, out-Select}
pub use Rattle.sqlite_ast.specs.declared.Shown.{Shown, out-Shown}
pub use Rattle.sqlite_ast.specs.declared.Sort.{Sort, out-Sort}
pub use Rattle.sqlite_ast.specs.declared.Source.{Source, out-Source}
pub use Rattle.sqlite_keyed.specs.Keyed.{insert_by}
pub use Rattle.sqlite_resolve.specs.Compile.{first}
pub use Rattle.sqlite_resolve.specs.declared.compiled.Compiled.{Compiled}
pub use Rattle.sqlite_schema.specs.Names.{column_named, place_of, table_named}
pub use Rattle.sqlite_sql.specs.Query.{key_cmp}
pub use Rattle.sqlite_syntax.specs.declared.statement.Parsed.{Parsed}
pub use Rattle.sqlite_trees.specs.declared.store.Store.{Ghosts}
pub use Rattle.sqlite_typed.specs.Columns.{bytes_of, int_of}
pub use Rattle.sqlite_value.specs.Keys.{collation_code}
pub use Rattle.sqlite_value.specs.declared.keys.Key.{Key}
pub use Rattle.station_rows.specs.Meant.{build_meant, count_meant, message_meant, move_meant, stock_meant, trail_meant, waybill_meant}
pub use Rattle.station_rows.specs.Shown.{message_shown, move_shown, trail_shown, waybill_shown}
pub use Rattle.station_rows.specs.declared.waybills.WaybillRow.{WaybillRow}
pub use Rattle.station_schema.specs.Connection.{Alters, CommitsNothing, IsOwn, Moves}
pub use Rattle.station_schema.specs.Schema.{IsSettled, IsUndone, Reads, Stops}
pub use Rattle.station_schema.specs.Tables.{Build, BuildKey, Count, CountKey, Expected, ExpectedKey, Flight, FlightKey, IsOldStation, IsStation, Kept, Message, Move, OldWaybill, PartKey, Station, Stock, StockKey, Tables, TrailLine, Waybill, build_cmp, build_row, count_cmp, count_row, expected_cmp, expected_row, flight_cmp, flight_row, kept_cmp, kept_row, kept_text_cmp, kept_text_row, message_id, move_id, old_tables_of, old_waybill_id, part_cmp, part_row, raised, stock_cmp, stock_row, tables_of, trail_id, undated, upgraded, waybill_id}
