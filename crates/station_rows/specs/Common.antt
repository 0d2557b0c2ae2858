-- The words of other crates that this crate's definitions and contracts cite, passed on from one
-- place. Declares nothing.
pub use Rattle.std.specs.FinMap.{entries, get, insert, remove}
pub use Rattle.std.specs.List.{last_or}
pub use Rattle.std.specs.Ordering.{eq_by_cmp, int_eq}
pub use Rattle.row_sinks.specs.Handed.{HandedOut, Hands}
pub use Rattle.sqlite.specs.Files.{over_files}
pub use Rattle.sqlite.specs.Given.{IsPlain}
pub use Rattle.sqlite.specs.Held.{Held, state}
pub use Rattle.sqlite.specs.Listing.{understood}
pub use Rattle.sqlite.specs.Order.{Row, column}
pub use Rattle.sqlite.specs.State.{CommitsShowing, Executes, HasCleanDisk, Shown, State}
pub use Rattle.sqlite.specs.Tree.{Trees}
pub use Rattle.sqlite.specs.Values.{bound}
pub use Rattle.sqlite.specs.declared.error.Error.{Error}
pub use Rattle.sqlite.specs.declared.types.Value.TheVariants.{Int, Text}
pub use Rattle.sqlite_keyed.specs.Keyed.{IsKeyedBy, get_by, insert_by}
pub use Rattle.sqlite_keyed.specs.Lists.{update_where}
pub use Rattle.sqlite_trees.specs.declared.store.Store.{Ghosts}
pub use Rattle.sqlite_typed.specs.Columns.{bytes_of, int_of}
pub use Rattle.sqlite_typed.specs.Tests.{bytes_cmp}
pub use Rattle.station_schema.specs.Schema.{IsOneStep, IsSettled, IsUndone, Reads, Stops, takes_name, station_schema}
pub use Rattle.station_schema.specs.Connection.{Alters, CommitsNothing, HandsRows, IsFounded, IsInside, IsWorking, LeavesAll, Tells, IsOpening, IsVacant, MayOpen, connection_view, IsNewStation, IsOwn, LiesInOrder, taking}
pub use Rattle.station_schema.specs.Tables.{adjust, Build, BuildKey, Count, CountKey, Expected, ExpectedKey, Flight, FlightKey, Kept, Message, Move, PartKey, Station, Stock, StockKey, Tables, TrailLine, Waybill, build_row, count_row, expected_row, flight_row, kept_row, kept_text_row, message_id, move_id, part_row, station_id, stock_row, tables_of, trail_id, waybill_id}
pub use Rattle.station_schema.specs.Store.{IsShowing, IsUnchanged, MayCommit, Rests, Seen, Shows, Survives, View, Writes, at_rest, inside}
