-- The words of other crates that this crate's definitions and contracts cite, passed on from one
-- place. Declares nothing.
pub use Rattle.std.specs.FinMap.{FinMap, entries, get, insert, remove}
pub use Rattle.std.specs.List.{AllByRecursion, last_or, list_any}
pub use Rattle.agent_stock.specs.Stock.{OnRefused, RefusesBy, AreRuns, AreStockRuns, IsRunRow, StandFrom, end_of, holders_by, Holders, after_order, assigned, covers, is_run, lowest_failing, order_refusal, passes, refused_by, run_of, run_refusal}
pub use Rattle.agent_stock.specs.declared.runs.StockRun.{StockRun}
pub use Rattle.agent_stock.specs.declared.stock.Holder.{Holder}
pub use Rattle.agent_stock.specs.declared.stock.Holder.TheVariants.{Agent, Desk, Used, Void}
pub use Rattle.agent_stock.specs.declared.stock.Run.{Run}
pub use Rattle.agent_stock.specs.declared.stock.StockFault.{StockFault}
pub use Rattle.awb_number.specs.Number.{IsNumber, prefix_of, serial_of}
pub use Rattle.row_codec.specs.Stored.{AreStockRows, holder_by, holders_in, run_in}
pub use Rattle.station_rows.specs.Shown.{Reads, ShowsChange}
pub use Rattle.station_rows.specs.Meant.{stock_meant, with_stock}
pub use Rattle.station_schema.specs.Store.{Displays, IsShowing, Survives, View, at_rest, inside}
pub use Rattle.station_schema.specs.Tables.{Stock, StockKey, Tables, stock_cmp}
