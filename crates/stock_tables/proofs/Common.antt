-- The names that proofs of this crate cite, passed on from one place. Declares nothing.
pub use Rattle.agent_stock.proofs.Serials.{find_here, find_next, given_as}
pub use Rattle.agent_stock.specs.Stock.{AreRuns, AreStockRuns, IsRunRow, StandFrom, end_of, holders_by, Holders, assigned, covers, is_among, is_run, passes, refused_by}
pub use Rattle.agent_stock.specs.declared.runs.StockRun.{StockRun}
pub use Rattle.agent_stock.specs.declared.stock.Holder.TheVariants.{Agent, Desk, Used, Void}
pub use Rattle.agent_stock.specs.declared.stock.Holder.{Holder}
pub use Rattle.agent_stock.specs.declared.stock.Run.{Run}
pub use Rattle.awb_number.specs.Number.{IsNumber, prefix_of, serial_of}
pub use Rattle.row_codec.specs.Flights.{is_within, natural}
pub use Rattle.row_codec.specs.Stored.{AreStockRows, are_apart, holder_by, holders_in, is_behind, is_stock_row, named, run_in, stands_for, unnamed_holder}
pub use Rattle.station_rows.specs.Meant.{is_between, is_up_to, last_rows_up_to, last_up_to, stock_meant, with_stock}
pub use Rattle.station_rows.specs.declared.stock.StockRow.{StockRow}
pub use Rattle.station_schema.specs.Store.{Displays, IsShowing, Seen, Survives, View, at_rest, inside}
pub use Rattle.station_schema.specs.Tables.{Stock, StockKey, Tables, stock_cmp}
pub use Rattle.std.proofs.Common.{Bool, Equal, Greater, IfSome, Less, List, None, Option, Ordering, Some, T, [], ap, ap₂, arith, cond, drop, false, filter, get_or, inl, inr, is_eq, is_lt, length, map, negsuc, not, of_z, option_map, pos, refl, rules, subst, suc, sym, take, to_z, true, w64, zero, ℕ, ℤ, ◌%◌, ◌*◌, ◌++◌, ◌+ℤ◌, ◌-ℤ◌, ◌-◌, ◌/◌, ◌<◌, ◌∙◌, ◌∷◌, ◌≡◌, ◌≢◌, ◌⊎◌}
pub use Rattle.std.proofs.lemmas.Bool.Decides.{nat_tests}
pub use Rattle.std.proofs.lemmas.Bool.{and_from, and_parts, cases_lt, eq-eqb, eqb-true, le-leb, leb-true, lt-ltb, ltb-true, or_left, or_right}
pub use Rattle.std.proofs.lemmas.Int.{ints}
pub use Rattle.std.proofs.lemmas.List.{drop-map, drop_all, drop_more, length-drop, length-map, take-append-drop}
pub use Rattle.std.specs.FinMap.Entries.{below_all}
pub use Rattle.std.specs.FinMap.{FinMap, entries, entries-from_sorted, from_sorted, get, get-entries, get-from_sorted, get-insert, get-remove, insert, is_sorted, remove, same_map}
pub use Rattle.std.specs.List.{AllByRecursion, find, last_or, list_all, range_with_len}
pub use Rattle.std.specs.Option.{option_and_then}
pub use Rattle.std.specs.Ordering.{eq_by_cmp, int_cmp, int_eq, ordering_then}
pub use Rattle.std.specs.Prelude.{Err, IfOk, IsTrue, Ok, OnOk, Result, int_le, int_lt, is_some, nat_eq, nat_le, nat_lt, ◌&&◌, ◌+◌, ◌==◌, ◌||◌, ◌≤◌}
pub use Rattle.stock_tables.specs.Stocked.{are_enough, begins_before, holder_at, reaches, reaching, AreAround, AreNear, Before, Behind, BehindBy, IsJoined, Touches, cut_before, cut_from, lies_ahead, lies_behind, listed, rows_ahead, rows_behind, rows_near, touches, written, IsWritable, code_of, entry_of, holder_number, key_of, row_in, AreThere, IsCut, Restocked, Stocked, restocked, using_up, begins, cleared, put_in, without}
