-- The words of other crates that this crate's definitions and contracts cite, passed on from one
-- place. Declares nothing.
pub use Rattle.std.specs.BTreeMap.{IsOrdered, get}
pub use Rattle.std.specs.FinMap.{FinMap, contains_key, entries}
pub use Rattle.std.specs.List.{AllByRecursion, filter, list_all, list_any}
pub use Rattle.std.specs.List.Sorted.{IsBinarySearchResult, IsSearchInRange}
pub use Rattle.std.specs.Option.{option_map, unwrap_or}
pub use Rattle.std.specs.Ordering.{eq_by_cmp, int_cmp, int_eq, nat_cmp, ordering_then}
pub use Rattle.std.specs.Result.{is_ok}
pub use Rattle.std.specs.Str.{bytes_eq}
pub use Rattle.std.specs.declared.cmp.Ordering.{Ordering}
pub use Rattle.std.specs.declared.cmp.Ordering.TheVariants.{Less}
pub use Rattle.agent_stock.specs.declared.stock.Holder.TheVariants.{Used}
pub use Rattle.awb_number.specs.Number.{serials}
pub use Rattle.imp_fields.specs.Fields.{is_line, most_waybills}
pub use Rattle.row_codec.specs.Stored.{AreBuilds, AreCounts, Sums, build_row, count_in, count_row, running, unless_nothing, is_message_row, is_trail_row, IsReadable, airport_in, confirmed_in, is_station, meaning_of, are_flight_columns, book_in, is_move_row, move_by, place_code, AreRequests, is_kept_row, is_kept_text_row, AreStockRows, are_apart, is_behind, is_stock_row, come_to, is_built, posting}
pub use Rattle.row_codec.specs.Flights.{flight_date_of, flight_key, is_designator, is_flight_row, noted_by, expectation_by, is_expected_row, is_part_row, AreNumbered, is_set, natural, declared_in, is_waybill_row}
pub use Rattle.row_codec.specs.declared.tally.Tally.{Tally}
pub use Rattle.shipment_machine.specs.Book.{amount, fits, plus, built, taken_and_found, waybills_on, is_pair}
pub use Rattle.shipment_machine.specs.Cargo.{Cargo}
pub use Rattle.shipment_machine.specs.Effect.{is_closed}
pub use Rattle.shipment_machine.specs.Lawful.{IsCovered, IsLawfulAmount, IsLawfulMove, IsNoted, IsStocked, NamesFlight, StaysDeparted, departs_with, is_outside}
pub use Rattle.shipment_machine.specs.declared.moves.Amount.{Amount}
pub use Rattle.shipment_machine.specs.declared.flight.FlightDate.{FlightDate}
pub use Rattle.shipment_machine.specs.declared.moves.Move.{Move}
pub use Rattle.shipment_machine.specs.declared.moves.Part.{Part}
pub use Rattle.shipment_machine.specs.declared.moves.Place.{Place}
pub use Rattle.shipment_machine.specs.declared.moves.Place.TheVariants.{Built}
pub use Rattle.sqlite.specs.Effect.{Database}
pub use Rattle.sqlite.specs.Held.{Held, state}
pub use Rattle.sqlite.specs.State.{HasCleanDisk, Survives}
pub use Rattle.sqlite.specs.Tree.{IsAscending}
pub use Rattle.sqlite.specs.declared.error.Error.{Error}
pub use Rattle.sqlite_keyed.specs.Keyed.{has_key}
pub use Rattle.sqlite_trees.specs.declared.store.Store.{Ghosts}
pub use Rattle.station_core.specs.Step.{IsLawfulState}
pub use Rattle.station_core.specs.Keeping.{IsRequest}
pub use Rattle.station_rows.specs.Meant.{build_meant, count_meant, message_meant, move_meant, stock_meant, trail_meant, waybill_meant}
pub use Rattle.station_rows.specs.declared.moves.MoveRow.{MoveRow}
pub use Rattle.station_rows.specs.declared.outbox.MessageRow.{MessageRow}
pub use Rattle.station_rows.specs.declared.trail.TrailRow.{TrailRow}
pub use Rattle.station_schema.specs.Schema.{Reads}
pub use Rattle.station_schema.specs.Tables.{Build, BuildKey, Count, CountKey, Expected, ExpectedKey, Flight, FlightKey, IsOldStation, IsStation, Kept, PartKey, Stock, StockKey, Tables, TrailLine, Waybill, flight_cmp, kept_text_cmp, message_id, move_id, old_tables_of, tables_of, trail_id, upgraded, waybill_id}
pub use Rattle.table_load.specs.Held.{HoldsBuild, HoldsCounts, HoldsExpected, HoldsFlight, HoldsKeptKey, HoldsKeptText, HoldsMoves, HoldsOutbox, HoldsPart, HoldsStock, HoldsTrail, by_number, expected_entry, flight_entry, kept_key_entry, kept_text_entry, old_waybill_entry, part_entry, HoldsOldWaybills, HoldsWaybills, Reading, read_as, station_read, undated_row, Verdict, damaged, new_row, no_station, one_row, other_version, FindsTable}
pub use Rattle.table_load.specs.declared.kept_key.KeptKeyEntry.{KeptKeyEntry}
pub use Rattle.table_load.specs.declared.station.FileVersion.TheVariants.{First, Second}
pub use Rattle.table_audits.specs.declared.name.TableName.{TableName}
pub use Rattle.table_audits.specs.declared.sums.Posting.{Posting}
