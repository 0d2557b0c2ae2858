-- The names that proofs of this crate cite, passed on from one place. Declares nothing.
pub use Rattle.agent_stock.specs.Fields.{is_agent_code}
pub use Rattle.awb_number.specs.Number.{is_letter_or_digit}
pub use Rattle.desk_commands.proofs.Ascii.{IsAscii-airport, IsAscii-flight, IsAscii-goods}
pub use Rattle.imp_fields.specs.Fields.{is_airport, is_line, is_printable, Designator, flight_of, flight_text}
pub use Rattle.row_codec.proofs.FlightKeys.{is_one, same_key}
pub use Rattle.row_codec.proofs.MapLaws.{at_key, each_entry, is_tied}
pub use Rattle.row_codec.proofs.MoveRows.{columns_again, columns_of}
pub use Rattle.row_codec.proofs.Storing.{comes_to_sum, rows_again}
pub use Rattle.row_codec.proofs.Tests.{and_no, int_itself, int_pos, is_false, is_int, is_nat, none_is, same_bool, some_is}
pub use Rattle.row_codec.proofs.TotalsKept.{builds_total, counts_total}
pub use Rattle.row_codec.proofs.TotalsWritten.{build_eq, is_text, off, text_itself, written_again, written_so}
pub use Rattle.row_codec.specs.Stored.{AreBuilds, AreCounts, Sums, build_here, build_in, build_row, count_here, count_in, count_row, is_nothing, running, running_in, running_on, unless_nothing, written_flight, is_message_row, is_trail_row, line_by, IsReadable, airport_in, confirmed_in, is_station, meaning_of, are_flight_columns, book_in, is_move_row, move_by, place_code, place_of, plain_place, AreRequests, is_kept_row, is_kept_text_row, are_apart, holder_by, holders_in, is_behind, is_stock_row, stands_for, unnamed_holder, come_to, come, gone, is_built, negated, plus, posting}
pub use Rattle.row_codec.specs.Flights.{flight_date_of, flight_key, flights_in, is_designator, is_flight_row, is_flight_text, is_written, noted_by, outbound_by, expectation_by, expected_by, expected_in, expected_key, is_expected_row, is_part_row, part_key, parts_in, AreNumbered, is_count, is_day, is_number, is_set, is_within, natural, declared_by, declared_in, is_waybill_row}
pub use Rattle.row_codec.specs.declared.tally.Tally.{Tally}
pub use Rattle.shipment_machine.proofs.FlightKeys.{same-is, same-refl}
pub use Rattle.shipment_machine.specs.Book.{amount, built, drawn, moved_in, moved_out, pieces_of, same_place, taken_and_found, tenths_of, waybills_on, same_flight_date}
pub use Rattle.shipment_machine.specs.Effect.{is_closed}
pub use Rattle.shipment_machine.specs.Lawful.{IsCovered, IsLawfulAmount, IsLawfulMove, IsNoted, IsStocked, NamesFlight, StaysDeparted, builds_on, departs_with, is_outside, is_pair}
pub use Rattle.shipment_machine.specs.declared.flight.FlightDate.{FlightDate}
pub use Rattle.shipment_machine.specs.declared.moves.Move.{Move}
pub use Rattle.shipment_machine.specs.declared.moves.Outbound.{Outbound}
pub use Rattle.shipment_machine.specs.declared.moves.Place.TheVariants.{Built, Departed, Hand, Surplus}
pub use Rattle.shipment_machine.specs.declared.moves.Place.{Place}
pub use Rattle.sqlite.specs.Effect.{Database}
pub use Rattle.sqlite.specs.Held.{Held, state}
pub use Rattle.sqlite.specs.Tree.{IsAscending, Trees}
pub use Rattle.sqlite.specs.declared.error.Error.{Error}
pub use Rattle.sqlite_keyed.proofs.ListLemmas.{all_both, all_from_test, all_map, all_unmap, all_weaker, ascending-map, ascending_from_map, ascending_weaker, list_all_push, map-map, test_from_all}
pub use Rattle.sqlite_keyed.proofs.SortLemmas.{pair_cmp, sorted_unique}
pub use Rattle.sqlite_keyed.specs.Keyed.{get_by, has_key}
pub use Rattle.sqlite_typed.specs.Tests.{bytes_cmp}
pub use Rattle.station_core.specs.Readers.{is_key, is_key_byte}
pub use Rattle.station_rows.proofs.ShownRows.{station_shown}
pub use Rattle.station_rows.specs.Meant.{build_meant, count_meant, message_meant, move_meant, stock_meant, trail_meant, waybill_meant}
pub use Rattle.station_rows.specs.Shown.{build_read, count_read, message_read, message_shown, move_read, move_shown, stock_read, trail_read, trail_shown, waybill_read, waybill_shown}
pub use Rattle.station_rows.specs.declared.moves.MoveRow.{MoveRow}
pub use Rattle.station_rows.specs.declared.outbox.MessageRow.{MessageRow}
pub use Rattle.station_rows.specs.declared.trail.TrailRow.{TrailRow}
pub use Rattle.station_rows.specs.declared.waybills.WaybillRow.{WaybillRow}
pub use Rattle.station_schema.proofs.Keys.{build_total, count_total, expected_same, expected_total, flight_same, flight_total, kept_same, kept_text_same, kept_text_total, kept_total, part_same, part_total, stock_total}
pub use Rattle.station_schema.proofs.Maps.{entries_of, entries_rise}
pub use Rattle.station_schema.proofs.OneRow.{first_true, int_tied, pair_eq, pair_same, pair_total, second_true, texts_same, texts_total}
pub use Rattle.station_schema.proofs.TableRows.{typed_stations}
pub use Rattle.station_schema.specs.Connection.{opening}
pub use Rattle.station_schema.specs.Tables.{Build, BuildKey, Count, CountKey, Expected, ExpectedKey, Flight, FlightKey, IsOldStation, IsStation, Kept, Message, OldWaybill, PartKey, Station, Stock, StockKey, Tables, TrailLine, Waybill, build_cmp, count_cmp, expected_cmp, expected_row, flight_cmp, flight_row, kept_cmp, kept_row, kept_text_cmp, kept_text_row, message_id, move_id, old_tables_of, old_waybill_id, part_cmp, part_row, raised, station_id, station_in, station_row, stock_cmp, stock_row, tables_of, trail_id, undated, upgraded, waybill_id}
pub use Rattle.std.proofs.Common.{Bool, Equal, Err, Greater, Less, List, None, Ok, Option, Ordering, Result, Some, T, [], ap, ap₂, arith, cond, drop, false, get_or, inl, inr, int_cmp, is_eq, is_lt, length, length-append, map, nat_cmp, nat_lt, neg_ℤ, negsuc, of_z, option_map, pos, refl, replicate, rules, slice_get, slice_index_or, string_bytes, subst, suc, sym, tests, to_z, true, true≢false, w64, zero, ℕ, ℤ, ◌%◌, ◌*◌, ◌++◌, ◌+◌, ◌-ℤ◌, ◌-◌, ◌/◌, ◌<◌, ◌==◌, ◌∙◌, ◌∷◌, ◌≡◌, ◌≢◌, ◌≤◌, ◌⊎◌}
pub use Rattle.std.proofs.lemmas.Bool.Decides.{Decides-int_eq, nat_tests}
pub use Rattle.std.proofs.lemmas.Bool.{and_from, and_parts, cases_Bool, cond-true, eq-eqb, le-leb, leb-true}
pub use Rattle.std.proofs.lemmas.Fn.{always_returns_same}
pub use Rattle.std.proofs.lemmas.Int.{ints, to_z-of_z}
pub use Rattle.std.proofs.lemmas.Iterator.Search.{all_from_yields_List}
pub use Rattle.std.proofs.lemmas.Iterator.{YieldsList-from_slice, cases_from_all}
pub use Rattle.std.proofs.lemmas.List.Folds.{list_all-append, list_all-map, list_any-append}
pub use Rattle.std.proofs.lemmas.List.Sorted.{answers_always, searchable_from_sorted}
pub use Rattle.std.proofs.lemmas.List.{length-map, map-append}
pub use Rattle.std.proofs.lemmas.Result.{on_ok_weaker}
pub use Rattle.std.proofs.lemmas.Str.{IsUtf8-from_ascii, IsUtf8-string_bytes, is_utf8-from_IsUtf8}
pub use Rattle.std.specs.BTreeMap.{is_at}
pub use Rattle.std.specs.Cmp.{IsTotalOrder, eq_by_cmp_equiv, int_cmp_total, nat_cmp_total, on_total, ranked, then_total, tied_itself}
pub use Rattle.std.specs.FinMap.Entries.{below_all}
pub use Rattle.std.specs.FinMap.{FinMap, IsAntisymmetric, contains_key, entries, entries-from_sorted, from_entries, from_sorted, get, get-entries, get-from_sorted, int_cmp-IsAntisymmetric, is_sorted, nat_cmp-IsAntisymmetric, same_entries_map, same_map}
pub use Rattle.std.specs.List.Sorted.{IsBinarySearchResult, IsPermutation, IsSearchInRange, IsStrictlySortedBy}
pub use Rattle.std.specs.List.{AllAdjacentBelow, AllByRecursion, AllWithin, HoldsAt, IsAllAdjacentAnswer, list_all, list_any, range_with_len}
pub use Rattle.std.specs.Map.{keys_of, lookup}
pub use Rattle.std.specs.Option.{option_and_then}
pub use Rattle.std.specs.Ordering.{eq_by_cmp, int_eq, ordering_then}
pub use Rattle.std.specs.Prelude.{IfSome, IsErr, IsSome, IsTrue, MatchBool, MatchOption, OnOk, find, if◌then◌else◌, int_le, int_lt, is_some, nat_le, not, slice_set, ◌&&◌, ◌||◌, ◌↔◌}
pub use Rattle.std.specs.Str.{IsAscii, bytes_eq, is_utf8}
pub use Rattle.table_audits.specs.Moves.{AreDepartures, flight_in, flights_of, is_fit_move, nowhere, AreBalances, drawn_at, drawn_by, is_covered, is_lawful_build, is_lawful_count, is_left, is_open, on_flight, IsDeparted, departs_in, is_marked, marked, marks_of, RisesByNumber, AreBeside, IsGoodRow, IsPosted, IsPostedOr, IsSpotOf, listed_in, posting_in, IsLawfulStock, has_text, has_waybill, is_lawful_expected, is_lawful_flight, is_lawful_line, is_lawful_waybill, number_at, AreDistinct, AreFlightsOf, AreSums, IsPosting, IsSpot, build_due, build_entry, build_place_cmp, build_told, count_entry, count_place_cmp, count_told}
pub use Rattle.table_audits.specs.Verdict.{AreGood, HoldsStation, IsFirstBad, IsGood, IsHeld, IsStationOf, before, AreJudged, HasBefore, HasFlights, HasJudged, HasWaybills, IsJudged, JudgesOn, Knows}
pub use Rattle.table_audits.specs.Lawful.{AreExpected, AreFlights, AreKeptKeys, AreKeptTexts, AreMessages, AreMoves, AreParts, AreStocks, AreTrailLines, AreWaybills, IsLawfulTable, cargo_in}
pub use Rattle.table_audits.specs.Taken.{AreCounted, AreGoodMoves, AreLinesTaken, AreMessagesTaken, AreMovesTaken, AreRead, AreSound, AreSoundOr, IsBookAs, IsBookOf, IsLawfulKept, IsNextOr, if_confirmed}
pub use Rattle.table_audits.specs.declared.book.BookAudit.{BookAudit}
pub use Rattle.table_audits.specs.declared.rows.Known.{Known}
pub use Rattle.table_audits.specs.declared.name.TableName.{TableName}
pub use Rattle.table_audits.specs.declared.sums.BookSums.{BookSums}
pub use Rattle.table_audits.specs.declared.sums.BuildPlace.{BuildPlace}
pub use Rattle.table_audits.specs.declared.sums.CountPlace.{CountPlace}
pub use Rattle.table_audits.specs.declared.sums.Posting.{Posting}
pub use Rattle.table_audits.specs.declared.sums.Spot.TheVariants.{OnFlight, Plain}
pub use Rattle.table_audits.specs.declared.sums.Spot.{Spot}
pub use Rattle.table_load.proofs.Declared.{build_old, build_typed, counts_old, counts_typed, expected_old, expected_typed, flight_old, flight_typed, kept_key_old, kept_key_typed, kept_text_old, kept_text_typed, moves_old, moves_typed, old_waybill_old, old_waybill_typed, outbox_old, outbox_typed, part_old, part_typed, station_typed, stock_old, stock_typed, trail_old, trail_typed, waybill_typed}
pub use Rattle.table_load.proofs.TableLemmas.{ascending_sorted, held_once}
pub use Rattle.table_load.proofs.WholeLemmas.{at_rest}
pub use Rattle.table_load.specs.Held.{HasBuildTexts, HasCountsTexts, HasExpectedTexts, HasFlightTexts, HasKeptKeyTexts, HasKeptTextTexts, HasMovesTexts, HasOldWaybillTexts, HasOutboxTexts, HasPartTexts, HasStockTexts, HasTrailTexts, HasWaybillTexts, HoldsBuild, HoldsCounts, HoldsExpected, HoldsFlight, HoldsKeptKey, HoldsKeptText, HoldsMoves, HoldsOldWaybill, HoldsOutbox, HoldsPart, HoldsStock, HoldsTrail, IsText, build_columns, build_name, by_key, by_number, counts_columns, counts_name, expected_back, expected_columns, expected_entry, expected_name, flight_back, flight_columns, flight_entry, flight_name, kept_key_back, kept_key_columns, kept_key_entry, kept_key_name, kept_text_back, kept_text_columns, kept_text_entry, kept_text_name, moves_columns, moves_name, old_waybill_back, old_waybill_columns, old_waybill_entry, old_waybill_name, old_waybill_shown, outbox_columns, outbox_name, part_back, part_columns, part_entry, part_name, stock_columns, stock_name, trail_columns, trail_name, waybill_columns, waybill_name, HoldsOldWaybills, HoldsWaybills, Reading, read_as, station_read, undated_row, damaged, found_in_rows, found_meant, new_row, no_station, one_row, other_version, row_of_version, station_columns, station_found, station_name, station_of, version_number}
pub use Rattle.table_load.specs.declared.flight.FlightEntry.{FlightEntry}
pub use Rattle.table_load.specs.declared.kept_key.KeptKeyEntry.{KeptKeyEntry}
pub use Rattle.table_load.specs.declared.station.FileVersion.TheVariants.{First, Second}
pub use Rattle.table_load.specs.declared.station.FileVersion.{FileVersion}
