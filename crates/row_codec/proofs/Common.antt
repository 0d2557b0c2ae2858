-- The names that proofs of this crate cite, passed on from one place. Declares nothing.
pub use Rattle.imp_fields.proofs.SameFlight.{bytes_eq-refl, bytes_eq-true, one_by_fields, one_by_text, same_of_one}
pub use Rattle.imp_fields.specs.Fields.{is_airport, IsBookTenths, IsPartNumber, IsPieces, count_of, drop_while, is_line, Designator, IsDesignator, flight_of, flight_text, is_carrier, same_flight, suffix_of}
pub use Rattle.row_codec.specs.Stored.{AreBuilds, AreCounts, Sums, build_here, build_in, build_row, count_here, count_in, count_row, is_nothing, running, running_in, running_on, unless_nothing, written_flight, is_loaded, load_said, row_said, is_message_row, is_trail_row, line_by, line_row, message_row, outbox_in, trail_in, trail_row_by, Means, airport_in, confirmed_in, is_station, meaning_of, are_flight_columns, book_in, book_row_by, day_column, flight_column, is_move_row, move_by, move_row, place_code, place_of, plain_place, Keeps, Posted, WereThere, AreRequests, is_kept_row, is_kept_text_row, kept_by, kept_keys_in, kept_texts_in, holder_by, holders_in, come_to, pieces_found, posting_build, posting_count, stored, storing_build, storing_count, come, gone, is_built, plus, posting}
pub use Rattle.row_codec.specs.Flights.{flight_date_of, flight_key, flights_in, is_designator, is_flight_key, is_flight_row, is_flight_text, is_written, noted_by, outbound_by, outbound_row, expectation_by, expected_by, expected_in, expected_key, expected_row, is_expected_key, is_expected_row, is_part_row, part_key, parts_in, AreNumbered, flag, is_count, is_day, is_flag, is_number, is_set, is_within, natural, declared_by, declared_in, is_since, is_waybill_row, since_column, since_of, waybill_row}
pub use Rattle.row_codec.specs.Known.{AreKnown, AreSumsOf, AreSumsOn, IsRowOf, sum_at, sum_on, with_sum}
pub use Rattle.row_codec.specs.declared.tally.Tally.{Tally}
pub use Rattle.shipment_machine.proofs.FlightKeys.{same-is, same-refl}
pub use Rattle.shipment_machine.specs.Book.{balance, balances_of, brings, built, drawn, held, moved_in, moved_out, pieces_of, same_place, takes, tenths_of, waybills_on, same_flight_date}
pub use Rattle.shipment_machine.specs.Cargo.{same_part, written}
pub use Rattle.shipment_machine.specs.declared.flight.FlightDate.{FlightDate}
pub use Rattle.shipment_machine.specs.declared.moves.Declared.{Declared}
pub use Rattle.shipment_machine.specs.declared.moves.Move.{Move}
pub use Rattle.shipment_machine.specs.declared.moves.Outbound.{Outbound}
pub use Rattle.shipment_machine.specs.declared.moves.Part.{Part}
pub use Rattle.shipment_machine.specs.declared.moves.Place.TheVariants.{Built, Delivered, Departed, Free, Hand, Missing, Surplus, Transferred}
pub use Rattle.shipment_machine.specs.declared.moves.Place.{Place}
pub use Rattle.shipment_machine.specs.declared.plans.Change.TheVariants.{Confirm, Declare, Expect, NoteFlight, NotePart, Trail}
pub use Rattle.sqlite.specs.Tree.{IsAscending}
pub use Rattle.sqlite_keyed.proofs.ListLemmas.{all-append, all_both, all_weaker, ascending-append, ascending_from_map, ascending_weaker, filter-map, filter_none}
pub use Rattle.sqlite_keyed.proofs.SortLemmas.{pair_cmp}
pub use Rattle.sqlite_keyed.specs.Keyed.{get_by, insert_by}
pub use Rattle.sqlite_keyed.specs.Lists.{update_where}
pub use Rattle.sqlite_typed.specs.Tests.{bytes_cmp}
pub use Rattle.station_core.specs.Readers.{is_key, AreExpectations, AreNoted, book_by, book_row, book_rows, by_expectation, by_flight, is_named, is_of_flight, last_of, message, messages_after, numbered, trail_by, trail_row, trail_rows}
pub use Rattle.station_core.specs.Step.{State, keeping, keeping_text}
pub use Rattle.station_core.specs.Keeping.{AreAllBalances, IsRequest, load_on, loads_on, nothing, on_cargo, with_key, with_messages, with_text}
pub use Rattle.station_core.specs.declared.stored.Load.{Load}
pub use Rattle.station_days.specs.Date.{IsMomentDay, where_true, ◌>>=◌}
pub use Rattle.station_rows.specs.Shown.{Reads, ShowsChange}
pub use Rattle.station_rows.specs.Meant.{build_meant, changing_build, changing_count, changing_waybill, confirming, count_meant, counts_for, expected_meant, flight_meant, is_flown, is_line_after, is_line_of, is_listed_on, is_message_after, is_move_after, is_of, is_on, kept_meant, move_meant, pieces_in, stock_meant, waybill_meant, with_build, with_count, with_expected, with_flight, with_kept, with_kept_text, with_message, with_move, with_part, with_trail_line, with_waybill, without_build, without_count}
pub use Rattle.station_rows.specs.declared.counts.CountRow.{CountRow}
pub use Rattle.station_schema.proofs.Keys.{count_total, expected_same, expected_total, flight_same, flight_total, kept_same, kept_text_same, kept_text_total, kept_total, part_same, part_total}
pub use Rattle.station_schema.proofs.Maps.{all_passed, ascending_where, entries_rise}
pub use Rattle.station_schema.proofs.OneRow.{first_true, int_tied, int_turned, pair_eq, pair_same, pair_total, second_true, texts_same, texts_total}
pub use Rattle.station_schema.specs.Tables.{adjust, Build, BuildKey, Count, CountKey, Expected, ExpectedKey, Flight, FlightKey, Kept, Message, PartKey, Station, Tables, TrailLine, Waybill, build_cmp, count_cmp, expected_cmp, flight_cmp, kept_cmp, kept_text_cmp, message_id, move_id, part_cmp, station_id, trail_id, waybill_id}
pub use Rattle.station_schema.specs.Store.{Displays, IsShowing, Seen, Survives, View, inside}
pub use Rattle.std.proofs.Common.{Bool, Equal, Greater, Less, List, None, Option, Ordering, SFits, Some, [], ap, append-nil, ap₂, arith, cond, drop, false, get_or, int_cmp, is_eq, is_some, length, map, neg_ℤ, negsuc, option_map, pos, refl, rules, subst, suc, sym, take, true, true≢false, w64, zero, ℕ, ◌++◌, ◌+ℤ◌, ◌+◌, ◌-ℤ◌, ◌-◌, ◌<◌, ◌==◌, ◌||◌, ◌∙◌, ◌∷◌, ◌≡◌, ◌≤◌}
pub use Rattle.std.proofs.lemmas.Bool.Decides.{nat_tests}
pub use Rattle.std.proofs.lemmas.Bool.{and_from, and_parts, cond-true, false_from_ne_true, le-leb, leb-true}
pub use Rattle.std.proofs.lemmas.Int.{ints, to_z-of_z}
pub use Rattle.std.proofs.lemmas.List.{drop-drop, drop-map, drop_all, drop_more, length-drop, length-map, map-append, take_more}
pub use Rattle.std.proofs.lemmas.Map.Text.{is_eq-slice_cmp}
pub use Rattle.std.proofs.lemmas.Option.{IfSome_then}
pub use Rattle.std.proofs.lemmas.Str.{IsUtf8-string_bytes, is_utf8-from_IsUtf8}
pub use Rattle.std.specs.Cmp.{IsTotalOrder, eq_by_cmp_equiv, int_cmp_total, tied_itself}
pub use Rattle.std.specs.FinMap.Entries.{below_all}
pub use Rattle.std.specs.FinMap.{FinMap, IsAntisymmetric, entries, entries_sorted, get, get-entries, get-insert, get-remove, insert, int_cmp-IsAntisymmetric, is_sorted, remove}
pub use Rattle.std.specs.List.{All, AllByRecursion, filter, find, list_all, list_any, prefix_len, range_with_len}
pub use Rattle.std.specs.Ordering.{eq_by_cmp, int_eq, match_ordering, nat_cmp, ordering_then}
pub use Rattle.std.specs.Prelude.{Err, IfOk, IfSome, IsTrue, Ok, OnOk, codes, if◌then◌else◌, int_le, int_lt, nat_le, nat_lt, string_bytes, take_while, ℤ, ◌&&◌, ◌^◌, ◌↔◌}
pub use Rattle.std.specs.Str.{bytes_eq, is_utf8}
pub use Rattle.std.specs.declared.alloc.Global.{Global}
pub use Rattle.std.specs.declared.string.String.{String}
