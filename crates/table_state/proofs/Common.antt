-- The names that proofs of this crate cite, passed on from one place. Declares nothing.
pub use Rattle.agent_stock.specs.Stock.{Holders, after_order, is_run, lowest_failing, order_refusal, refusal_number, refused_by, run_of, test_of}
pub use Rattle.imp_fields.specs.Fields.{is_airport, Designator, flight_text, same_flight}
pub use Rattle.row_codec.proofs.Fits.{count_fits, part_fits}
pub use Rattle.row_codec.proofs.Handing.{book_handed, book_on, message_of, messages_handed}
pub use Rattle.row_codec.proofs.KeptRow.{kept_row}
pub use Rattle.row_codec.proofs.Noted.{day_again, expectations_on_told, expectations_told, noted_told}
pub use Rattle.row_codec.proofs.SameMeaning.{same_meaning}
pub use Rattle.row_codec.proofs.Telling.{book_told, declared_told, holders_told}
pub use Rattle.row_codec.specs.Stored.{AreBuilds, AreCounts, build_here, build_in, count_here, count_in, running, written_flight, is_message_row, is_trail_row, line_row, message_row, trail_row_by, IsReadable, Means, meaning_of, book_in, book_row_by, is_move_row, plain_place, WereThere, kept_by, holder_by, holders_in, stands_for}
pub use Rattle.row_codec.specs.Flights.{flight_key, flights_in, is_designator, is_flight_row, noted_by, outbound_by, outbound_row, expectation_by, expected_by, expected_in, expected_key, expected_row, is_expected_row, is_part_row, part_key, parts_in, AreNumbered, is_count, is_number, natural, declared_by, is_waybill_row, waybill_row}
pub use Rattle.row_codec.specs.Known.{AreKnown}
pub use Rattle.row_sinks.specs.Handed.{HandedOut, Hands}
pub use Rattle.shipment_machine.proofs.OnFlight.{Rising-waybills_of, is_in-waybills_of, is_in-waybills_on, none_in}
pub use Rattle.shipment_machine.proofs.Rising.{Rising-filter, Rising-put_rising, below_in, is_in-filter, is_in-put_rising, same_rising, yes_here}
pub use Rattle.shipment_machine.specs.Book.{balance, balances_of, brings, delivered, departed, drawn, found, has_moves, held, in_store, missing, moved_in, moved_out, pieces_of, put_rising, same_place, taken, takes, tenths_of, transferred, waybills_of, waybills_on, same_flight_date}
pub use Rattle.shipment_machine.specs.Cargo.{Cargo, opening_cargo, written, is_in}
pub use Rattle.shipment_machine.specs.declared.flight.FlightDate.{FlightDate}
pub use Rattle.shipment_machine.specs.declared.moves.Declared.{Declared}
pub use Rattle.shipment_machine.specs.declared.moves.Move.{Move}
pub use Rattle.shipment_machine.specs.declared.moves.Part.{Part}
pub use Rattle.shipment_machine.specs.declared.moves.Place.TheVariants.{Built, Delivered, Departed, Free, Hand, Missing, Surplus, Transferred}
pub use Rattle.shipment_machine.specs.declared.moves.Place.{Place}
pub use Rattle.sqlite_keyed.specs.Keyed.{IsKeyedBy, get_by}
pub use Rattle.state_store.proofs.Walks.{rests_then, survives_then, told_so, unread}
pub use Rattle.state_store.specs.Store.{Lines, with_line, Changes, HandsOut, Reads, ReadsAtRest, Seen, Storing, Survives, at_rest, asked, is_asked_for, waybills_for, with_balances}
pub use Rattle.state_store.specs.declared.viewing.WaybillQuery.TheVariants.{Irregular, Stored}
pub use Rattle.state_store.specs.declared.viewing.WaybillQuery.{WaybillQuery}
pub use Rattle.station_core.specs.Readers.{announced, AreAnnounced, AreExpectations, AreNoted, asked_of, begins_after, book_by, book_row, book_rows, expected_for, has_come, is_named, is_of_flight, messages_by, numbered, trail_by}
pub use Rattle.station_core.specs.Step.{State}
pub use Rattle.station_core.specs.Keeping.{AreAllBalances, IsRequest, nothing, on_cargo, sizes_of, with_key, with_messages, with_moves, with_order, with_text}
pub use Rattle.station_core.specs.declared.rows.AnnouncedRow.{AnnouncedRow}
pub use Rattle.station_core.specs.declared.rows.BookQuery.TheVariants.{On}
pub use Rattle.station_core.specs.declared.rows.ExpectedQuery.TheVariants.{Open}
pub use Rattle.station_core.specs.declared.stored.Sizes.{Sizes}
pub use Rattle.station_core.specs.declared.stored.WaybillBalances.{WaybillBalances}
pub use Rattle.station_rows.specs.Shown.{HandsIfOpen, HandsOf, ShowsStill, WasOpen}
pub use Rattle.station_rows.specs.Meant.{changing_expected, changing_flight, changing_waybill, confirming, expected_meant, flight_meant, is_flown, is_flown_within, is_listed_on, is_message_after, is_move_after, is_of, kept_meant, lines_for, listed_waybill_meant, message_meant, move_meant, moves_for, noted_flight_meant, trail_meant, waybill_meant, with_expected, with_flight, with_kept, with_kept_text, with_message, with_move, with_part, with_trail_line, with_waybill}
pub use Rattle.station_rows.specs.declared.expected.ExpectedRow.{ExpectedRow}
pub use Rattle.station_rows.specs.declared.expected.ListedWaybillRow.{ListedWaybillRow}
pub use Rattle.station_rows.specs.declared.flights.FlightRow.{FlightRow}
pub use Rattle.station_rows.specs.declared.flights.NotedFlightRow.{NotedFlightRow}
pub use Rattle.station_rows.specs.declared.kept.KeptRow.{KeptRow}
pub use Rattle.station_rows.specs.declared.waybills.WaybillRow.{WaybillRow}
pub use Rattle.station_schema.specs.Connection.{IsOpening, opening}
pub use Rattle.station_schema.specs.Store.{Displays, IsShowing, MayCommit, View, inside}
pub use Rattle.station_schema.specs.Tables.{Build, BuildKey, Count, CountKey, Expected, ExpectedKey, Flight, FlightKey, Kept, Stock, StockKey, Tables, Waybill, build_cmp, count_cmp, expected_cmp, flight_cmp, kept_cmp, kept_text_cmp, move_id, part_cmp, stock_cmp, waybill_id}
pub use Rattle.std.proofs.Common.{Bool, Err, List, None, Ok, Option, Ordering, Result, SFits, Some, [], ap, append-nil, append_assoc, ap₂, arith, below_more, cond, false, get_or, get_or-set_other, get_or-set_same, inl, inr, length, length-set, map, neg_ℤ, negsuc, not, pos, refl, rules, set, subst, subst₂, suc, sym, take, true, true≢false, w64, zero, zero-add, ℕ, ℤ, ⊎_elim, ◌&&◌, ◌++◌, ◌+ℤ◌, ◌+◌, ◌-◌, ◌<◌, ◌==◌, ◌||◌, ◌∙◌, ◌∷◌, ◌≡◌, ◌≤◌, ◌⊎◌}
pub use Rattle.std.proofs.Math.Seq.{take-length}
pub use Rattle.std.proofs.lemmas.Bool.Decides.{nat_tests}
pub use Rattle.std.proofs.lemmas.Bool.{and_from, and_parts, false≢true}
pub use Rattle.std.proofs.lemmas.Cmp.{ranked}
pub use Rattle.std.proofs.lemmas.Int.{ints, to_z-of_z}
pub use Rattle.std.proofs.lemmas.List.Elements.{All-cons, All-head, All-nil, All-push, All-replicate, All-same, All-tail, All-weaker}
pub use Rattle.std.proofs.lemmas.List.Sums.{sum_by-cons, sum_by_push}
pub use Rattle.std.proofs.lemmas.List.{length-append, length-map, take-map}
pub use Rattle.std.proofs.lemmas.Str.{is_utf8-from_IsUtf8}
pub use Rattle.std.specs.BTreeSet.{BTreeSet, contains, insert_key}
pub use Rattle.std.specs.FinMap.Entries.{below_all}
pub use Rattle.std.specs.FinMap.{FinMap, empty, entries, get, get-empty, insert, is_sorted, len-empty, len-entries}
pub use Rattle.std.specs.List.{AllByRecursion, filter, find, flat_map, list_all, list_any}
pub use Rattle.std.specs.Ordering.{int_eq, is_lt, match_ordering, nat_cmp}
pub use Rattle.std.specs.Prelude.{All, IfErr, IfOk, IsErr, IsOk, IsTrue, OnErr, OnOk, Vec, if◌then◌else◌, int_le, int_lt, is_some, nat_lt, option_map, string_bytes, unwrap_or, vec_len}
pub use Rattle.std.specs.Str.{IsAscii, IsUtf8, is_utf8}
pub use Rattle.std.specs.declared.cmp.Ordering.TheVariants.{Equal, Greater, Less}
pub use Rattle.stock_tables.specs.Stocked.{Restocked, Stocked, restocked, using_up}
pub use Rattle.table_state.specs.Shown.{Declarations, HasAnnounced, HaveCome, announced_by, announced_row, announcing, declaring, takes_back, has_come_by, put_over, putting_waybill, AreBoarded, Finds, HasAsked, HasOpen, HasThese, HaveAsked, IfGivenBack, IsBoarded, IsCounted, Knows, Shows, Stands, Tells, in_tables, joins, opens, AreCovered, AreTold, Covers, HaveSpans, IsCovered, IsSpanned, IsTold, LiesIn, Reaches}
pub use Rattle.table_state.specs.declared.counted.KnownCounts.{KnownCounts}
pub use Rattle.table_state.specs.declared.counted.KnownSpans.{KnownSpans}
pub use Rattle.table_state.specs.declared.open_lines.OpenLines.{OpenLines}
pub use Rattle.table_state.specs.declared.state.TableState.{TableState}
