-- The names that proofs of this crate cite, passed on from one place. Declares nothing.
pub use Rattle.agent_stock.specs.declared.runs.StockRun.{StockRun}
pub use Rattle.awb_number.specs.Number.{number_text, prefix_of, serial_of}
pub use Rattle.desk_commands.proofs.Written.{told}
pub use Rattle.imp_fields.specs.Fields.{Designator, flight_text}
pub use Rattle.reports.specs.Reports.{book_cells, cell_text, data_by, data_of, expected_cells, field_of, flight_cells, irregular_cells, line_by, line_of, manifest_cells, members_in, next_text, shed_cells, stock_cells, summary_cells, kept_rows, is_unsettled, open_irregular_rows, spaced, end_line, kept_line, message_lines, report_text, trail_line, IsListing, IsTextOf, IsWhole, is_awaited, is_held_by, is_open, items_of, rows_data, rows_text, count_data, kept_data, members_of, message_data, trail_data, before_row, close_of_none, end_piece, in_form, row_piece, IsExpectedReport, IsFlightReport, IsStockReport, irregularity_report, movement_book, pending_report, shed_report, trail_report}
pub use Rattle.reports.specs.Passes.{AreDated, IsDay, IsSince, lasts, own_moves, HasEnded, HasEndedBy, HasEndedEach, HasTold, HaveGone, IsBegun, IsCause, StopsBy, StopsWriting, WritesReport, WritesRows, has_pieces, leaves, manifest_of, manifest_row, manifest_rows, takes_away, AreOne, HaveBytes, TakesWanted, Ends, HasGone, HasStuck, IsWhy, Progress, Takes, Waits, progress_of, IsNew, TakesMove, counted, listed, nothing_of, row_of, tally_in, with_move}
pub use Rattle.reports.specs.declared.cells.Cell.{Cell}
pub use Rattle.reports.specs.declared.report.ReportCause.{ReportCause}
pub use Rattle.reports.specs.declared.report.ReportFault.{ReportFault}
pub use Rattle.reports.specs.declared.layout.Form.TheVariants.{Json, Text}
pub use Rattle.reports.specs.declared.layout.Form.{Form}
pub use Rattle.reports.specs.declared.manifest.ManifestRow.{ManifestRow}
pub use Rattle.reports.specs.declared.tallies.Count.{Count}
pub use Rattle.reports.specs.declared.tallies.Tallies.{Tallies}
pub use Rattle.row_sinks.specs.Handed.{HandedOut}
pub use Rattle.serde_json.specs.Data.{Data, member, no_members, string}
pub use Rattle.serde_json.specs.Written.{compact_text, items_text, members_text}
pub use Rattle.shipment_machine.proofs.OnFlight.{Rising-waybills_of, is_in-waybills_of}
pub use Rattle.shipment_machine.proofs.Rising.{Rising-filter, is_in-filter, same_rising}
pub use Rattle.shipment_machine.specs.Book.{amount, brings, has_moves, moved_in, moved_out, same_place, takes, tenths_of, waybills_of}
pub use Rattle.shipment_machine.specs.Cargo.{Cargo}
pub use Rattle.shipment_machine.specs.declared.flight.FlightDate.{FlightDate}
pub use Rattle.shipment_machine.specs.declared.moves.Move.{Move}
pub use Rattle.shipment_machine.specs.declared.moves.Place.TheVariants.{Built, Departed, Free, Hand, Missing, Surplus}
pub use Rattle.station_core.specs.Ends.{NoneFailed, OneFailed, Sent}
pub use Rattle.station_core.specs.Given.{Given}
pub use Rattle.station_core.specs.Keeping.{IsReadersFault, Keeping, OnlyReads}
pub use Rattle.station_core.specs.Readers.{AreAnnounced, AreExpectations, AreExpectedBy, AreExpectedRows, AreFlightRows, AreNoted, asks_for, book_by, book_row, book_rows, by_expectation, by_flight, expected_for, expected_row, flight_row, irregular_rows, is_named, is_of_flight, messages_about, messages_after, messages_by, movements_for, numbered, pending_messages, shed_rows, trail_by}
pub use Rattle.station_core.specs.Step.{State, after_all, opening}
pub use Rattle.station_core.specs.declared.answer.ActFault.{ActFault}
pub use Rattle.station_core.specs.declared.rows.BookQuery.TheVariants.{After, Last, Of, On}
pub use Rattle.station_core.specs.declared.rows.BookRow.{BookRow}
pub use Rattle.station_core.specs.declared.rows.ExpectedRow.{ExpectedRow}
pub use Rattle.station_core.specs.declared.rows.FlightRow.{FlightRow}
pub use Rattle.std.proofs.Common.{Bool, Err, IfErr, IfOk, List, None, Ok, OnErr, Option, Result, Some, [], ap, append-nil, append_assoc, arith, cond, decimal, false, get_or, inl, inr, length, refl, replicate, rules, subst, suc, sym, take, true, true≢false, zero, ℕ, ⊎_elim, ◌%◌, ◌&&◌, ◌*◌, ◌++◌, ◌+◌, ◌-◌, ◌/◌, ◌<◌, ◌||◌, ◌∙◌, ◌∷◌, ◌≡◌, ◌≢◌, ◌≤◌}
pub use Rattle.std.proofs.lemmas.Bool.{and_from, and_parts, cases_lt, eq-eqb, eqb-true, false≢true, le-leb, le-ltb, leb-true, lt-ltb, ltb-true, or_cases}
pub use Rattle.std.proofs.lemmas.Grind.{common_steps}
pub use Rattle.std.proofs.lemmas.List.Sums.{sum_by-cons, sum_by_push}
pub use Rattle.std.proofs.lemmas.List.{length-append, length-take-le, replicate-append-replicate, take-append-drop, take-append-le, take_all, take_more}
pub use Rattle.std.specs.BTreeMap.{BTreeMap, IsOrdered, get, keys}
pub use Rattle.std.specs.Cmp.{nat_cmp_total, ranked, unsigned_tied}
pub use Rattle.std.specs.List.{AllByRecursion, AllZip, flat_map, join_with_byte, list_any, slice_get, sum_by}
pub use Rattle.std.specs.Option.{option_map, unwrap_or}
pub use Rattle.std.specs.Ordering.{eq_by_cmp, is_eq, nat_cmp}
pub use Rattle.std.specs.Prelude.{IsSome, IsTrue, OnOk, codes, filter, if◌then◌else◌, is_some, map, nat_lt, not, string_bytes, ◌==◌, ◌⊎◌}
pub use Rattle.std.specs.Result.{IsOk, is_ok}
