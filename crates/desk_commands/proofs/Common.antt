-- The names that proofs of this crate cite, passed on from one place. Declares nothing.
pub use Rattle.agent_stock.specs.Fields.{is_agent_code}
pub use Rattle.agent_stock.specs.declared.stock.Order.TheVariants.{GiveBack, Issue, TakeIn, Void}
pub use Rattle.awb_number.proofs.Padded.{decimal_value-last, decimal_value-padded, decimal_value_bound, digits-padded, is_digit_bounds, is_digit_from, padded-decimal_value}
pub use Rattle.awb_number.specs.Number.{decimal_value, is_digit, is_letter, is_letter_or_digit, padded, IsNumber, check_digit, number_text, prefix_of, serial_of}
pub use Rattle.desk_commands.specs.Body.{AreMembers, IsBodyOf, IsMember, body_says, fields_say, flight_member, member_count, member_if_any, member_says, members_len, number_member, text_member, IsNext, flight_value, flight_value_if_any, is_end, is_number, line_says, lines_command, lines_left, lines_of, lines_say, number_of, number_value, places_of, places_say, text_says, text_value_if_any, written_flight_of}
pub use Rattle.desk_commands.specs.Command.{IsAirport, IsCommand, IsFlightDate, IsRun, command_in, command_of, command_text, day, day_if_any, flight, flight_if_any, number, prefix_text, serial_text, values_of, verb_of, date_in, date_part, day_of, has_digits, if_written, is_calendar_day, named_day, year_part, agent_in, airline_in, airport_in, awb_in, awb_of, count_in, counted_in, digits_in, digits_of, flight_date_in, flight_if_any_in, flight_in, goods_in, is_present, line_of, name_in, number_in, pieces_in, run_in, tenths_in, text_in, is_word, kind_of, name, places, row, verb_called, verbs, word}
pub use Rattle.desk_commands.specs.declared.command.Command.TheVariants.{Cargo, Stock}
pub use Rattle.desk_commands.specs.declared.command.Command.{Command}
pub use Rattle.desk_commands.specs.declared.field_value.FieldValue.TheVariants.{Absent, Flight, Number, Text}
pub use Rattle.desk_commands.specs.declared.field_value.FieldValue.{FieldValue}
pub use Rattle.desk_commands.specs.declared.verb.Field.{Field}
pub use Rattle.desk_commands.specs.declared.verb.Kind.{Kind}
pub use Rattle.desk_commands.specs.declared.verb.Verb.{Verb}
pub use Rattle.imp_fields.proofs.FieldLaws.{flight_again, flight_code}
pub use Rattle.imp_fields.proofs.SameFlight.{bytes_eq-refl, bytes_eq-true}
pub use Rattle.imp_fields.specs.Fields.{is_airport, IsPieces, IsTenths, count_of, drop_while, is_printable, Designator, IsDesignator, flight_of, flight_text, is_carrier, suffix_of}
pub use Rattle.imp_fields.specs.Message.{is_goods, is_name}
pub use Rattle.serde_json.specs.View.{members_view, view}
pub use Rattle.shipment_machine.specs.Book.{IsCount}
pub use Rattle.shipment_machine.specs.declared.command.DeskCommand.TheVariants.{Amend, Book, CheckIn, Confirm, Deliver, Depart, Found, Manifest, Missing, Notify, Offload, Receive, Reroute, Strike, Transfer, Withdraw}
pub use Rattle.shipment_machine.specs.declared.flight.FlightDate.{FlightDate}
pub use Rattle.station_days.specs.Date.{CalendarDay, IsCalendarDay, IsMomentDay, date_on, day_in_year, days_after, is_moment_day, year_of, where_true, ◌>>=◌}
pub use Rattle.std.proofs.Common.{Bool, List, None, Option, Some, String, [], ap, arith, cond, drop, false, length, map, nat_le, nat_lt, refl, subst, suc, sym, take, take_while, true, zero, ℕ, ◌%◌, ◌&&◌, ◌*◌, ◌++◌, ◌+◌, ◌-◌, ◌/◌, ◌<◌, ◌==◌, ◌^◌, ◌||◌, ◌∙◌, ◌∷◌, ◌≡◌, ◌≤◌}
pub use Rattle.std.proofs.lemmas.Bool.{and_from, and_parts, cond-false, cond-true, eq-eqb, eqb-true, le-leb, leb-true, lt-ltb, ltb-true, ne_eqb, not-true, not_from_false, or_right}
pub use Rattle.std.proofs.lemmas.List.Folds.{list_all-append}
pub use Rattle.std.proofs.lemmas.List.Splits.{join_with_byte-slice_split, length-slice_split, slice_split_first}
pub use Rattle.std.specs.List.{find, join_with_byte, list_all, onto_first, position_or_len}
pub use Rattle.std.specs.Prelude.{Err, IfSome, IsTrue, Ok, Result, codes, count_by, decimal, fold, not, option_map, pos, slice_get, slice_index, ⊤}
pub use Rattle.std.specs.Str.{bytes_eq}
