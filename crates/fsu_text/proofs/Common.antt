-- The names that proofs of this crate cite, passed on from one place. Declares nothing.
pub use Rattle.awb_number.proofs.Padded.{digits-padded, is_digit_bounds, length-padded}
pub use Rattle.awb_number.specs.Number.{is_digit, is_letter, is_letter_or_digit, padded, check_digit, key_of, number_of, number_text, prefix_of, serial_of}
pub use Rattle.fsu_text.specs.Fsu.{IsFsu, IsRead, StatusUpdate, amount_of, declared_cargo, fsu_fault, fsu_line_faults, fsu_lines, sent_status_reading, sent_status_text, told_as, update_written, written_quantity}
pub use Rattle.fsu_text.specs.Sent.{IsSent, IsUpdate}
pub use Rattle.fsu_text.specs.Status.{Carried, Day, Differs, Handled, Reading, ReceivedFromFlight, carriage_code, carriage_of, carried_by, carried_of, day_of, differs_by, differs_of, discrepancy_code, discrepancy_of, handled_by, handled_of, handling_code, handling_of, name_of, name_tail, received_by, received_of, route_of, status_of}
pub use Rattle.fsu_text.specs.declared.sent.SentCarriage.{SentCarriage}
pub use Rattle.fsu_text.specs.declared.sent.SentStatus.{SentStatus}
pub use Rattle.fsu_text.specs.declared.sent.SentUpdate.{SentUpdate}
pub use Rattle.fsu_text.specs.declared.status.Carriage.{Carriage}
pub use Rattle.fsu_text.specs.declared.status.Handling.{Handling}
pub use Rattle.imp_fields.proofs.ConsignmentLaws.{consignment_again, quantity_unread, unread_is_no_slash}
pub use Rattle.imp_fields.proofs.FaultLaws.{err_of-none, err_of-ok, fault_in-all_none, fault_in-none, unless_true-holds, unless_true-none}
pub use Rattle.imp_fields.proofs.FieldLaws.{IsCode, airport_code, date_again, date_code, flight_again, flight_code, minute_again, optional_time_again}
pub use Rattle.imp_fields.proofs.WrittenLaws.{all_weaker, quantity_again}
pub use Rattle.imp_fields.specs.Fields.{fields, is_blank, is_point, is_printable, is_slash, Designator, flight_of, flight_text}
pub use Rattle.imp_fields.specs.Message.{Shipment, consignment_by, consignment_of, consignment_text, has_consignment_shape, quantity_part, shipment_of, err_of, is_head, sent_text, unless_true, ends_in_blank, is_name, IsFaultOf, fault_at, first_fault, line_texts, normal_lines, code_letter, is_unread, quantity_of, quantity_text, written_code}
pub use Rattle.imp_fields.specs.declared.amount.Quantity.{Quantity}
pub use Rattle.imp_fields.specs.declared.amount.ShipmentCode.TheVariants.{Part, Total}
pub use Rattle.imp_fields.specs.declared.amount.ShipmentCode.{ShipmentCode}
pub use Rattle.imp_fields.specs.declared.line.Discrepancy.{Discrepancy}
pub use Rattle.imp_fields.specs.declared.fault.Why.{Why}
pub use Rattle.station_days.specs.Date.{CalendarDay, IsCalendarDay, When, date_of, date_text, date_time_of, minute_of, optional_time_of, time_text, when_text, or_else, where_true, ◌>>=◌}
pub use Rattle.std.proofs.Common.{All, Bool, Err, List, None, Ok, Option, Result, Some, [], ap, append_assoc, arith, cond, drop, false, get_or, inl, inr, length, map, refl, subst, sym, true, ℕ, ◌++◌, ◌+◌, ◌<◌, ◌∙◌, ◌∷◌, ◌≡◌, ◌≤◌}
pub use Rattle.std.proofs.lemmas.Bool.{and_from, and_parts, cond-false, cond-true, eqb-true, le-leb, leb-true, ne_eqb, not-true, or_cases, or_left, or_right}
pub use Rattle.std.proofs.lemmas.List.Folds.{list_all-append}
pub use Rattle.std.proofs.lemmas.List.Splits.{join_with_byte-slice_split, length-slice_split}
pub use Rattle.std.proofs.lemmas.List.{append-nil, drop_at, length-append, take_at}
pub use Rattle.std.specs.List.{join_with_byte, list_all, onto_first}
pub use Rattle.std.specs.Prelude.{IsTrue, codes, decimal, nat_le, not, option_map, take, ◌%◌, ◌&&◌, ◌/◌, ◌==◌}
