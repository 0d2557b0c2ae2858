-- The names that proofs of this crate cite, passed on from one place. Declares nothing.
pub use Rattle.awb_number.proofs.Padded.{digits-padded}
pub use Rattle.awb_number.specs.Number.{is_digit, is_letter, is_letter_or_digit, padded, check_digit, key_of, number_of, number_text, prefix_of, serial_of}
pub use Rattle.ffm_text.specs.Ffm.{FlightLine, IsCargo, IsFfm, Manifest, Unloaded, cargo_fault, cargo_faults, cargo_of, date_in, ffm_fault, ffm_line_faults, ffm_lines, field, flight_line_of, flight_line_text, has_last_line, is_cargo_line, is_last_line, is_remark, last_point, manifest_written, may_follow_point, ordered_fault, part_of, unloaded_of, unloading_point, AreCargo, IsScan, texts_of, AreLoads, Begins, IsLoad, amount_text, line_text, load_line, route_text}
pub use Rattle.ffm_text.specs.declared.Load.{Load}
pub use Rattle.imp_fields.proofs.ConsignmentLaws.{IsWrittenLine, consignment_again, quantity_unread}
pub use Rattle.imp_fields.proofs.FaultLaws.{AllNone, err_of-none, err_of-ok, fault_in-all_none, fault_in-none, first_fault-all_none, unless_true-holds, unless_true-none}
pub use Rattle.imp_fields.proofs.FieldLaws.{IsCode, airport_code, date_code, flight_again, flight_code, last_field, optional_time_again, split_field}
pub use Rattle.imp_fields.specs.Fields.{airport_of, is_airport, IsPieces, count_of, fields, is_blank, is_printable, Designator, IsDesignator, flight_of, flight_text}
pub use Rattle.imp_fields.specs.Checks.{need, ◌>>=◌}
pub use Rattle.imp_fields.specs.Message.{HasSpans, Shipment, consignment_by, consignment_of, consignment_text, goods_text, has_consignment_shape, quantity_part, shipment_written, err_of, fault_in, is_head, sent_text, IsFaultBy, IsFaultOf, fault_at, first_fault, normal_lines, code_letter, is_unread, quantity_of, quantity_text, total_text, weight_text}
pub use Rattle.imp_fields.specs.declared.amount.ShipmentCode.{ShipmentCode}
pub use Rattle.imp_fields.specs.declared.fault.TextFault.{TextFault}
pub use Rattle.imp_fields.specs.declared.fault.Why.{Why}
pub use Rattle.imp_fields.specs.declared.line.Token.{Token}
pub use Rattle.station_days.specs.Date.{CalendarDay, IsCalendarDay, date_text}
pub use Rattle.std.proofs.Common.{Bool, Err, List, None, Ok, Option, Result, Some, [], add-one, ap, append_assoc, arith, cond, drop, false, get_or, inl, inr, length, map, refl, subst, suc, sym, take, true, zero, ℕ, ◌*◌, ◌++◌, ◌+◌, ◌-◌, ◌<◌, ◌∙◌, ◌∷◌, ◌≡◌, ◌≤◌}
pub use Rattle.std.proofs.lemmas.Bool.{MatchBool-at_false, MatchBool-at_true, and_from, and_left, and_parts, and_right, cases_Bool, cond-false, cond-true, cond_both, eqb-true, leb-true, lt-leb, not-true, not_from_false, or_from, or_left}
pub use Rattle.std.proofs.lemmas.List.Elements.{All-head, All-tail, filter-append, filter_map-append}
pub use Rattle.std.proofs.lemmas.List.{append-nil, length-append, length-map, length-take-le, map-append, take-append-drop, take-take, take_all, take_at, take_more}
pub use Rattle.std.specs.List.{All, AllZip, cons_option, last_or, list_all, starts_with}
pub use Rattle.std.specs.Prelude.{IfSome, MatchBool, OnOk, codes, decimal, filter, filter_map, if◌then◌else◌, is_some, nat_eq, nat_le, nat_lt, not, option_and_then, option_copied, option_map, slice_get, slice_index_or, slice_range, ◌%◌, ◌&&◌, ◌/◌, ◌==◌, ◌||◌}
