-- The names that proofs of this crate cite, passed on from one place. Declares nothing.
pub use Rattle.awb_number.proofs.Padded.{decimal_value-last, decimal_value-padded, digits-padded, is_digit_bounds, is_digit_from, length-padded}
pub use Rattle.awb_number.specs.Number.{decimal_value, is_digit, is_letter, is_letter_or_digit, padded, IsNumber, has_number_shape, key_of, number_of}
pub use Rattle.imp_fields.specs.Fields.{airport_of, is_airport, IsPieces, IsTenths, book_weight_of, count_of, denominator_of, is_digit_or_point, is_weight_numeral, numerator_of, rounded_tenths, share_of, tenths_of, NoneInFront, before_last_while, drop_while, fields, is_blank, is_line, is_point, is_printable, is_slash, last_while, Designator, IsDesignator, flight_of, flight_text, is_carrier, same_flight, same_letter, suffix_of, suffix_text, AreSlices, AreSlicesFrom, IsSlice, is_line_token}
pub use Rattle.imp_fields.specs.Message.{Shipment, WrittenLine, consignment_by, consignment_of, consignment_text, goods_part, goods_text, has_consignment_shape, quantity_part, shipment_written, err_of, fault_in, is_head, sent_text, unless_true, ends_in_blank, is_goods, is_name, kept_goods, trimmed, BeginLines, IsFaultOf, fault_at, fault_of, first_fault, first_kind, from_line, from_message_line, is_empty, is_message_line, is_newline, kind_of, line_fault, line_starts, line_without_end, lines_of, normal_lines, normal_text, starts_from, unless_fault, AreTenths, IsQuantity, IsTotal, IsWeight, code_letter, code_of, ends_in_t, is_unread, left_in, left_of_weight, quantity_after, quantity_of, quantity_text, total_at_end, total_text, unit_of, weight_at_front, weight_in, weight_text, written_code, AreKept, AreSlicesBefore, IsScanned, IsScannedTo, Sees, pieces_from}
pub use Rattle.imp_fields.specs.declared.amount.Quantity.{Quantity}
pub use Rattle.imp_fields.specs.declared.amount.ShipmentCode.TheVariants.{Divided, Multi, Part, Split, Total}
pub use Rattle.imp_fields.specs.declared.amount.ShipmentCode.{ShipmentCode}
pub use Rattle.imp_fields.specs.declared.fault.TextFault.{TextFault}
pub use Rattle.imp_fields.specs.declared.fault.Why.{Why}
pub use Rattle.imp_fields.specs.declared.line.MessageKind.{MessageKind}
pub use Rattle.imp_fields.specs.declared.normal.Scan.{Scan}
pub use Rattle.imp_fields.specs.declared.line.Token.{Token}
pub use Rattle.station_days.specs.Date.{or_else, where_true, ◌>>=◌}
pub use Rattle.std.proofs.Common.{Bool, List, None, Option, Some, [], ap, append-nil, append_assoc, arith, cond, drop, false, get_or, inl, inr, length, map, refl, subst, suc, sym, take, true, true≢false, zero, ℕ, ◌*◌, ◌++◌, ◌+◌, ◌-◌, ◌<◌, ◌^◌, ◌∙◌, ◌∷◌, ◌≡◌, ◌≤◌, ◌⊎◌}
pub use Rattle.std.proofs.Math.ListN.{get_or-append, get_or-eq_default}
pub use Rattle.std.proofs.Math.Nat.{div-le_of_le-mul, div-lt_iff_lt-mul, one-le-pow, pow-le-pow_right}
pub use Rattle.std.proofs.Math.Seq.{get_or-append_seam, take-add}
pub use Rattle.std.proofs.lemmas.Bool.{and_from, and_left, and_parts, and_right, cases_Bool, cases_cond, cases_lt, cond-false, cond-true, cond_both, eq-eqb, eqb-true, le-leb, le-ltb, leb-true, lt-leb, lt-ltb, ltb-true, ne_eqb, not-true, not_from_false, not_from_true, or_left, or_right}
pub use Rattle.std.proofs.lemmas.Fmt.{decimal_by_steps, decimal_nonempty, decimal_step, length-decimal-le}
pub use Rattle.std.proofs.lemmas.List.Folds.{length-prefix_len, list_all-append, list_all-map, prefix_len-append}
pub use Rattle.std.proofs.lemmas.List.Splits.{join_with_byte-slice_split, slice_split_first, slice_split_none}
pub use Rattle.std.proofs.lemmas.List.Sums.{AllPass-from_list_all, list_all-from_AllPass, prefix_len-le-length, prefix_len_passes, prefix_len_stops, suffix_len-le-length, sum_by-append}
pub use Rattle.std.proofs.lemmas.List.{drop-append-le, drop-drop, drop-take, drop_all, drop_at, get_or-append-add, get_or-drop, get_or-reverse, get_or-take, length-append, length-drop, length-map, length-reverse, length-take, length-take-le, map-append, reverse-append, take-append-drop, take-append-le, take-map, take-take, take_all, take_at, take_more}
pub use Rattle.std.proofs.lemmas.Option.{cond_some}
pub use Rattle.std.specs.List.{AllByRecursion, after_first, before_first, join_with_byte, list_all, onto_first, position_or_len, prefix_len, slice_split, suffix_len}
pub use Rattle.std.specs.Prelude.{Err, IfSome, IsTrue, Ok, Result, codes, count_by, decimal, filter, is_some, min, nat_le, nat_lt, not, position, replicate, reverse, slice_index, slice_range, take_while, ◌%◌, ◌&&◌, ◌/◌, ◌==◌}
pub use Rattle.std.specs.Str.{IsAscii, bytes_eq}
