-- The names that proofs of this crate cite, passed on from one place. Declares nothing.
pub use Rattle.imp_fields.specs.Fields.{is_line, is_printable, last_while}
pub use Rattle.imp_fields.specs.Message.{fault_at, first_fault, from_line, from_message_line, is_empty, is_message_line, is_newline, line_fault, line_texts, line_without_end, lines_of, normal_lines, unless_fault}
pub use Rattle.imp_fields.specs.declared.fault.TextFault.{TextFault}
pub use Rattle.input_reasons.specs.Look.{AreNumbered, AreRead, IsLook, IsReadFrom, cargo_of, dropped_line, dropped_texts, front_lines, has_no_day, left_behind, loaded_by, loaded_in, loaded_part, lower_lines, lower_part, seen_line, seen_lines, seen_texts, dropped_object, list_text, message_members, passed_object, read_object, dropped_text, line_text, part_text}
pub use Rattle.input_reasons.specs.Reason.{HasReason, IsReason, numbered_head}
pub use Rattle.input_reasons.specs.declared.look.LinePart.{LinePart}
pub use Rattle.input_reasons.specs.declared.look.SeenLine.{SeenLine}
pub use Rattle.shipment_machine.specs.declared.command.InboundLine.{InboundLine}
pub use Rattle.std.proofs.Common.{Bool, Err, IfErr, IfOk, IsTrue, List, None, Ok, OnOk, Option, Result, Some, [], ap, arith, cond, drop, false, get_or, inr, length, refl, rules, string_bytes, subst, sym, take, true, ℕ, ◌++◌, ◌+◌, ◌<◌, ◌^◌, ◌∙◌, ◌∷◌, ◌≡◌, ◌≤◌}
pub use Rattle.std.proofs.lemmas.Bool.{and_from, and_parts, cases_Bool, cases_lt, cond-false, cond-true, eq-eqb, eqb-true, le-leb, lt-ltb, ne_eqb}
pub use Rattle.std.proofs.lemmas.List.Folds.{flat_map-map, list_all-append, list_all-map, list_all_at}
pub use Rattle.std.proofs.lemmas.List.{append_assoc, length-drop, length-map, length-take, map-append, take-append-drop, take-append-le, take_more}
pub use Rattle.std.specs.List.{cons_option, join_by, list_all, onto_first, position_or_len, slice_split, suffix_len}
pub use Rattle.std.specs.Prelude.{MatchBool, String, codes, decimal, filter_map, flat_map, is_some, map, nat_lt, not, position, take_while, ◌==◌}
pub use Rattle.telegrams.specs.declared.telegram.Content.{Content}
