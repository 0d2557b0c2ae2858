-- The names that proofs of this crate cite, passed on from one place. Declares nothing.
pub use Rattle.ffm_text.specs.Ffm.{cargo_faults, ffm_fault, ffm_line_faults, ffm_lines, has_last_line, is_cargo_line, manifest_of, unloaded_of, AreLoads, AreWritten, IsLoad}
pub use Rattle.ffm_text.specs.declared.FfmLine.{FfmLine}
pub use Rattle.fsu_text.specs.Fsu.{fsu_fault, fsu_line_faults, fsu_lines, update_of}
pub use Rattle.fsu_text.specs.declared.status.StatusLine.{StatusLine}
pub use Rattle.fwb_text.specs.Fwb.{fwb_fault, fwb_line_faults}
pub use Rattle.imp_fields.specs.Fields.{is_line, is_printable}
pub use Rattle.imp_fields.specs.Message.{HasSpans, Shipment, fault_in, sent_text, IsFaultBy, IsFaultOf, fault_at, fault_of, first_fault, first_kind, from_line, is_message_line, line_fault, line_texts, lines_of, normal_lines, normal_text, unless_fault}
pub use Rattle.imp_fields.specs.declared.fault.TextFault.{TextFault}
pub use Rattle.imp_fields.specs.declared.line.Token.{Token}
pub use Rattle.shipment_machine.specs.declared.notice.ManifestLine.{ManifestLine}
pub use Rattle.shipment_machine.specs.declared.notice.Notice.{Notice}
pub use Rattle.station_days.specs.Date.{CalendarDay, IsCalendarDay, date_on}
pub use Rattle.std.proofs.Common.{Bool, Err, IfOk, List, None, Ok, Option, Result, Some, [], ap, append_assoc, arith, cond, drop, false, get_or, length, map, refl, subst, suc, sym, take, true, ℕ, ◌++◌, ◌+◌, ◌-◌, ◌<◌, ◌∙◌, ◌∷◌, ◌≡◌, ◌≤◌}
pub use Rattle.std.proofs.lemmas.Bool.{and_from, and_parts, ltb-false}
pub use Rattle.std.proofs.lemmas.List.Elements.{All-head, All-more, All-tail}
pub use Rattle.std.proofs.lemmas.List.{length-map, map-append, take-append-drop, take_all, take_more}
pub use Rattle.std.specs.List.{All, AllZip, list_all}
pub use Rattle.std.specs.Prelude.{codes, filter, nat_le, nat_lt, position, slice_get, unwrap_or, ◌==◌, ◌||◌}
pub use Rattle.telegrams.specs.Meaning.{has_plain_cargo, has_plain_goods, is_text_byte, IsTelegram, Meant, RefusesAs, RefusesText, Says, cargo_line, fault_by, inbound_line, kind_said, message_fault, part_content, refusal_of, status_content, telegram_fault, IsManifestAgain, IsNormalManifest, IsReadAgain, IsUpdateAgain, notice_lines, notice_text, sent_load, status_of_event}
