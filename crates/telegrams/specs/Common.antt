-- The words of other crates that this crate's definitions and contracts cite, passed on from one
-- place. Declares nothing.
pub use Rattle.std.specs.List.{list_all}
pub use Rattle.std.specs.Option.{unwrap_or}
pub use Rattle.ffm_text.specs.Ffm.{IsFfm, Manifest, Unloaded, ffm_fault, ffm_lines, manifest_written, unloaded_of, AreWritten, IsLoad}
pub use Rattle.ffm_text.specs.declared.FfmLine.{FfmLine}
pub use Rattle.ffm_text.specs.declared.Load.{Load}
pub use Rattle.fsu_text.specs.Fsu.{IsFsu, StatusUpdate, fsu_fault, fsu_lines, sent_status_reading, sent_status_text, update_written}
pub use Rattle.fsu_text.specs.Status.{status_of}
pub use Rattle.fsu_text.specs.Sent.{is_plain}
pub use Rattle.fsu_text.specs.declared.sent.SentStatus.{SentStatus}
pub use Rattle.fsu_text.specs.declared.sent.SentUpdate.{SentUpdate}
pub use Rattle.fwb_text.specs.Fwb.{IsFwb, fwb_fault}
pub use Rattle.imp_fields.specs.Fields.{is_line, is_printable, most_waybills, most_lines}
pub use Rattle.imp_fields.specs.Message.{Shipment, shipment_of, sent_text, kept_goods, IsFaultOf, fault_at, first_kind, line_texts, normal_lines, normal_text}
pub use Rattle.imp_fields.specs.declared.fault.TextFault.{TextFault}
pub use Rattle.imp_fields.specs.declared.fault.Why.{Why}
pub use Rattle.imp_fields.specs.declared.line.Consignment.{Consignment}
pub use Rattle.imp_fields.specs.declared.line.MessageKind.{MessageKind}
pub use Rattle.imp_fields.specs.declared.line.WaybillSummary.{WaybillSummary}
pub use Rattle.shipment_machine.specs.declared.command.CargoLine.{CargoLine}
pub use Rattle.shipment_machine.specs.declared.command.InboundLine.{InboundLine}
pub use Rattle.shipment_machine.specs.declared.flight.FlightDate.{FlightDate}
pub use Rattle.shipment_machine.specs.declared.notice.Event.{Event}
pub use Rattle.shipment_machine.specs.declared.notice.ManifestLine.{ManifestLine}
pub use Rattle.shipment_machine.specs.declared.notice.Notice.{Notice}
pub use Rattle.shipment_machine.specs.declared.plans.Refusal.{Refusal}
pub use Rattle.station_days.specs.Date.{date_on, when_at}
