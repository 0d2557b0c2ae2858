-- The lines of notices are normal, and are read as what was written.
use Rattle.telegrams.proofs.Common.{AreWritten, CalendarDay, IsManifestAgain, IsNormalManifest, IsReadAgain, IsUpdateAgain, List, ManifestLine, Notice, Ok, [], ap, date_on, ffm_lines, fsu_lines, map, normal_lines, notice_lines, notice_text, sent_load, sent_text, status_of_event, subst, sym, ℕ, ◌++◌, ◌∙◌, ◌≡◌}
use Rattle.imp_fields.specs.Fields.{Designator}
use Rattle.imp_fields.specs.declared.line.WaybillSummary.{WaybillSummary}
use Rattle.ffm_text.specs.declared.Load.{Load}
use Rattle.ffm_text.proofs.WrittenLaws as ffm
use Rattle.ffm_text.proofs.SentAgain.{sent_again}
use Rattle.fsu_text.specs.declared.sent.SentStatus.{SentStatus}
use Rattle.fsu_text.specs.declared.sent.SentUpdate.{SentUpdate}
use Rattle.shipment_machine.specs.declared.flight.FlightDate.{FlightDate}
use Rattle.shipment_machine.specs.declared.notice.Event.{Event}
use Rattle.shipment_machine.specs.declared.notice.Notice.TheVariants as notice

-- ---- manifests

pub manifest_normal : (here : List ℕ) (flight : FlightDate) (unload : List ℕ) (lines : List ManifestLine)
    → AreWritten flight.flight (date_on flight.day) here unload (map sent_load lines) → IsNormalManifest here flight unload lines
manifest_normal here flight unload lines h =
    sent_again flight.flight (date_on flight.day) here unload (map sent_load lines) h.designator h.calendar_day h.from h.to h.each h.few

pub manifest_again : (here : List ℕ) (flight : FlightDate) (unload : List ℕ) (lines : List ManifestLine)
    → AreWritten flight.flight (date_on flight.day) here unload (map sent_load lines) → IsManifestAgain here flight unload lines
manifest_again here flight unload lines h =
    ffm.read_again flight.flight (date_on flight.day) here unload (map sent_load lines) h.designator h.calendar_day h.from h.to h.each

pub manifest_told : (flight : Designator) (here unload : List ℕ) (date told : CalendarDay) (loads sent : List Load) (old new : List ℕ)
    → old ≡ [] → date ≡ told → loads ≡ sent → new ≡ old ++ sent_text (ffm_lines flight date here unload loads)
    → new ≡ sent_text (ffm_lines flight told here unload sent)
manifest_told flight here unload date told loads sent old new empty day same written =
    written ∙ ap (λ t. t ++ sent_text (ffm_lines flight date here unload loads)) empty
    ∙ ap (λ d. sent_text (ffm_lines flight d here unload loads)) day ∙ ap (λ ls. sent_text (ffm_lines flight told here unload ls)) same

-- ---- status messages

abbrev update_by : List ℕ → WaybillSummary → SentStatus → ℕ → ℕ → SentUpdate
update_by here consigned status pieces tenths = record { «of» = consigned; status = status; here = here; pieces = pieces; tenths = tenths }

abbrev IsNormalNotice : Notice → Type 0
IsNormalNotice n = normal_lines (notice_text n) ≡ Ok (notice_lines n)

pub status_normal : (n : Notice) (here : List ℕ) (consigned : WaybillSummary) (what : Event) (pieces tenths : ℕ) (status : SentStatus)
    → n ≡ notice.Status here consigned what pieces tenths → status ≡ status_of_event what
    → normal_lines (sent_text (fsu_lines (update_by here consigned status pieces tenths))) ≡ Ok (fsu_lines (update_by here consigned status pieces tenths))
    → normal_lines (notice_text n) ≡ Ok (notice_lines n)
status_normal n here consigned what pieces tenths status is told h =
    subst IsNormalNotice (sym is)
    (subst (λ (s : SentStatus). normal_lines (sent_text (fsu_lines (update_by here consigned s pieces tenths))) ≡ Ok (fsu_lines (update_by here consigned s pieces tenths))) told h)

pub status_again : (n : Notice) (here : List ℕ) (consigned : WaybillSummary) (what : Event) (pieces tenths : ℕ) (status : SentStatus)
    → n ≡ notice.Status here consigned what pieces tenths → status ≡ status_of_event what
    → IsUpdateAgain (update_by here consigned status pieces tenths) → IsReadAgain n
status_again n here consigned what pieces tenths status is told h =
    subst IsReadAgain (sym is) (subst (λ (s : SentStatus). IsUpdateAgain (update_by here consigned s pieces tenths)) told h)

-- ---- notices of manifests

pub flight_normal : (n : Notice) (here : List ℕ) (flight : FlightDate) (unload : List ℕ) (lines : List ManifestLine)
    → n ≡ notice.Manifest here flight unload lines → IsNormalManifest here flight unload lines → normal_lines (notice_text n) ≡ Ok (notice_lines n)
flight_normal n here flight unload lines is h = subst IsNormalNotice (sym is) h

pub flight_again : (n : Notice) (here : List ℕ) (flight : FlightDate) (unload : List ℕ) (lines : List ManifestLine)
    → n ≡ notice.Manifest here flight unload lines → IsManifestAgain here flight unload lines → IsReadAgain n
flight_again n here flight unload lines is h = subst IsReadAgain (sym is) h
