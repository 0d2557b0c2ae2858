-- A view of a lawful state fits its command, and decides the effect.
use Rattle.shipment_machine.proofs.Common.{AreRowsOf, AreSound, Bool, Cargo, Change, Err, FitsCommand, IfErr, IfOk, InboundPart, IsAnswer, IsLawful, List, LocalMinute, None, Ok, Option, Outcome, Plan, PlanFault, Refusal, RefusesAs, Result, ShipmentCommand, Some, [], announced, announced_changes, announcing, ap, balances_of, decided, effect, false, first_refusal, if◌then◌else◌, inbound_flight, inbound_part, is_day, is_some, length, length-map, line_view_of, lines_for, map, meant_by, no_earlier, not, outcome_of, part_key, reads, refl, resolved, rows_answer, rows_for, rows_of, sym, true, true≢false, unless_refused, ℕ, ◌∙◌, ◌≡◌}
use Rattle.shipment_machine.specs.declared.view.RowsKey.{RowsKey}
use Rattle.shipment_machine.specs.declared.view.RowsKey.TheVariants as key
use Rattle.shipment_machine.specs.declared.view.Rows.{Rows}
use Rattle.shipment_machine.specs.declared.view.Rows.TheVariants as rows
use Rattle.shipment_machine.specs.declared.command.ShipmentCommand.TheVariants as order
use Rattle.shipment_machine.specs.declared.plans.PlanFault.TheVariants as fault
use Rattle.shipment_machine.specs.declared.plans.Detail.TheVariants as detail
use Rattle.imp_fields.specs.declared.fault.Why.TheVariants as why
use Rattle.shipment_machine.proofs.Conserved.{held_free, held_built, held_missing, missing_came}
use Rattle.shipment_machine.proofs.LawfulView.{held_expected, on_board, noted_outbound}
use Rattle.shipment_machine.proofs.AnnouncedIs.{announced_is}

sound : (s : Cargo) (w : ℕ) → IsLawful s → AreSound (balances_of s.book w)
sound s w law = record { free = held_free s w law; missing = held_missing s w law; came = missing_came s w law }

-- the rows of a manifest, where its date means this day
abbrev rows_of_part : Cargo → InboundPart → LocalMinute → Bool → Rows
rows_of_part s f at day = if day then rows.Lines (is_some (s.parts (inbound_part f at))) (map (line_view_of s (inbound_flight f at)) (lines_for s.here f.lines)) else rows.Lines false []

fits_part : (s : Cargo) (f : InboundPart) (at : LocalMinute) (meant : Option ℕ) (day : Bool) → is_day meant ≡ day → FitsCommand s.here (rows_of_part s f at day) (order.Ffm f) meant
fits_part s f at meant true e = λ _. length-map (lines_for s.here f.lines) (line_view_of s (inbound_flight f at))
fits_part s f at meant false e = λ h. absurd (true≢false (sym h ∙ e))

-- the rows of a lawful state are sound
are_rows : (s : Cargo) (k : RowsKey) → IsLawful s → AreRowsOf k (rows_of s k)
are_rows s (key.Declaration w) law = tt
are_rows s (key.Waybill w) law = sound s w law
are_rows s (key.Manifest w flight) law = sound s w law
are_rows s (key.Offload w flight) law = held_built s w flight law
are_rows s (key.Departure flight) law = (on_board s flight law, noted_outbound s flight law)
are_rows s (key.CheckIn w flight) law = held_expected s flight w law
are_rows s key.Messages law = tt

pub fits : (s : Cargo) (command : ShipmentCommand) (at : LocalMinute) → IsLawful s → FitsCommand s.here (rows_for s command at) command (meant_by command at)
fits s (order.Desk command) at law = are_rows s (reads command) law
fits s (order.Fwb c) at law = tt
fits s (order.Ffm f) at law = fits_part s f at (resolved f.date at.day) (is_day (resolved f.date at.day)) refl
fits s (order.Fsu f) at law = tt

abbrev dateless : Refusal
dateless = record { number = 301; detail = detail.Line 2 why.Date }

no_day : (day : Bool) (r : Refusal) (later : Option Refusal) (done : Result Outcome Refusal) → day ≡ false → unless_refused (if not day then Some r else later) done ≡ Err r
no_day false r later done e = refl
no_day true r later done e = absurd (true≢false e)

-- a part of a manifest is answered as its effect says
part_is : (s : Cargo) (f : InboundPart) (at : LocalMinute) (day : Bool) → is_day (resolved f.date at.day) ≡ day →
    rows_answer s.here (rows_of_part s f at day) (order.Ffm f) at (resolved f.date at.day) ≡ decided (announcing s f at)
part_is s f at true e =
    ap (λ (r : Result (List Change) Refusal). unless_refused (first_refusal (announcing s f at).refusals) (announced (inbound_part f at) (length (lines_for s.here f.lines)) r))
    (announced_is s (inbound_flight f at) at.day (lines_for s.here f.lines))
part_is s f at false e =
    no_day (is_day (resolved f.date at.day)) dateless None
    (announced (part_key f (resolved f.date at.day)) (length (lines_for s.here f.lines)) (announced_changes no_earlier (part_key f (resolved f.date at.day)).flight at.day (lines_for s.here f.lines) [])) e
    ∙ sym (no_day (is_day (resolved f.date at.day)) dateless (if is_some (s.parts (inbound_part f at)) then Some (record { number = 213; detail = detail.Part (inbound_part f at) }) else None) (announcing s f at).outcome e)

pub answers : (s : Cargo) (command : ShipmentCommand) (at : LocalMinute) → rows_answer s.here (rows_for s command at) command at (meant_by command at) ≡ effect s command at
answers s (order.Desk command) at = refl
answers s (order.Fwb c) at = refl
answers s (order.Ffm f) at = part_is s f at (is_day (resolved f.date at.day)) refl
answers s (order.Fsu f) at = refl

-- an answer is a plan that is the effect, or its refusal
pub planned : (r : Result Plan PlanFault) (answer done : Result Outcome Refusal) → IsAnswer r answer → answer ≡ done → IfOk r (λ plan. done ≡ Ok (outcome_of plan))
planned (Ok plan) answer done is e = sym e ∙ is
planned (Err told) answer done is e = tt

refused_as : (told : PlanFault) (answer done : Result Outcome Refusal) → RefusesAs answer told → answer ≡ done → RefusesAs done told
refused_as (fault.Refused refusal) answer done is e = sym e ∙ is
refused_as fault.Memory answer done is e = tt
refused_as fault.Unfit answer done is e = is

pub refused : (r : Result Plan PlanFault) (answer done : Result Outcome Refusal) → IsAnswer r answer → answer ≡ done → IfErr r (RefusesAs done)
refused (Ok plan) answer done is e = tt
refused (Err told) answer done is e = refused_as told answer done is e
