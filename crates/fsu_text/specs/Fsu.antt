-- Status update messages: a head, a consignment line, and at least one further line.
use Rattle.std.specs.Prelude.{unwrap_or, slice_get, drop, All, ◌≡◌, ℕ, nat_le, List, [], ◌∷◌, ◌++◌, length, map, option_map, Option, Some, None, Ok, IsTrue, codes}
use Rattle.fsu_text.specs.Common.{join_with_byte, written_code, flight_text, when_text, date_text, Shipment, WrittenLine, consignment_of, consignment_text, shipment_written, shipment_of, HasSpans, line_texts, Lines, is_head, unless_true, err_of, fault_in, Why, TextFault, Total, Quantity, WaybillSummary, SentStatus, Carriage, SentUpdate}
use Rattle.imp_fields.specs.declared.fault.Why.TheVariants as why
use Rattle.fsu_text.specs.declared.sent.SentStatus.TheVariants as sent
use Rattle.fsu_text.specs.declared.sent.SentCarriage.{SentCarriage}
use Rattle.fsu_text.specs.declared.sent.SentCarriage.TheVariants as leaving
use Rattle.fsu_text.specs.declared.status.Carriage.TheVariants as carriage
use Rattle.fsu_text.specs.declared.status.Status.{Status}
use Rattle.fsu_text.specs.declared.status.Status.TheVariants as status
use Rattle.fsu_text.specs.declared.status.StatusLine.{StatusLine}
use Rattle.fsu_text.specs.declared.sent.Fsu.{Fsu}
use Rattle.fsu_text.specs.Status.{Reading, Handled, ReceivedFromFlight, Carried, Differs, status_of, handling_code, carriage_code, discrepancy_code, amount_text, name_tail}

-- a message: the shipment, and the unchanged lines for its trail
pub record StatusUpdate : Type 0 where
  pub shipment : Shipment
  pub trail : List (List ℕ)

abbrev pub IsFsu : List (List ℕ) → StatusUpdate → Type 0
IsFsu [] u = ⊥
IsFsu (head ∷ []) u = ⊥
IsFsu (head ∷ line ∷ []) u = ⊥
IsFsu (head ∷ line ∷ next ∷ more) u =
    IsTrue (is_head (codes "FSU") head) × (consignment_of line ≡ Ok u.shipment) × (u.trail ≡ next ∷ more)

abbrev pub fsu_line_faults : List (List ℕ) → List (Option Why)
fsu_line_faults [] = []
fsu_line_faults (head ∷ []) = unless_true (is_head (codes "FSU") head) why.Head ∷ []
fsu_line_faults (head ∷ line ∷ trail) =
    unless_true (is_head (codes "FSU") head) why.Head ∷ err_of (consignment_of line) ∷ []

-- the fault of lines that aren't a status update message
abbrev pub fsu_fault : List (List ℕ) → Option TextFault
fsu_fault lines = fault_in lines (fsu_line_faults lines) (nat_le 3 (length lines))

abbrev pub reading_of : Status → Reading
reading_of (status.Handled event at airport quantity name) = Handled event at airport quantity name
reading_of (status.ReceivedFromFlight flight at airport quantity) = ReceivedFromFlight flight at airport quantity
reading_of (status.Carried event flight day from to quantity) = Carried event flight day from to quantity
reading_of (status.Differs flight day airport discrepancy quantity) = Differs flight day airport discrepancy quantity

abbrev pub update_of : Fsu → StatusUpdate
update_of m = record { shipment = shipment_of m.consignment; trail = map (λ l. l.text.text.now) m.trail.items }

-- a line of the trail is read if its layout is known
abbrev pub IsRead : StatusLine → Type 0
IsRead l = option_map reading_of l.status ≡ status_of l.text.text.now

-- the sent consignment line with all that is declared, without goods
abbrev pub declared_cargo : WaybillSummary → WrittenLine
declared_cargo d = record {
  awb = d.awb;
  origin = d.origin;
  destination = d.destination;
  code = Total;
  pieces = d.pieces;
  tenths = d.tenths;
  total = None;
  goods = [];
}

-- the quantity of the update: T if the pieces are all that were declared, otherwise P
abbrev pub amount_of : SentUpdate → List ℕ
amount_of u = amount_text u.pieces u.tenths u.of.pieces

abbrev pub slashed : List (List ℕ) → List ℕ
slashed parts = join_with_byte 47 parts

-- MAN or DEP
abbrev pub told_as : SentCarriage → Carriage
told_as leaving.Manifested = carriage.Manifested
told_as leaving.Departed = carriage.Departed

abbrev pub sent_status_text : SentStatus → SentUpdate → List ℕ
sent_status_text (sent.Handled what at name) u =
    slashed (handling_code what ∷ when_text at ∷ u.here ∷ amount_of u ∷ []) ++ name_tail name
sent_status_text (sent.ReceivedFromFlight flight at) u = slashed (codes "RCF" ∷ flight_text flight ∷ when_text at ∷ u.here ∷ amount_of u ∷ [])
sent_status_text (sent.Carried what flight date to) u =
    slashed (carriage_code (told_as what) ∷ flight_text flight ∷ date_text date ∷ (u.here ++ to) ∷ amount_of u ∷ [])
sent_status_text (sent.Differs what flight at) u =
    slashed (codes "DIS" ∷ flight_text flight ∷ when_text at ∷ u.here ∷ discrepancy_code what ∷ amount_of u ∷ [])

abbrev pub fsu_lines : SentUpdate → List (List ℕ)
fsu_lines u = codes "FSU/12" ∷ consignment_text (declared_cargo u.of) ∷ sent_status_text u.status u ∷ []

-- the values of the sent lines
abbrev pub written_quantity : SentUpdate → Quantity
written_quantity u = record { code = written_code u.pieces u.of.pieces; pieces = u.pieces; weight = Some u.tenths; total = None }

abbrev pub sent_status_reading : SentStatus → SentUpdate → Reading
sent_status_reading (sent.Handled what at name) u = Handled what at u.here (written_quantity u) name
sent_status_reading (sent.ReceivedFromFlight flight at) u = ReceivedFromFlight flight at u.here (written_quantity u)
sent_status_reading (sent.Carried what flight date to) u =
    Carried (told_as what) flight (record { date = date; minute = None }) u.here to (written_quantity u)
sent_status_reading (sent.Differs what flight at) u =
    Differs flight (record { date = at.date; minute = Some at.minute }) u.here what (written_quantity u)

abbrev pub update_written : SentUpdate → StatusUpdate
update_written u = record { shipment = shipment_written (declared_cargo u.of); trail = sent_status_text u.status u ∷ [] }

-- each line of the trail is read if its layout is known
abbrev pub AreRead : Fsu → Type 0
AreRead m = All IsRead m.trail.items

-- the fields of the consignment are in the second line, and the trail is the lines after it
pub record HasFsuSpans (lines : Lines) (m : Fsu) : Type 0 where
  pub consignment : HasSpans (unwrap_or (slice_get (line_texts lines) 1) []) m.consignment
  pub trail : map (λ l. l.text) m.trail.items ≡ drop 2 lines.lines.items
