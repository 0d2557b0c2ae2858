-- The meaning of a telegram, and the texts of notices.
use Rattle.std.specs.Prelude.{ℕ, Bool, ◌||◌, ◌==◌, ◌≡◌, List, map, Some, Ok, ◌≤◌, length, Option, None, Result, Err, IsTrue}
use Rattle.telegrams.specs.Common.{list_all, is_printable, Consignment, FfmLine, date_on, when_at, sent_text, normal_lines, WaybillSummary, IsFfm, ffm_lines, manifest_written, Load, IsFsu, fsu_lines, update_written, sent_status_text, sent_status_reading, status_of, SentStatus, SentUpdate, FlightDate, Event, ManifestLine, Notice, unwrap_or, is_line, kept_goods, Shipment, normal_text, first_kind, fault_at, most_lines, Why, TextFault, MessageKind, IsFwb, fwb_fault, Unloaded, Manifest, ffm_fault, StatusUpdate, fsu_fault, CargoLine, InboundLine, Refusal}
use Rattle.fsu_text.specs.declared.status.Handling.TheVariants as handling
use Rattle.fsu_text.specs.declared.sent.SentCarriage.TheVariants as leaving
use Rattle.fsu_text.specs.declared.sent.SentStatus.TheVariants as sent
use Rattle.shipment_machine.specs.declared.notice.Event.TheVariants as event
use Rattle.shipment_machine.specs.declared.notice.Notice.TheVariants as notice
use Rattle.imp_fields.specs.declared.fault.Why.TheVariants as why
use Rattle.imp_fields.specs.declared.line.MessageKind.TheVariants as kinds
use Rattle.shipment_machine.specs.declared.plans.Detail.TheVariants as detail
use Rattle.telegrams.specs.declared.telegram.PartContent.{PartContent}
use Rattle.telegrams.specs.declared.telegram.StatusContent.{StatusContent}
use Rattle.telegrams.specs.declared.telegram.Content.{Content}
use Rattle.telegrams.specs.declared.telegram.Content.TheVariants as content
use Rattle.telegrams.specs.declared.telegram.TelegramFault.{TelegramFault}
use Rattle.telegrams.specs.declared.telegram.TelegramFault.TheVariants as fault

-- Ranges that the types of telegrams guarantee.

-- a byte of a normal text: printable, or a newline between lines
abbrev pub is_text_byte : ℕ → Bool
is_text_byte b = is_printable b || (b == 10)

abbrev pub has_plain_goods : Consignment → Bool
has_plain_goods c = list_all is_printable c.goods.text.now

abbrev pub has_plain_cargo : FfmLine → Bool
has_plain_cargo l = has_plain_goods l.consignment

-- The text of a notice, a status or a manifest.

-- An event as a sent status: with the flight's date without the year if a flight leaves, otherwise
-- with the moment.
abbrev pub status_of_event : Event → SentStatus
status_of_event (event.ReceivedFromShipper name at) = sent.Handled handling.ReceivedFromShipper (when_at at) name
status_of_event (event.Manifested flight unload) = sent.Carried leaving.Manifested flight.flight (date_on flight.day) unload
status_of_event (event.Departed flight unload) = sent.Carried leaving.Departed flight.flight (date_on flight.day) unload
status_of_event (event.ReceivedFromFlight flight at) = sent.ReceivedFromFlight flight.flight (when_at at)
status_of_event (event.Notified name at) = sent.Handled handling.Notified (when_at at) name
status_of_event (event.Delivered name at) = sent.Handled handling.Delivered (when_at at) name
status_of_event (event.Differs flight at what) = sent.Differs what flight.flight (when_at at)

-- the status update of a notice
abbrev pub sent_update : List ℕ → WaybillSummary → Event → ℕ → ℕ → SentUpdate
sent_update here consigned what pieces tenths = record {
  «of» = consigned;
  status = status_of_event what;
  here = here;
  pieces = pieces;
  tenths = tenths;
}

abbrev pub sent_load : ManifestLine → Load
sent_load l = record {
  awb = l.consigned.awb;
  origin = l.consigned.origin;
  destination = l.consigned.destination;
  pieces = l.pieces;
  tenths = l.tenths;
  declared = l.consigned.pieces;
  goods = l.goods;
}

abbrev pub manifest_lines : List ℕ → FlightDate → List ℕ → List ManifestLine → List (List ℕ)
manifest_lines here flight unload lines = ffm_lines flight.flight (date_on flight.day) here unload (map sent_load lines)

abbrev pub notice_lines : Notice → List (List ℕ)
notice_lines (notice.Status here consigned what pieces tenths) = fsu_lines (sent_update here consigned what pieces tenths)
notice_lines (notice.Manifest here flight unload lines) = manifest_lines here flight unload lines

-- each line ends with CR LF
abbrev pub notice_text : Notice → List ℕ
notice_text n = sent_text (notice_lines n)

-- a status message is read back as the update written, and its status line as the status
abbrev pub IsUpdateAgain : SentUpdate → Type 0
IsUpdateAgain u =
    IsFsu (fsu_lines u) (update_written u) × (status_of (sent_status_text u.status u) ≡ Some (sent_status_reading u.status u))

-- the lines of a manifest are normal, and are read back as the values written
abbrev pub IsNormalManifest : List ℕ → FlightDate → List ℕ → List ManifestLine → Type 0
IsNormalManifest here flight unload lines =
    normal_lines (sent_text (manifest_lines here flight unload lines)) ≡ Ok (manifest_lines here flight unload lines)

abbrev pub IsManifestAgain : List ℕ → FlightDate → List ℕ → List ManifestLine → Type 0
IsManifestAgain here flight unload lines =
    IsFfm (manifest_lines here flight unload lines) (manifest_written flight.flight (date_on flight.day) here unload (map sent_load lines))

-- the lines of a notice are read back as the values written
abbrev pub IsReadAgain : Notice → Type 0
IsReadAgain (notice.Status here consigned what pieces tenths) = IsUpdateAgain (sent_update here consigned what pieces tenths)
IsReadAgain (notice.Manifest here flight unload lines) = IsManifestAgain here flight unload lines

-- The meaning of a telegram: from its bytes to its normal text, and to its content.

-- a shipment as the station uses it: a missing weight is 0, and the goods are cut to 15 bytes
abbrev pub cargo_line : Shipment → CargoLine
cargo_line s = record {
  awb = s.awb;
  origin = s.origin;
  destination = s.destination;
  pieces = s.quantity.pieces;
  tenths = unwrap_or s.quantity.weight 0;
  total = s.quantity.total;
  goods = kept_goods s.goods;
}

-- a manifest line as the station uses it
abbrev pub inbound_line : Unloaded → InboundLine
inbound_line u = record { unload = u.unload; cargo = cargo_line u.shipment }

-- a manifest and a status message as the station uses them
abbrev pub part_content : Manifest → PartContent
part_content m = record {
  sequence = m.part.sequence;
  flight = m.part.flight;
  date = m.part.date;
  loaded = m.part.loaded;
  lines = map inbound_line m.cargo;
}

abbrev pub status_content : StatusUpdate → StatusContent
status_content u = record { awb = u.shipment.awb; lines = u.trail }

-- the content is that of the lines of a normal text
abbrev pub Says : List (List ℕ) → Content → Type 0
Says lines (content.Fwb c) = (s : Shipment) × IsFwb lines s × (c ≡ cargo_line s)
Says lines (content.Ffm p) = (m : Manifest) × IsFfm lines m × (p ≡ part_content m)
Says lines (content.Fsu t) = (u : StatusUpdate) × IsFsu lines u × (t ≡ status_content u)

abbrev pub kind_said : Content → MessageKind
kind_said (content.Fwb c) = kinds.Fwb
kind_said (content.Ffm p) = kinds.Ffm
kind_said (content.Fsu t) = kinds.Fsu

-- the content is that of a message of this kind
abbrev pub SaysAs : MessageKind → List (List ℕ) → Content → Type 0
SaysAs kind lines c = (kind_said c ≡ kind) × Says lines c

-- a telegram: a normal text, and its content
pub record Meant : Type 0 where
  pub text : List ℕ
  pub content : Content

-- the text is the joined lines of a telegram, and the content is theirs
pub record IsMeant (t : Meant) : Type 0 where
  pub lines : List (List ℕ)
  pub text : t.text ≡ normal_text lines
  pub printable : IsTrue (list_all is_line lines)
  pub few : length lines ≤ most_lines
  pub kind : first_kind lines ≡ Some (kind_said t.content)
  pub content : Says lines t.content

pub record IsTelegram (bytes : List ℕ) (t : Meant) : Type 0 where
  pub lines : List (List ℕ)
  pub normal : normal_lines bytes ≡ Ok lines
  pub text : t.text ≡ normal_text lines
  pub kind : first_kind lines ≡ Some (kind_said t.content)
  pub content : Says lines t.content

-- the fault of lines that aren't a message of their kind
abbrev pub message_fault : Option MessageKind → List (List ℕ) → Option TextFault
message_fault None lines = Some (fault_at 0 why.Kind)
message_fault (Some kinds.Fwb) lines = fwb_fault lines
message_fault (Some kinds.Ffm) lines = ffm_fault lines
message_fault (Some kinds.Fsu) lines = fsu_fault lines

abbrev pub fault_by : Result (List (List ℕ)) TextFault → Option TextFault
fault_by (Ok lines) = message_fault (first_kind lines) lines
fault_by (Err told) = Some told

-- the fault of bytes that aren't a telegram
abbrev pub telegram_fault : List ℕ → Option TextFault
telegram_fault bytes = fault_by (normal_lines bytes)

-- an unknown kind is refused with 302, every other fault with 301, its line and its word
abbrev pub refusal_by : Why → ℕ → Refusal
refusal_by why.Kind line = record { number = 302; detail = detail.Nothing }
refusal_by other line = record { number = 301; detail = detail.Line line other }

abbrev pub refusal_of : TextFault → Refusal
refusal_of told = refusal_by told.why told.line

-- a refusal is that of the fault; if memory runs out there is no guarantee
abbrev pub RefusesAs : Option TextFault → TelegramFault → Type 0
RefusesAs due (fault.Refused refusal) = (told : TextFault) × (due ≡ Some told) × (refusal ≡ refusal_of told)
RefusesAs due fault.Memory = Unit {0}

abbrev pub RefusesText : List ℕ → TelegramFault → Type 0
RefusesText bytes fault = RefusesAs (telegram_fault bytes) fault
