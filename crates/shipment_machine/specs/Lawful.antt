-- Invariants of every state, and what the views of a state show.
use Rattle.std.specs.Prelude.{◌≡◌, ℕ, ◌≤◌, Bool, false, ◌&&◌, ◌↔◌, IsTrue, IsSome, IfSome, ⊤, Option, Some, List, [], ◌∷◌, length, All, ◌+◌, true, ◌==◌, if◌then◌else◌, None, Result, Ok, Err, is_some, map}
use Rattle.shipment_machine.specs.Common.{AllByRecursion, list_all, list_any, is_line, bytes_eq, Used, most_pieces, most_tenths, most_waybills, LocalMinute, resolved, FlightDate, Place, Hand, Built, Departed, Move, InboundLine, Balances, FlightLoad, RowsKey, Rows, Refusal, PlanFault}
use Rattle.shipment_machine.specs.Book.{same_place, pieces_of, tenths_of, moved_in, moved_out, held, built, taken_and_found, waybills_on, fits, IsHeld}
pub use Rattle.shipment_machine.specs.Book.{is_outside, is_pair}
use Rattle.shipment_machine.specs.Cargo.{Cargo, line_view_of, rows_of}
use Rattle.shipment_machine.specs.Effect.{is_closed, Outcome, decided, no_rule, reads, desk_rule, declaring, dated, declared_by, noting_status, carried_out, expected_amount, lines_for, is_day, inbound_flight, inbound_part}
use Rattle.shipment_machine.specs.Announced.{part_answer}
use Rattle.shipment_machine.specs.declared.command.ShipmentCommand.{ShipmentCommand}
use Rattle.shipment_machine.specs.declared.command.ShipmentCommand.TheVariants as order
use Rattle.shipment_machine.specs.declared.command.DeskCommand.TheVariants as desk
use Rattle.shipment_machine.specs.declared.view.RowsKey.TheVariants as key
use Rattle.shipment_machine.specs.declared.view.Rows.TheVariants as rows
use Rattle.shipment_machine.specs.declared.view.View.{View}
use Rattle.shipment_machine.specs.declared.plans.Plan.{Plan}
use Rattle.shipment_machine.specs.declared.plans.PlanFault.TheVariants as fault

-- Invariants of every state of a station.

-- No more of a waybill moved out of a place than into it. What is there weighs at least a tenth a
-- piece, and nothing if there are no pieces.
pub record IsStocked (book : List Move) (w : ℕ) (p : Place) : Type 0 where
  pub pieces : moved_out pieces_of book w (same_place p) ≤ moved_in pieces_of book w (same_place p)
  pub tenths : moved_out tenths_of book w (same_place p) ≤ moved_in tenths_of book w (same_place p)
  pub tenth_a_piece : (held book w (same_place p)).pieces ≤ (held book w (same_place p)).tenths
  pub no_weight_alone : (held book w (same_place p)).pieces ≡ 0
      → (held book w (same_place p)).tenths ≡ 0

-- no more of a waybill was returned to the shipper or agent than was received
pub record IsCovered (book : List Move) (w : ℕ) : Type 0 where
  pub pieces : moved_in pieces_of book w (same_place Hand) ≤ moved_out pieces_of book w (same_place Hand)
  pub tenths : moved_in tenths_of book w (same_place Hand) ≤ moved_out tenths_of book w (same_place Hand)

-- the flight of a built place is noted
abbrev pub IsNoted : Cargo → Place → Type 0
IsNoted s (Built flight) = IsSome (s.flights flight)
IsNoted s _ = ⊤

-- a move from or to a built place names its flight
abbrev pub NamesFlight : Place → Option FlightDate → Type 0
NamesFlight (Built flight) named = named ≡ Some flight
NamesFlight _ named = ⊤

-- a move that is allowed, of a declared waybill and noted flights
pub record IsLawfulMove (s : Cargo) (m : Move) : Type 0 where
  pub pair : IsTrue (is_pair m.from m.to)
  pub some : 1 ≤ m.pieces
  pub not_more : m.pieces ≤ most_pieces
  pub declared : IsSome (s.declared m.awb)
  pub noted_from : IsNoted s m.from
  pub noted_to : IsNoted s m.to
  pub names_from : NamesFlight m.from m.flight
  pub names_to : NamesFlight m.to m.flight

-- pieces and tenths that can be declared or expected
pub record IsLawfulAmount (pieces tenths : ℕ) : Type 0 where
  pub some : 1 ≤ pieces
  pub not_more : pieces ≤ most_pieces
  pub tenth_a_piece : pieces ≤ tenths
  pub not_heavier : tenths ≤ most_tenths

-- true if a move departs with this flight; true if it builds on the flight
abbrev pub departs_with : FlightDate → Move → Bool
departs_with flight m = same_place m.from (Built flight) && same_place m.to Departed

abbrev pub builds_on : FlightDate → Move → Bool
builds_on flight m = same_place m.to (Built flight)

-- nothing is built on a flight after it departed
abbrev pub StaysDeparted : FlightDate → List Move → Type 0
StaysDeparted flight [] = ⊤
StaysDeparted flight (m ∷ later) =
    (IsTrue (departs_with flight m) → list_any (builds_on flight) later ≡ false)
    × StaysDeparted flight later

-- A lawful state. That the text of each noted part is stored is an invariant of the whole station.
pub record IsLawful (s : Cargo) : Type 0 where
  pub stocked : (w : ℕ) (p : Place) → is_outside p ≡ false → IsStocked s.book w p
  pub covered : (w : ℕ) → IsCovered s.book w
  pub within : (w : ℕ) → IsTrue (fits (taken_and_found s.book w))
  pub declarations : (w : ℕ) → IfSome (s.declared w) (λ d. IsLawfulAmount d.pieces d.tenths)
  pub expectations : (flight : FlightDate) (w : ℕ)
      → IfSome (s.expected flight w) (λ e. IsLawfulAmount e.pieces e.tenths × IsSome (s.declared w))
  pub moves : AllByRecursion (IsLawfulMove s) s.book
  pub trail : AllByRecursion (λ (row : ℕ × List ℕ). IsSome (s.declared row.0)
      × IsTrue (is_line row.1)) s.trail
  pub used : (w : ℕ) → s.holders w ≡ Some Used → IsSome (s.declared w)
  pub closed : (flight : FlightDate) → IsTrue (is_closed (s.flights flight))
      ↔ IsTrue (list_any (departs_with flight) s.book)
  pub departed : (flight : FlightDate) → StaysDeparted flight s.book
  pub empty : (flight : FlightDate) (w : ℕ) → IsTrue (is_closed (s.flights flight))
      → (built s.book w flight).pieces ≡ 0
  pub room : (flight : FlightDate) → length (waybills_on s.book flight) ≤ most_waybills
  pub outbound : (flight : FlightDate) → IfSome (s.flights flight)
      (λ o. bytes_eq o.unload s.here ≡ false)
  pub mark : s.confirmed ≤ length s.outbox

-- a command that the types allow: each declared or announced line has a piece, and each trail line
-- is printable
abbrev pub HasPieces : InboundLine → Type 0
HasPieces l = 1 ≤ l.cargo.pieces

abbrev pub IsProper : ShipmentCommand → Type 0
IsProper (order.Desk (desk.Book w origin destination pieces tenths goods)) = 1 ≤ pieces
IsProper (order.Desk (desk.Amend w origin destination pieces tenths goods)) = 1 ≤ pieces
IsProper (order.Desk _) = ⊤
IsProper (order.Fwb c) = 1 ≤ c.pieces
IsProper (order.Ffm f) = All HasPieces f.lines
IsProper (order.Fsu f) = IsTrue (list_all is_line f.lines)

-- Views of a state for a command, and the answers from them.

-- Views of a state.

abbrev pub rows_for : Cargo → ShipmentCommand → LocalMinute → Rows
rows_for s (order.Desk command) at = rows_of s (reads command)
rows_for s (order.Fwb c) at = rows_of s (key.Declaration c.awb)
rows_for s (order.Ffm f) at =
    if is_day (resolved f.date at.day) then rows.Lines (is_some (s.parts (inbound_part f at)))
    (map (line_view_of s (inbound_flight f at)) (lines_for s.here f.lines))
    else rows.Lines false []
rows_for s (order.Fsu f) at = rows.Status (s.declared f.awb)

abbrev pub view_of : Cargo → ShipmentCommand → LocalMinute → View
view_of s command at = record { here = s.here; rows = rows_for s command at }

-- a lawful state has this view for a command
abbrev pub IsViewOf : Cargo → ShipmentCommand → LocalMinute → View → Type 0
IsViewOf s command at view = IsLawful s × (view ≡ view_of s command at)

-- Answers from the rows.

-- the day that a manifest's date means; other commands have no date to resolve
abbrev pub meant_by : ShipmentCommand → LocalMinute → Option ℕ
meant_by (order.Desk command) at = None
meant_by (order.Fwb c) at = None
meant_by (order.Ffm f) at = resolved f.date at.day
meant_by (order.Fsu f) at = None

-- the answer to a command from the rows that it reads; `meant` is the day that a manifest's date
-- means
abbrev pub rows_answer : List ℕ → Rows → ShipmentCommand → LocalMinute → Option ℕ
    → Result Outcome Refusal
rows_answer here read (order.Desk command) at meant = decided (desk_rule here read command at)
rows_answer here (rows.Declaration view) (order.Fwb c) at meant =
    decided (declaring view c.awb (dated at.day (declared_by c)))
rows_answer here (rows.Lines taken lines) (order.Ffm f) at meant =
    part_answer here at.day taken lines f meant
rows_answer here (rows.Status declared) (order.Fsu f) at meant =
    decided (noting_status declared f.awb f.lines)
rows_answer here _ _ at meant = decided no_rule

-- Rows that fit a command.

-- balances of a waybill in a lawful state
pub record AreSound (b : Balances) : Type 0 where
  pub free : IsHeld b.free
  pub missing : IsHeld b.missing
  pub came : b.missing.tenths ≤ b.taken.tenths + b.found.tenths

-- some of the waybill is built, within bounds
pub record IsOnBoard (a : FlightLoad) : Type 0 where
  pub held : IsHeld a.load
  pub some : 1 ≤ a.load.pieces

-- a lawful state can have these rows for the key
abbrev pub AreRowsOf : RowsKey → Rows → Type 0
AreRowsOf (key.Declaration w) (rows.Declaration view) = ⊤
AreRowsOf (key.Waybill w) (rows.Waybill view) = AreSound view.balances
AreRowsOf (key.Manifest w flight) (rows.Manifest view on) = AreSound view.balances
AreRowsOf (key.Offload w flight) (rows.Offload declared outbound load) = IsHeld load
AreRowsOf (key.Departure flight) (rows.Departure outbound loads) =
    All IsOnBoard loads × ((length loads == 0) ≡ false → IsSome outbound)
AreRowsOf (key.CheckIn w flight) (rows.CheckIn view expected) = IsHeld (expected_amount expected)
AreRowsOf key.Messages (rows.Messages confirmed last) = ⊤
AreRowsOf _ _ = ⊥

abbrev pub FitsCommand : List ℕ → Rows → ShipmentCommand → Option ℕ → Type 0
FitsCommand here read (order.Desk command) meant = AreRowsOf (reads command) read
FitsCommand here read (order.Fwb c) meant = AreRowsOf (key.Declaration c.awb) read
FitsCommand here (rows.Lines taken lines) (order.Ffm f) meant =
    is_day meant ≡ true → length lines ≡ length (lines_for here f.lines)
FitsCommand here (rows.Status declared) (order.Fsu f) meant = ⊤
FitsCommand here _ _ meant = ⊥

-- Plans.

abbrev pub outcome_of : Plan → Outcome
outcome_of plan =
    record {
      moves = plan.moves.items;
      notices = plan.notices.items;
      changes = plan.changes.items;
      count = plan.count;
    }

-- a refusal is the one of the effect; if memory runs out there is no guarantee; the view never is
-- unfit
abbrev pub RefusesAs : Result Outcome Refusal → PlanFault → Type 0
RefusesAs answer (fault.Refused refusal) = answer ≡ Err refusal
RefusesAs answer fault.Memory = Unit {0}
RefusesAs answer fault.Unfit = ⊥

-- a plan is the answer, and a fault is its refusal
abbrev pub IsAnswer : Result Plan PlanFault → Result Outcome Refusal → Type 0
IsAnswer (Ok plan) answer = answer ≡ Ok (outcome_of plan)
IsAnswer (Err fault) answer = RefusesAs answer fault

-- a plan leaves the state lawful, whatever text is stored for a part that it notes
abbrev pub StaysLawful : Cargo → Plan → Type 0
StaysLawful s plan = (text : List ℕ) → IsLawful (carried_out text (outcome_of plan) s)
