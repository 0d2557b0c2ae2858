-- The rule of each command, proposed declarations, and texts of refusals.
use Rattle.std.specs.Prelude.{false, None, ℕ, zero, suc, ◌+◌, ◌-◌, min, max, Bool, true, not, ◌&&◌, ◌||◌, ◌==◌, nat_lt, nat_le, if◌then◌else◌, Option, Some, is_some, is_none, Result, Ok, Err, List, [], ◌∷◌, ◌++◌, map, length, decimal, codes}
use Rattle.shipment_machine.specs.Common.{unwrap_or, filter, flat_map, sum_by, bytes_eq, share_of, book_weight_of, LocalMinute, resolved, is_moment_day, Holder, WaybillSummary, Discrepancy, most_waybills, number_text, day_line, why_word, flight_text, Declared, Amount, FlightDate, Place, Move, Outbound, Expected, Part, CargoLine, InboundLine, InboundPart, Change, Declare, UseUp, NoteFlight, Expect, NotePart, Trail, Confirm, Refusal, Balances, DeclarationView, WaybillView, FlightView, FlightLoad, RowsKey, Rows}
use Rattle.imp_fields.specs.declared.fault.Why.TheVariants as why
use Rattle.agent_stock.specs.declared.stock.Holder.TheVariants as holder
use Rattle.imp_fields.specs.declared.line.Discrepancy.TheVariants as discrepancy
use Rattle.shipment_machine.specs.Book.{amount, part, less, plus, fits}
use Rattle.shipment_machine.specs.Cargo.{Cargo, written_all, undeclared, declaration_view, rows_of}
use Rattle.shipment_machine.specs.declared.acceptance.ProposedDeclaration.{ProposedDeclaration}
use Rattle.shipment_machine.specs.declared.moves.Place.TheVariants as place
use Rattle.shipment_machine.specs.declared.notice.Event.{Event}
use Rattle.shipment_machine.specs.declared.notice.Event.TheVariants as event
use Rattle.shipment_machine.specs.declared.notice.ManifestLine.{ManifestLine}
use Rattle.shipment_machine.specs.declared.notice.Notice.{Notice}
use Rattle.shipment_machine.specs.declared.notice.Notice.TheVariants as notice
use Rattle.shipment_machine.specs.declared.command.ShipmentCommand.{ShipmentCommand}
use Rattle.shipment_machine.specs.declared.command.ShipmentCommand.TheVariants as order
use Rattle.shipment_machine.specs.declared.command.DeskCommand.{DeskCommand}
use Rattle.shipment_machine.specs.declared.command.DeskCommand.TheVariants as desk
use Rattle.shipment_machine.specs.declared.plans.Detail.TheVariants as detail
use Rattle.shipment_machine.specs.declared.view.RowsKey.TheVariants as key
use Rattle.shipment_machine.specs.declared.view.Rows.TheVariants as rows
use Rattle.shipment_machine.specs.declared.plans.Detail.{Detail}

-- Proposed declarations.

abbrev pub claimed : ProposedDeclaration → Declared
claimed c =
    record {
      origin = c.origin;
      destination = c.destination;
      pieces = c.pieces;
      tenths = c.tenths;
      goods = c.goods;
      notified = false;
      since = None;
    }

-- The rule of each command: it is refused for the first reason that holds, or it makes moves,
-- notices and row changes.

-- the outcome of a command that isn't refused
pub record Outcome : Type 0 where
  pub moves : List Move
  pub notices : List Notice
  pub changes : List Change
  pub count : ℕ

-- A command's refusals, in the order tested, and its outcome if none of them holds.
pub record Rule : Type 0 where
  pub refusals : List (Bool × Refusal)
  pub outcome : Result Outcome Refusal

-- Refusals.

-- refusals about a waybill, a flight, or the free pieces
abbrev pub about : ℕ → ℕ → Refusal
about number w = record { number = number; detail = detail.Waybill w }

abbrev pub on_flight : ℕ → FlightDate → Refusal
on_flight number flight = record { number = number; detail = detail.Flight flight }

abbrev pub only_free : ℕ → Refusal
only_free pieces = record { number = 206; detail = detail.Pieces pieces }

-- the first refusal whose test holds
abbrev pub first_refusal : List (Bool × Refusal) → Option Refusal
first_refusal [] = None
first_refusal (reason ∷ reasons) = if reason.0 then Some reason.1 else first_refusal reasons

-- true if a number is in the desk's stock, or void
abbrev pub at_desk_or_void : Option Holder → Bool
at_desk_or_void (Some holder.Desk) = true
at_desk_or_void (Some holder.Void) = true
at_desk_or_void _ = false

abbrev pub is_closed : Option Outbound → Bool
is_closed None = false
is_closed (Some outbound) = outbound.closed

-- true if a noted flight unloads at another airport
abbrev pub goes_elsewhere : Option Outbound → List ℕ → Bool
goes_elsewhere None unload = false
goes_elsewhere (Some outbound) unload = not (bytes_eq outbound.unload unload)

abbrev pub is_checked : Option Expected → Bool
is_checked None = false
is_checked (Some expected) = expected.checked

abbrev pub expected_amount : Option Expected → Amount
expected_amount None = amount 0 0
expected_amount (Some expected) = amount expected.pieces expected.tenths

-- unannounced pieces, with at least a tenth each; 0 pieces have no weight
abbrev pub surplus : ℕ → ℕ → Amount
surplus zero tenths = amount 0 0
surplus (suc n) tenths = amount (suc n) (book_weight_of (suc n) tenths)

-- Declarations.

-- the pieces of a waybill: the total, if it exceeds the line's own pieces
abbrev pub all_pieces : CargoLine → ℕ
all_pieces c = max c.pieces (unwrap_or c.total 0)

abbrev pub declared_by : CargoLine → Declared
declared_by c = record {
  origin = c.origin;
  destination = c.destination;
  pieces = all_pieces c;
  tenths = share_of c.pieces (book_weight_of c.pieces c.tenths) (all_pieces c);
  goods = c.goods;
  notified = false;
  since = None;
}

abbrev pub dated : ℕ → Declared → Declared
dated today d = record d { since = Some today }

-- a number in an agent's stock becomes used
abbrev pub used_up : Option Holder → ℕ → List Change
used_up (Some (holder.Agent _)) w = UseUp w ∷ []
used_up _ w = []

-- the rows of a newly declared waybill
abbrev pub declare : Option Holder → ℕ → Declared → List Change
declare who w d = Declare w d ∷ used_up who w

-- A part of a flight manifest.

abbrev pub lines_for : List ℕ → List InboundLine → List CargoLine
lines_for here lines = map (λ l. l.cargo) (filter (λ l. bytes_eq l.unload here) lines)

-- the day that a manifest's date means, or 0 if there isn't one
abbrev pub inbound_day : InboundPart → LocalMinute → ℕ
inbound_day f at = unwrap_or (resolved f.date at.day) 0

abbrev pub inbound_flight : InboundPart → LocalMinute → FlightDate
inbound_flight f at = record { flight = f.flight; day = inbound_day f at }

abbrev pub inbound_part : InboundPart → LocalMinute → Part
inbound_part f at = record { flight = inbound_flight f at; airport = f.loaded; number = f.number }

-- the expectation of a waybill after another line
abbrev pub expected_after : Option Expected → CargoLine → Expected
expected_after old c = record {
  pieces = (expected_amount old).pieces + c.pieces;
  tenths = (expected_amount old).tenths + book_weight_of c.pieces c.tenths;
  checked = false;
}

-- the refusals of a line, for a waybill that is new or not, its holder, and its expectation so far
abbrev pub row_refusals : Bool → Option Holder → Option Expected → CargoLine → List (Bool × Refusal)
row_refusals new who expected c =
    let d = declared_by c in
    let e = expected_after expected c in
    (is_checked expected, about 214 c.awb)
    ∷ (new && at_desk_or_void who, about 203 c.awb)
    ∷ (
      (new && not (fits (amount d.pieces d.tenths))) || not (fits (amount e.pieces e.tenths)),
      about 217 c.awb,
    ) ∷ []

-- the rows that a line writes: a declaration of today if the waybill is new, and the expectation
abbrev pub row_changes : Bool → Option Holder → Option Expected → FlightDate → ℕ → CargoLine
    → List Change
row_changes new who expected flight today c =
    (if new then declare who c.awb (dated today (declared_by c)) else [])
    ++ Expect flight c.awb (expected_after expected c) ∷ []

-- the refusals and rows of a line in a state that the lines before it have changed
abbrev pub line_refusals : Cargo → FlightDate → CargoLine → List (Bool × Refusal)
line_refusals s flight c =
    row_refusals (is_none (s.declared c.awb)) (s.holders c.awb) (s.expected flight c.awb) c

abbrev pub line_changes : Cargo → FlightDate → ℕ → CargoLine → List Change
line_changes s flight today c =
    row_changes (is_none (s.declared c.awb)) (s.holders c.awb) (s.expected flight c.awb) flight
    today c

-- puts rows before those that the later lines write
abbrev pub then_write : List Change → Result (List Change) Refusal → Result (List Change) Refusal
then_write first (Ok rest) = Ok (first ++ rest)
then_write first (Err refusal) = Err refusal

abbrev pub unless_refused : {T : Type 0} → Option Refusal → Result T Refusal → Result T Refusal
unless_refused (Some refusal) rest = Err refusal
unless_refused None rest = rest

-- the rows that all lines write, each tested after those before it; or the first refusal
abbrev pub lines_changes : Cargo → FlightDate → ℕ → List CargoLine → Result (List Change) Refusal
lines_changes s flight today [] = Ok []
lines_changes s flight today (c ∷ cs) =
    unless_refused (first_refusal (line_refusals s flight c))
    (then_write (line_changes s flight today c)
    (lines_changes (written_all [] (line_changes s flight today c) s) flight today cs))

-- the day exists, and a Moment can have it
abbrev pub is_day : Option ℕ → Bool
is_day None = false
is_day (Some day) = is_moment_day day

-- Moves and notices.

-- a move, unless the amount has no pieces
abbrev pub move_of : ℕ → Place → Place → Amount → Option FlightDate → LocalMinute → List Move
move_of w from to a flight at =
    if a.pieces == 0 then []
    else record {
      awb = w;
      from = from;
      to = to;
      pieces = a.pieces;
      tenths = a.tenths;
      flight = flight;
      at = at;
    } ∷ []

abbrev pub consigned : ℕ → Declared → WaybillSummary
consigned w d =
    record {
      awb = w;
      origin = d.origin;
      destination = d.destination;
      pieces = d.pieces;
      tenths = d.tenths;
    }

-- a status message from here, unless the amount has no pieces
abbrev pub status_of : List ℕ → ℕ → Declared → Event → Amount → List Notice
status_of here w d event a =
    if a.pieces == 0 then [] else notice.Status here (consigned w d) event a.pieces a.tenths ∷ []

abbrev pub discrepancy_of : List ℕ → ℕ → Declared → Option FlightDate → Discrepancy → LocalMinute
    → Amount → List Notice
discrepancy_of here w d None kind at a = []
discrepancy_of here w d (Some flight) kind at a =
    status_of here w d (event.Differs flight at kind) a

-- the airport of unloading of a noted flight
abbrev pub unload_of : Option Outbound → List ℕ
unload_of None = []
unload_of (Some outbound) = outbound.unload

-- a waybill on a manifest, with its whole amount on the flight
abbrev pub manifest_line : FlightLoad → ManifestLine
manifest_line a =
    record {
      consigned = consigned a.awb a.declared;
      pieces = a.load.pieces;
      tenths = a.load.tenths;
      goods = a.declared.goods;
    }

-- the outcome with these moves, notices, changes and count
abbrev pub does : List Move → List Notice → List Change → ℕ → Result Outcome Refusal
does moves notices changes count =
    Ok (record { moves = moves; notices = notices; changes = changes; count = count })

-- the rule for rows that the command doesn't read: it does nothing
abbrev pub no_rule : Rule
no_rule = record { refusals = []; outcome = does [] [] [] 0 }

-- the decision of a rule: the first refusal whose test holds, or the outcome
abbrev pub decided : Rule → Result Outcome Refusal
decided rule = unless_refused (first_refusal rule.refusals) rule.outcome

-- The rule of each command, from the rows of its waybill and its flight.

abbrev pub declared_as : Option Declared → Declared
declared_as declared = unwrap_or declared undeclared

-- the received and found amounts together
abbrev pub came_in : Balances → Amount
came_in b = plus b.taken b.found

-- Book and FWB: the waybill is declared.
abbrev pub booked : List ℕ → List ℕ → ℕ → ℕ → List ℕ → Declared
booked origin destination p t goods =
    record {
      origin = origin;
      destination = destination;
      pieces = p;
      tenths = book_weight_of p t;
      goods = goods;
      notified = false;
      since = None;
    }

abbrev pub declaring : DeclarationView → ℕ → Declared → Rule
declaring view w d = record {
  refusals = (not (fits (amount d.pieces d.tenths)), about 217 w)
      ∷ (is_some view.declared && view.has_moves, about 202 w)
      ∷ (at_desk_or_void view.holder, about 203 w) ∷ [];
  outcome = does [] [] (declare view.holder w d) d.pieces;
}

-- true if `whole` has room for `part` and a tenth for each remaining piece
abbrev pub has_room : Amount → Amount → Bool
has_room whole part =
    nat_le part.pieces whole.pieces
    && nat_le (part.tenths + (whole.pieces - part.pieces)) whole.tenths

-- true if pieces were taken over, and the origin is here or would be, and not both
abbrev pub turns_origin : List ℕ → WaybillView → List ℕ → Bool
turns_origin here view origin =
    nat_lt 0 view.balances.taken.pieces
    && (if bytes_eq (declared_as view.declared).origin here
    then not (bytes_eq origin here)
    else bytes_eq origin here)

-- Amend: the declaration is replaced, if all that came in is free and fits in the new one.
abbrev pub amending : List ℕ → WaybillView → ℕ → Declared → Rule
amending here view w d =
    let free = view.balances.free in
    record {
      refusals = (is_none view.declared, about 201 w)
          ∷ (turns_origin here view d.origin, about 204 w)
          ∷ (not (fits (amount d.pieces d.tenths)), about 217 w)
          ∷ (nat_lt free.pieces (came_in view.balances).pieces, about 225 w)
          ∷ (not (has_room (amount d.pieces d.tenths) free), about 226 w) ∷ [];
      outcome = does [] [] (Declare w d ∷ []) d.pieces;
    }

-- Receive: pieces are received, with at least a tenth each.
abbrev pub receiving : List ℕ → WaybillView → ℕ → ℕ → ℕ → List ℕ → LocalMinute → Rule
receiving here view w p t name at =
    let d = declared_as view.declared in
    let a = amount p (book_weight_of p t) in
    record {
      refusals = (is_none view.declared, about 201 w)
          ∷ (not (bytes_eq d.origin here), about 204 w)
          ∷ (nat_lt d.pieces (view.balances.taken.pieces + p), about 205 w)
          ∷ (not (fits (plus (came_in view.balances) a)), about 217 w) ∷ [];
      outcome =
          does (move_of w place.Hand place.Free a None at)
          (status_of here w d (event.ReceivedFromShipper name at) a) [] p;
    }

-- Withdraw: free pieces are returned to the shipper or agent, at most as many as were received.
abbrev pub withdrawing : List ℕ → WaybillView → ℕ → ℕ → LocalMinute → Rule
withdrawing here view w p at =
    let free = view.balances.free in
    let taken = view.balances.taken in
    let a = part free p in
    record {
      refusals = (is_none view.declared, about 201 w)
          ∷ (not (bytes_eq (declared_as view.declared).origin here), about 204 w)
          ∷ (nat_lt free.pieces p, only_free free.pieces)
          ∷ (nat_lt taken.pieces p || nat_lt taken.tenths a.tenths, about 223 w) ∷ [];
      outcome = does (move_of w place.Free place.Hand a None at) [] [] p;
    }

-- Manifest: free pieces are built on a flight, which is noted if it is new.
abbrev pub manifesting : List ℕ → WaybillView → FlightView → ℕ → FlightDate → List ℕ → ℕ
    → LocalMinute → Rule
manifesting here view on w flight unload p at =
    let free = view.balances.free in
    let a = part free p in
    record {
      refusals = (is_none view.declared, about 201 w)
          ∷ (bytes_eq unload here, about 204 w)
          ∷ (is_closed on.outbound, on_flight 208 flight)
          ∷ (goes_elsewhere on.outbound unload, on_flight 218 flight)
          ∷ (nat_lt free.pieces p, only_free free.pieces)
          ∷ ((on.load.pieces == 0) && nat_le most_waybills on.waybills, on_flight 219 flight) ∷ [];
      outcome = does (move_of w place.Free (place.Built flight) a (Some flight) at)
          (status_of here w (declared_as view.declared) (event.Manifested flight unload) a)
          (if is_none on.outbound
          then NoteFlight flight (record { unload = unload; closed = false }) ∷ []
          else []) p;
    }

-- Offload: built pieces are free again.
abbrev pub offloading : List ℕ → Option Declared → Option Outbound → Amount → ℕ → FlightDate → ℕ
    → LocalMinute → Rule
offloading here declared outbound load w flight p at =
    let a = part load p in
    record {
      refusals = (is_none declared, about 201 w)
          ∷ (is_closed outbound, on_flight 208 flight)
          ∷ (nat_lt load.pieces p, about 207 w) ∷ [];
      outcome = does (move_of w (place.Built flight) place.Free a (Some flight) at)
          (status_of here w (declared_as declared)
          (event.Differs flight at discrepancy.Offloaded) a) [] p;
    }

-- Depart: all that is built on the flight departs, and the flight is closed.
abbrev pub depart_moves : List FlightLoad → FlightDate → LocalMinute → List Move
depart_moves loads flight at =
    flat_map (λ a. move_of a.awb (place.Built flight) place.Departed a.load (Some flight) at) loads

abbrev pub depart_notices : List ℕ → List ℕ → List FlightLoad → FlightDate → List Notice
depart_notices here unload loads flight =
    flat_map (λ a. status_of here a.awb a.declared (event.Departed flight unload) a.load) loads
    ++ notice.Manifest here flight unload (map manifest_line loads) ∷ []

abbrev pub departing : List ℕ → Option Outbound → List FlightLoad → FlightDate → LocalMinute → Rule
departing here outbound loads flight at = record {
  refusals =
      (is_closed outbound, on_flight 208 flight) ∷ (length loads == 0, on_flight 209 flight) ∷ [];
  outcome =
      does (depart_moves loads flight at) (depart_notices here (unload_of outbound) loads flight)
      (NoteFlight flight (record { unload = unload_of outbound; closed = true }) ∷ [])
      (sum_by (λ a. a.load.pieces) loads);
}

-- Reroute: a noted flight on which nothing is built gets another airport of unloading.
abbrev pub rerouting : List ℕ → Option Outbound → List FlightLoad → FlightDate → List ℕ → Rule
rerouting here outbound loads flight unload = record {
  refusals = (is_none outbound, on_flight 221 flight)
      ∷ (is_closed outbound, on_flight 208 flight)
      ∷ (bytes_eq unload here, on_flight 204 flight)
      ∷ (not (length loads == 0), on_flight 222 flight) ∷ [];
  outcome = does [] [] (NoteFlight flight (record { unload = unload; closed = false }) ∷ [])
      (if goes_elsewhere outbound unload then 1 else 0);
}

-- Check-in: the counted pieces become free, the uncounted rest becomes missing, and the surplus
-- comes from outside.
abbrev pub counted_in : Amount → ℕ → Amount
counted_in e counted = if nat_le counted e.pieces then part e counted else e

abbrev pub uncounted : Amount → ℕ → Amount
uncounted e counted = less e (counted_in e counted)

abbrev pub counted_more : Amount → ℕ → Amount
counted_more e counted = part e (counted - e.pieces)

abbrev pub check_in_moves : ℕ → FlightDate → Amount → ℕ → LocalMinute → List Move
check_in_moves w flight e counted at =
    move_of w place.Hand place.Free (counted_in e counted) (Some flight) at
    ++ move_of w place.Hand place.Missing (uncounted e counted) (Some flight) at
    ++ move_of w place.Surplus place.Free (counted_more e counted) (Some flight) at

abbrev pub check_in_notices : List ℕ → ℕ → Declared → FlightDate → Amount → ℕ → LocalMinute
    → List Notice
check_in_notices here w d flight e counted at =
    status_of here w d (event.ReceivedFromFlight flight at)
    (plus (counted_in e counted) (counted_more e counted))
    ++ status_of here w d (event.Differs flight at discrepancy.Missing) (uncounted e counted)
    ++ status_of here w d (event.Differs flight at discrepancy.Found) (counted_more e counted)

abbrev pub checking_in : List ℕ → WaybillView → Option Expected → ℕ → FlightDate → ℕ → LocalMinute
    → Rule
checking_in here view expected w flight counted at =
    let e = expected_amount expected in
    record {
      refusals = (is_none view.declared, about 201 w)
          ∷ (is_none expected, about 211 w)
          ∷ (is_checked expected, about 212 w)
          ∷ (
            not (fits (plus (came_in view.balances) (plus e (counted_more e counted)))),
            about 217 w,
          ) ∷ [];
      outcome =
          does (check_in_moves w flight e counted at)
          (check_in_notices here w (declared_as view.declared) flight e counted at)
          (Expect flight w (record { pieces = e.pieces; tenths = e.tenths; checked = true })
          ∷ []) counted;
    }

-- Strike: the expectation is reduced. If nothing would be left, the line is closed unchanged.
abbrev pub struck : Amount → ℕ → Expected
struck e p =
    let rest = less e (part e p) in
    if nat_lt p e.pieces
    then record { pieces = rest.pieces; tenths = rest.tenths; checked = false }
    else record { pieces = e.pieces; tenths = e.tenths; checked = true }

abbrev pub striking : Option Declared → Option Expected → ℕ → FlightDate → ℕ → Rule
striking declared expected w flight p =
    let e = expected_amount expected in
    record {
      refusals = (is_none declared, about 201 w)
          ∷ (is_none expected, about 211 w)
          ∷ (is_checked expected, about 212 w)
          ∷ (nat_lt e.pieces p, about 224 w) ∷ [];
      outcome = does [] [] (Expect flight w (struck e p) ∷ []) p;
    }

-- Notify: the consignee is notified of all that is free.
abbrev pub notifying : List ℕ → WaybillView → ℕ → List ℕ → LocalMinute → Rule
notifying here view w name at =
    let d = declared_as view.declared in
    let free = view.balances.free in
    record {
      refusals = (is_none view.declared, about 201 w)
          ∷ (not (bytes_eq d.destination here), about 204 w)
          ∷ (free.pieces == 0, only_free 0) ∷ [];
      outcome =
          does [] (status_of here w d (event.Notified name at) free)
          (Declare w (record d { notified = true }) ∷ []) free.pieces;
    }

-- Deliver: free pieces go to the consignee, who was notified.
abbrev pub delivering : List ℕ → WaybillView → ℕ → ℕ → List ℕ → LocalMinute → Rule
delivering here view w p name at =
    let d = declared_as view.declared in
    let free = view.balances.free in
    let a = part free p in
    record {
      refusals = (is_none view.declared, about 201 w)
          ∷ (not (bytes_eq d.destination here), about 204 w)
          ∷ (not d.notified, about 210 w)
          ∷ (nat_lt free.pieces p, only_free free.pieces) ∷ [];
      outcome =
          does (move_of w place.Free place.Delivered a None at)
          (status_of here w d (event.Delivered name at) a) [] p;
    }

-- Transfer: free pieces go to another airline, if the waybill isn't for here.
abbrev pub transferring : List ℕ → WaybillView → ℕ → ℕ → LocalMinute → Rule
transferring here view w p at =
    let free = view.balances.free in
    record {
      refusals = (is_none view.declared, about 201 w)
          ∷ (bytes_eq (declared_as view.declared).destination here, about 220 w)
          ∷ (nat_lt free.pieces p, only_free free.pieces) ∷ [];
      outcome = does (move_of w place.Free place.Transferred (part free p) None at) [] [] p;
    }

-- Missing: free pieces become missing.
abbrev pub recording_missing : List ℕ → WaybillView → ℕ → ℕ → Option FlightDate → LocalMinute → Rule
recording_missing here view w p flight at =
    let free = view.balances.free in
    let a = part free p in
    record {
      refusals =
          (is_none view.declared, about 201 w) ∷ (nat_lt free.pieces p, only_free free.pieces) ∷ [];
      outcome = does (move_of w place.Free place.Missing a flight at)
          (discrepancy_of here w (declared_as view.declared) flight discrepancy.Missing at a) [] p;
    }

-- Found: missing pieces come back first; the rest is surplus.
abbrev pub come_back : Amount → ℕ → Amount
come_back missing p = part missing (min p missing.pieces)

abbrev pub come_new : Amount → ℕ → ℕ → Amount
come_new missing p t = surplus (p - missing.pieces) t

abbrev pub recording_found : List ℕ → WaybillView → ℕ → ℕ → ℕ → Option FlightDate → LocalMinute
    → Rule
recording_found here view w p t flight at =
    let back = come_back view.balances.missing p in
    let new = come_new view.balances.missing p t in
    record {
      refusals = (is_none view.declared, about 201 w)
          ∷ (not (fits (plus (came_in view.balances) new)), about 217 w) ∷ [];
      outcome =
          does (move_of w place.Missing place.Free back flight at
          ++ move_of w place.Surplus place.Free new flight at)
          (discrepancy_of here w (declared_as view.declared) flight discrepancy.Found at
          (plus back new)) [] p;
    }

-- Confirm: the last confirmed message moves up, at most to the last message.
abbrev pub confirming : ℕ → ℕ → ℕ → Rule
confirming confirmed last upto = record {
  refusals = (
    nat_lt upto confirmed || nat_lt last upto,
    record { number = 401; detail = detail.Messages confirmed last },
  ) ∷ [];
  outcome = does [] [] (Confirm upto ∷ []) (upto - confirmed);
}

-- A part of a manifest: all its lines for here, or nothing. Lines may still be refused.
abbrev pub announced : Part → ℕ → Result (List Change) Refusal → Result Outcome Refusal
announced key count (Ok changes) = does [] [] (changes ++ NotePart key ∷ []) count
announced key count (Err refusal) = Err refusal

abbrev pub announcing : Cargo → InboundPart → LocalMinute → Rule
announcing s f at =
    let key = inbound_part f at in
    let lines = lines_for s.here f.lines in
    record {
      refusals = (
        not (is_day (resolved f.date at.day)),
        record { number = 301; detail = detail.Line 2 why.Date },
      )
          ∷ (is_some (s.parts key), record { number = 213; detail = detail.Part key }) ∷ [];
      outcome = announced key (length lines) (lines_changes s (inbound_flight f at) at.day lines);
    }

-- A status message: its lines are added to the trail.
abbrev pub noting_status : Option Declared → ℕ → List (List ℕ) → Rule
noting_status declared w lines = record {
  refusals = (is_none declared, about 201 w) ∷ [];
  outcome = does [] [] (map (λ line. Trail w line) lines) (length lines);
}

-- The commands of the desk: the rows that each reads, and its rule for them.

abbrev pub reads : DeskCommand → RowsKey
reads (desk.Book w origin destination p t goods) = key.Declaration w
reads (desk.Amend w origin destination p t goods) = key.Waybill w
reads (desk.Receive w p t name) = key.Waybill w
reads (desk.Withdraw w p name) = key.Waybill w
reads (desk.Manifest w flight unload p) = key.Manifest w flight
reads (desk.Offload w flight p) = key.Offload w flight
reads (desk.Reroute flight unload) = key.Departure flight
reads (desk.Depart flight) = key.Departure flight
reads (desk.CheckIn w flight counted) = key.CheckIn w flight
reads (desk.Strike w flight p) = key.CheckIn w flight
reads (desk.Notify w name) = key.Waybill w
reads (desk.Deliver w p name) = key.Waybill w
reads (desk.Transfer w p airline) = key.Waybill w
reads (desk.Missing w p flight) = key.Waybill w
reads (desk.Found w p t flight) = key.Waybill w
reads (desk.Confirm upto) = key.Messages

abbrev pub desk_rule : List ℕ → Rows → DeskCommand → LocalMinute → Rule
desk_rule here (rows.Declaration view) (desk.Book w origin destination p t goods) at =
    declaring view w (dated at.day (booked origin destination p t goods))
desk_rule here (rows.Waybill view) (desk.Amend w origin destination p t goods) at =
    amending here view w (dated at.day (booked origin destination p t goods))
desk_rule here (rows.Waybill view) (desk.Receive w p t name) at = receiving here view w p t name at
desk_rule here (rows.Waybill view) (desk.Withdraw w p name) at = withdrawing here view w p at
desk_rule here (rows.Manifest view on) (desk.Manifest w flight unload p) at =
    manifesting here view on w flight unload p at
desk_rule here (rows.Offload declared outbound load) (desk.Offload w flight p) at =
    offloading here declared outbound load w flight p at
desk_rule here (rows.Departure outbound loads) (desk.Reroute flight unload) at =
    rerouting here outbound loads flight unload
desk_rule here (rows.Departure outbound loads) (desk.Depart flight) at =
    departing here outbound loads flight at
desk_rule here (rows.CheckIn view expected) (desk.CheckIn w flight counted) at =
    checking_in here view expected w flight counted at
desk_rule here (rows.CheckIn view expected) (desk.Strike w flight p) at =
    striking view.declared expected w flight p
desk_rule here (rows.Waybill view) (desk.Notify w name) at = notifying here view w name at
desk_rule here (rows.Waybill view) (desk.Deliver w p name) at = delivering here view w p name at
desk_rule here (rows.Waybill view) (desk.Transfer w p airline) at = transferring here view w p at
desk_rule here (rows.Waybill view) (desk.Missing w p flight) at =
    recording_missing here view w p flight at
desk_rule here (rows.Waybill view) (desk.Found w p t flight) at =
    recording_found here view w p t flight at
desk_rule here (rows.Messages confirmed last) (desk.Confirm upto) at =
    confirming confirmed last upto
desk_rule here _ _ at = no_rule

abbrev pub rule : Cargo → ShipmentCommand → LocalMinute → Rule
rule s (order.Desk command) at = desk_rule s.here (rows_of s (reads command)) command at
rule s (order.Fwb c) at =
    declaring (declaration_view s c.awb) c.awb (dated at.day (declared_by c))
rule s (order.Ffm f) at = announcing s f at
rule s (order.Fsu f) at = noting_status (s.declared f.awb) f.awb f.lines

-- The effect of a command on a state at a moment: the first refusal, or the outcome.
abbrev pub effect : Cargo → ShipmentCommand → LocalMinute → Result Outcome Refusal
effect s command at = decided (rule s command at)

-- the state afterwards, before the notices' texts are in the outbox; `text` is that of the current
-- telegram
abbrev pub carried_out : List ℕ → Outcome → Cargo → Cargo
carried_out text done s = written_all text done.changes (record s { book = s.book ++ done.moves })

-- Texts of flight dates and refusals.

-- a flight date such as LH400/2026-01-12
abbrev pub flight_date_text : FlightDate → List ℕ
flight_date_text f = flight_text f.flight ++ 47 ∷ day_line f.day

-- the subject of a refusal
abbrev pub detail_text : Detail → List ℕ
detail_text detail.Nothing = []
detail_text (detail.Waybill w) = number_text w
detail_text (detail.Pieces pieces) = decimal pieces
detail_text (detail.Flight flight) = flight_date_text flight
detail_text (detail.Part part) = flight_date_text part.flight ++ 47 ∷ (part.airport ++ 47 ∷ decimal part.number)
detail_text (detail.Line line word) = decimal line ++ 32 ∷ why_word word
detail_text (detail.Messages confirmed last) = decimal confirmed ++ 32 ∷ decimal last

-- texts such as refused 102 020-12345723, or without a detail refused 501
abbrev pub refused_with : ℕ → Detail → List ℕ
refused_with number detail.Nothing = codes "refused " ++ decimal number
refused_with number other = codes "refused " ++ decimal number ++ 32 ∷ detail_text other

abbrev pub refusal_text : Refusal → List ℕ
refusal_text refusal = refused_with refusal.number refusal.detail
