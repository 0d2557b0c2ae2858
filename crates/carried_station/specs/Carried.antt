-- The part of a station that is carried, and what may be left out.
use Rattle.std.specs.Prelude.{◌≡◌, ◌⊎◌, ◌↔◌, ℕ, ◌≤◌, Bool, true, false, not, ◌&&◌, ◌||◌, nat_le, IsTrue, IsSome, IfSome, Option, Some, None, List, ◌∷◌, take, drop, length}
use Rattle.carried_station.specs.Common.{AllByRecursion, filter, list_any, range_with_len, bytes_eq, Holder, Used, number_text, IsCommand, command_text, Command, same_place, Cargo, is_closed, departs_with, DeskCommand, FlightDate, Move, Outbound, Part, Built, State, IsMeant, Meant, Content}
use Rattle.carried_station.specs.Finished.{IsFinished}
use Rattle.shipment_machine.specs.declared.command.DeskCommand.TheVariants as desk
use Rattle.desk_commands.specs.declared.command.Command.TheVariants as command
use Rattle.telegrams.specs.declared.telegram.Content.TheVariants as content

-- What is carried: waybills, with all that is theirs, flights, parts of manifests, messages by
-- their texts, the entries of keys, and texts of telegrams.
pub record Choice : Type 0 where
  pub waybill : ℕ → Bool
  pub flight : FlightDate → Bool
  pub part : Part → Bool
  pub message : List ℕ → Bool
  pub key : List ℕ → Bool
  pub text : List ℕ → Bool

-- The carried part of a state.

-- a row that is carried
abbrev pub if_carried : {X : Type 0} → Bool → Option X → Option X
if_carried true row = row
if_carried false row = None

-- a used number whose waybill is left out is in stock no more
abbrev pub holder_if_carried : Bool → Option Holder → Option Holder
holder_if_carried false (Some Used) = None
holder_if_carried _ holder = holder

-- the moves and the lines of the trail of carried waybills, in their order
abbrev pub carried_moves : Choice → List Move → List Move
carried_moves c book = filter (λ m. c.waybill m.awb) book

abbrev pub carried_lines : Choice → List (ℕ × List ℕ) → List (ℕ × List ℕ)
carried_lines c trail = filter (λ line. c.waybill line.0) trail

-- Waybills are carried whole. Moves, lines and messages keep their order, and are numbered from 1
-- again. All messages are confirmed.
abbrev pub carried_cargo : Choice → Cargo → Cargo
carried_cargo c s = record {
  here = s.here;
  holders = λ w. holder_if_carried (c.waybill w) (s.holders w);
  declared = λ w. if_carried (c.waybill w) (s.declared w);
  book = carried_moves c s.book;
  flights = λ f. if_carried (c.flight f) (s.flights f);
  expected = λ f w. if_carried (c.waybill w) (s.expected f w);
  parts = λ p. if_carried (c.part p) (s.parts p);
  trail = carried_lines c s.trail;
  outbox = filter c.message s.outbox;
  confirmed = length (filter c.message s.outbox);
}

abbrev pub carried : Choice → State → State
carried c s = record {
  cargo = carried_cargo c s.cargo;
  kept_keys = λ key. if_carried (c.key key) (s.kept_keys key);
  kept_texts = λ text. if_carried (c.text text) (s.kept_texts text);
}

-- What may be left out.

-- a move names a flight as built: to the flight, or from there
abbrev pub names_built : FlightDate → Move → Bool
names_built f m = same_place m.from (Built f) || same_place m.to (Built f)

-- a noted flight is carried if a carried move names it as built, or if it is open, of the day or
-- later
abbrev pub is_carried_flight : Choice → ℕ → List Move → FlightDate → Outbound → Bool
is_carried_flight c day book f outbound =
    list_any (names_built f) (carried_moves c book) || (not outbound.closed && nat_le day f.day)

-- a carried waybill is or was expected on a flight
abbrev pub IsExpectedOn : Choice → Cargo → FlightDate → Type 0
IsExpectedOn c s f = (w : ℕ) × IsTrue (c.waybill w) × IsSome (s.expected f w)

-- true if bytes stand in a text
abbrev pub is_within : List ℕ → List ℕ → Bool
is_within part text =
    list_any (λ n. bytes_eq (take (length part) (drop n text)) part)
    (range_with_len 0 (length text))

-- true if a message names a waybill: a line after its first begins with the number
abbrev pub names : ℕ → List ℕ → Bool
names w text = is_within (10 ∷ number_text w) text

abbrev pub NamesCarried : Choice → Cargo → List ℕ → Type 0
NamesCarried c s text =
    (w : ℕ) × IsSome (s.declared w) × IsTrue (c.waybill w) × IsTrue (names w text)

-- The keys of orders on the stock and of `book` are carried, those of commands about a carried
-- waybill or flight, and none of `confirm`, whose numbers are those of the old file.
abbrev pub is_known_desk : Choice → DeskCommand → Bool
is_known_desk c (desk.Book w origin destination pieces tenths goods) = true
is_known_desk c (desk.Amend w origin destination pieces tenths goods) = c.waybill w
is_known_desk c (desk.Receive w pieces tenths name) = c.waybill w
is_known_desk c (desk.Withdraw w pieces name) = c.waybill w
is_known_desk c (desk.Manifest w flight unload pieces) = c.waybill w
is_known_desk c (desk.Offload w flight pieces) = c.waybill w
is_known_desk c (desk.Reroute flight unload) = c.flight flight
is_known_desk c (desk.Depart flight) = c.flight flight
is_known_desk c (desk.CheckIn w flight counted) = c.waybill w
is_known_desk c (desk.Strike w flight pieces) = c.waybill w
is_known_desk c (desk.Notify w name) = c.waybill w
is_known_desk c (desk.Deliver w pieces name) = c.waybill w
is_known_desk c (desk.Transfer w pieces airline) = c.waybill w
is_known_desk c (desk.Missing w pieces flight) = c.waybill w
is_known_desk c (desk.Found w pieces tenths flight) = c.waybill w
is_known_desk c (desk.Confirm upto) = false

abbrev pub is_known_command : Choice → Command → Bool
is_known_command c (command.Stock order) = true
is_known_command c (command.Cargo order) = is_known_desk c order

-- the texts of all FWB and FFM are carried, and those of the FSU of carried waybills
abbrev pub is_known_text : Choice → Content → Bool
is_known_text c (content.Fwb line) = true
is_known_text c (content.Ffm part) = true
is_known_text c (content.Fsu status) = c.waybill status.awb

-- What may be carried by a day. More waybills may be carried than must be.
pub record MayCarry (s : State) (day : ℕ) (c : Choice) : Type 0 where
  -- what is left out was finished before the day; a number that isn't declared counts as carried
  pub finished : (w : ℕ) → c.waybill w ≡ false → IsFinished s.cargo day w
  -- which flights are carried
  pub flights : (f : FlightDate)
      → IfSome (s.cargo.flights f) (λ o. c.flight f ≡ is_carried_flight c day s.cargo.book f o)
  -- with a carried waybill that was built on a closed flight goes one that left with it
  pub left : (f : FlightDate) → IsTrue (c.flight f) → IsTrue (is_closed (s.cargo.flights f))
      → IsTrue (list_any (departs_with f) (carried_moves c s.cargo.book))
  -- parts are carried of flights of that day or later, or with a carried expectation
  pub parts : (p : Part) → IfSome (s.cargo.parts p) (λ _. IsTrue (c.part p)
      ↔ ((day ≤ p.flight.day) ⊎ IsExpectedOn c s.cargo p.flight))
  -- with a part goes its telegram's text
  pub manifests : (p : Part) → IfSome (s.cargo.parts p) (λ text. IsTrue (c.part p)
      → IsTrue (c.text text))
  -- no message is unconfirmed; those that name a carried waybill are carried
  pub confirmed : s.cargo.confirmed ≡ length s.cargo.outbox
  pub messages : AllByRecursion (λ text. IsTrue (c.message text) ↔ NamesCarried c s.cargo text)
      s.cargo.outbox
  -- which keys and texts of telegrams are still known
  pub keys : (key : List ℕ) (order : Command) → IsCommand order
      → IfSome (s.kept_keys key) (λ kept. kept.request ≡ command_text order
      → c.key key ≡ is_known_command c order)
  pub texts : (telegram : Meant) → IsMeant telegram → IsSome (s.kept_texts telegram.text)
      → c.text telegram.text ≡ is_known_text c telegram.content
