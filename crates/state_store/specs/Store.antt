-- The view of a store of a station's state, and the state in maps in memory.
use Rattle.std.specs.Prelude.{ℕ, Bool, ◌&&◌, ◌==◌, if◌then◌else◌, Option, None, ◌||◌, nat_lt, List, [], ◌∷◌, ◌+◌, ◌-◌, ◌≡◌, is_some, Some, Vec, String, string_bytes, nat_le, map, ◌⊎◌, true, false, Result, IfOk, OnOk}
use Rattle.std.proofs.Common.{Ordering}
use Rattle.state_store.specs.Common.{lookup, same_flight_date, FlightDate, Expected, eq_by_cmp, IsTotalOrder, on_total, then_total, nat_cmp_total, nat_list_cmp_total, flight_text, by_flight, flat_map, balances_of, waybills_of, Balances, Move, stored_of, WaybillBalances, Amount, Place, amount, moved_in, moved_out, pieces_of, same_place, tenths_of, Delivered, Departed, Free, Hand, Missing, Surplus, Transferred, Declared, has_come, AnnouncedRow, Load, BTreeMap, get, unwrap_or, nat_cmp, has_moves, Built, HashMap, get_by, option_map, bytes_eq, Kept, Holders, Holder, Cargo, same_part, Outbound, Part, texts_in, HandedOut, Hands, KeepsPremise, State, has_room}
use Rattle.state_store.specs.declared.lines.ExpectedLines.{ExpectedLines}
use Rattle.state_store.specs.declared.flight_key.FlightKey.{FlightKey}
use Rattle.state_store.specs.declared.viewing.WaybillQuery.{WaybillQuery}
use Rattle.state_store.specs.declared.viewing.WaybillQuery.TheVariants.{Stored, Irregular}
use Rattle.state_store.specs.declared.maps.flow.Flow.{Flow}
use Rattle.state_store.specs.declared.maps.flow.Total.{Total}
use Rattle.state_store.specs.declared.maps.waybill_flows.WaybillFlows.{WaybillFlows}
use Rattle.state_store.specs.declared.maps.book.MovementBook.{MovementBook}
use Rattle.state_store.specs.declared.maps.stock.MapStock.{MapStock}
use Rattle.state_store.specs.declared.maps.state.AirportKey.{AirportKey}
use Rattle.state_store.specs.declared.maps.state.MapState.{MapState}
use Rattle.state_store.specs.declared.maps.state.TrailEntry.{TrailEntry}

-- Expectations, line by line: a line is the expectation of a waybill on a flight.

-- the line of each waybill on each flight, if there is one
abbrev pub Lines : Type 0
Lines = FlightDate → ℕ → Option Expected

abbrev pub no_lines : Lines
no_lines f w = None

-- sets or removes the line of a waybill on a flight
abbrev pub with_line : Lines → FlightDate → ℕ → Option Expected → Lines
with_line lines flight awb line f w =
    if same_flight_date f flight && (w == awb) then line else lines f w

-- the stored lines, each under its flight and its waybill
abbrev pub same_line : FlightDate × ℕ → FlightDate × ℕ → Bool
same_line a b = same_flight_date a.0 b.0 && (a.1 == b.1)

abbrev pub line_of : FlightKey × ℕ → FlightDate × ℕ
line_of k = (k.0.flight, k.1)

abbrev pub lines_in : ExpectedLines → Lines
lines_in kept f w = lookup (λ k. same_line (f, w) (line_of k)) kept.entries.entries

-- The flights in a map, ordered as readers do.

-- flights are ordered by written form, and then by day
abbrev pub by_key : FlightKey → FlightKey → Ordering
by_key a b = by_flight a.flight b.flight

flights_total : IsTotalOrder by_flight
flights_total = then_total (on_total (λ (f : FlightDate). flight_text f.flight) nat_list_cmp_total) (on_total (λ (f : FlightDate). f.day) nat_cmp_total)

pub key_total : IsTotalOrder by_key
key_total = on_total (λ (k : FlightKey). k.flight) flights_total

-- keys that compare as equal are the same
abbrev pub same_key : FlightKey → FlightKey → Bool
same_key a b = eq_by_cmp by_key a b

-- The waybills that a store lists, by their balances.

-- true if the query includes a waybill with these balances: with pieces in store, or with missing
-- or found pieces
abbrev pub is_asked_for : WaybillQuery → Balances → Bool
is_asked_for Stored b = nat_lt 0 (stored_of b).pieces
is_asked_for Irregular b = nat_lt 0 b.missing.pieces || nat_lt 0 b.found.pieces

abbrev pub with_balances : List Move → ℕ → WaybillBalances
with_balances book w = record { awb = w; balances = balances_of book w }

abbrev pub asked : WaybillQuery → List Move → ℕ → List WaybillBalances
asked query book w = if is_asked_for query (balances_of book w) then with_balances book w ∷ [] else []

-- the queried waybills of a book, ascending, each with its balances
abbrev pub waybills_for : WaybillQuery → List Move → List WaybillBalances
waybills_for query book = flat_map (asked query book) (waybills_of book)

-- Flows into a place and out of it, summed next to the book.

abbrev pub flow_of : List Move → ℕ → Place → Flow
flow_of book w place = record {
  came = record { pieces = moved_in pieces_of book w (same_place place); tenths = moved_in tenths_of book w (same_place place) };
  went = record { pieces = moved_out pieces_of book w (same_place place); tenths = moved_out tenths_of book w (same_place place) };
}

-- the sums with another move
abbrev pub more : Total → Move → Total
more total m = record { pieces = total.pieces + m.pieces; tenths = total.tenths + m.tenths }

abbrev pub flow_with : Place → Flow → Move → Flow
flow_with place flow m = record {
  came = if same_place place m.to then more flow.came m else flow.came;
  went = if same_place place m.from then more flow.went m else flow.went;
}

abbrev pub still : Flow
still = record { came = record { pieces = 0; tenths = 0 }; went = record { pieces = 0; tenths = 0 } }

-- the amount that is there, and the amount that came from there
abbrev pub held_of : Flow → Amount
held_of flow = amount (flow.came.pieces - flow.went.pieces) (flow.came.tenths - flow.went.tenths)

abbrev pub drawn_of : Flow → Amount
drawn_of flow = amount (flow.went.pieces - flow.came.pieces) (flow.went.tenths - flow.came.tenths)

-- Flows of a waybill at each place except the built ones.

abbrev pub flows_of : List Move → ℕ → WaybillFlows
flows_of book w = record {
  hand = flow_of book w Hand;
  surplus = flow_of book w Surplus;
  free = flow_of book w Free;
  missing = flow_of book w Missing;
  departed = flow_of book w Departed;
  delivered = flow_of book w Delivered;
  transferred = flow_of book w Transferred;
}

abbrev pub flows_with : WaybillFlows → Move → WaybillFlows
flows_with flows m = record {
  hand = flow_with Hand flows.hand m;
  surplus = flow_with Surplus flows.surplus m;
  free = flow_with Free flows.free m;
  missing = flow_with Missing flows.missing m;
  departed = flow_with Departed flows.departed m;
  delivered = flow_with Delivered flows.delivered m;
  transferred = flow_with Transferred flows.transferred m;
}

abbrev pub no_flows : WaybillFlows
no_flows = record {
  hand = still;
  surplus = still;
  free = still;
  missing = still;
  departed = still;
  delivered = still;
  transferred = still;
}

abbrev pub balances_by : WaybillFlows → Balances
balances_by flows = record {
  taken = drawn_of flows.hand;
  found = drawn_of flows.surplus;
  free = held_of flows.free;
  missing = held_of flows.missing;
  departed = held_of flows.departed;
  delivered = held_of flows.delivered;
  transferred = held_of flows.transferred;
}

-- Rows made from the sums next to the book.

-- a waybill with its balances from its flows, if it is queried
abbrev pub asked_by : WaybillQuery → ℕ × WaybillFlows → List WaybillBalances
asked_by query e = if is_asked_for query (balances_by e.1) then record { awb = e.0; balances = balances_by e.1 } ∷ [] else []

-- a declared waybill, if nothing of it has come in
abbrev pub announced_by : List Move → ℕ × Declared → List AnnouncedRow
announced_by book e = if has_come book e.0 then [] else record { awb = e.0; declared = e.1 } ∷ []

-- a waybill with its flow on a flight, if it has pieces there
abbrev pub loaded : ℕ × Flow → List Load
loaded e = if nat_lt 0 (held_of e.1).pieces then record { awb = e.0; amount = held_of e.1 } ∷ [] else []

-- The sums next to a movement book are those of its moves.

-- the flow of a waybill among those of a flight
abbrev pub flow_in : BTreeMap ℕ Flow → ℕ → Flow
flow_in flows w = unwrap_or (get nat_cmp flows w) still

abbrev pub flow_by : Option (BTreeMap ℕ Flow) → ℕ → Flow
flow_by None w = still
flow_by (Some flows) w = flow_in flows w

abbrev pub flow_at : BTreeMap FlightKey (BTreeMap ℕ Flow) → FlightKey → ℕ → Flow
flow_at loads k w = flow_by (get by_key loads k) w

-- the stored flows of a waybill are those of a book
pub record IsWaybillSummed (flows : BTreeMap ℕ WaybillFlows) (book : List Move) (w : ℕ) : Type 0 where
  pub are : unwrap_or (get nat_cmp flows w) no_flows ≡ flows_of book w
  pub moved : is_some (get nat_cmp flows w) ≡ has_moves book w

-- the same for each waybill, also on each flight
pub record IsSummed (book : MovementBook) : Type 0 where
  pub waybills : (w : ℕ) → IsWaybillSummed book.flows book.moves.items w
  pub flights : (k : FlightKey) (w : ℕ) → flow_at book.loads k w ≡ flow_of book.moves.items w (Built k.flight)

-- Entries under keys and for texts.

abbrev pub kept_in : {Y : Type 0} → String Y × ℕ → Kept
kept_in e = record { request = string_bytes e.0; count = e.1 }

abbrev pub kept_under : {Y Z S : Type 0} → HashMap (Vec ℕ Z) (String Y × ℕ) S → List ℕ → Option Kept
kept_under replies key = option_map kept_in (get_by (λ k. bytes_eq key k.items) replies)

abbrev pub count_under : {Z S : Type 0} → HashMap (Vec ℕ Z) ℕ S → List ℕ → Option ℕ
count_under texts text = get_by (λ k. bytes_eq text k.items) texts

-- The holder of each number, by entries that hold up to the next one.

-- the holder named by the last entry up to the number, `before` if there is none
abbrev pub named_by : Option Holder → List (ℕ × Option Holder) → ℕ → Option Holder
named_by before [] q = before
named_by before (e ∷ es) q = named_by (if nat_le e.0 q then e.1 else before) es q

-- the stock in which one holder has the numbers from one up to another
abbrev pub with_numbers : Holders → ℕ → ℕ → Holder → Holders
with_numbers held from end holder q = if nat_le from q && nat_lt q end then Some holder else held q

-- The stock in a map of runs.

-- nobody holds a number below the first entry
abbrev pub holders_of : MapStock → Holders
holders_of stock q = named_by None stock.begins.entries q

abbrev pub nobody : Holders
nobody q = None

-- The cargo in maps and lists of rows.

abbrev pub declared_in : BTreeMap ℕ Declared → ℕ → Option Declared
declared_in rows w = get nat_cmp rows w

abbrev pub flights_in : BTreeMap FlightKey Outbound → FlightDate → Option Outbound
flights_in rows f = lookup (λ k. same_flight_date f k.flight) rows.entries

abbrev pub part_of : FlightKey × AirportKey × ℕ → Part
part_of k = record { flight = k.0.flight; airport = k.1.letters; number = k.2 }

abbrev pub parts_in : {Z : Type 0} → BTreeMap (FlightKey × AirportKey × ℕ) (Vec ℕ Z) → Part → Option (List ℕ)
parts_in rows part = option_map (λ text. text.items) (lookup (λ k. same_part part (part_of k)) rows.entries)

-- the trail and the outbox, in order
abbrev pub trail_line : TrailEntry → ℕ × List ℕ
trail_line row = (row.awb, row.line.items)

abbrev pub trail_in : List TrailEntry → List (ℕ × List ℕ)
trail_in rows = map trail_line rows

abbrev pub cargo_of : MapState → Cargo
cargo_of k = record {
  here = k.here;
  holders = holders_of k.stock;
  declared = declared_in k.declared;
  book = k.book.moves.items;
  flights = flights_in k.flights;
  expected = lines_in k.expected;
  parts = parts_in k.parts;
  trail = trail_in k.trail.items;
  outbox = texts_in k.outbox.items;
  confirmed = k.confirmed;
}

-- The view of a store of a station's state, and the effect of calls.

-- the state in the transaction, and that of the last commit
pub record Seen : Type 0 where
  pub now : State
  pub committed : State
  pub in_transaction : Bool

-- between two transactions
abbrev pub at_rest : State → Seen
at_rest s = record { now = s; committed = s; in_transaction = false }

abbrev pub inside : State → State → Seen
inside before s = record { now = s; committed = before; in_transaction = true }

-- what contracts say of a store
pub record Storing (K : Type 0) : Type 1 where
  -- the store shows this, as long as the disk is clean
  pub shows : K → Seen → Type 0
  -- the disk has returned what was written, and kept what it confirmed
  pub is_clean : K → Type 0
  -- the premise of the contracts: clean, and nothing else is wrong with the storage; a call ends
  -- it only if the disk fails
  pub is_sound : K → Type 0
  -- reopening may find this after a crash at this moment; `None` if the tables mean no state
  pub may_find : K → Option State → Type 0

-- a state shown between two transactions is still shown, whatever the result
abbrev pub StaysAtRest : {K : Type 0} → Storing K → K → K → Type 0
StaysAtRest k old new = (s : State) → k.shows old (at_rest s) → k.shows new (at_rest s)

-- whatever a call returns: faults stay recorded, what was sound and is clean is sound, and
-- reopening finds what it found before
pub record Survives {K : Type 0} (k : Storing K) (old new : K) : Type 0 where
  pub clean : k.is_clean new → k.is_clean old
  pub still : k.is_sound old → k.is_clean new → k.is_sound new
  pub sound : k.is_sound new → k.is_sound old
  pub leaves : k.is_sound new → (found : Option State) → k.may_find new found → k.may_find old found

-- the same, except that a commit may have left this state
pub record MayLeave {K : Type 0} (k : Storing K) (after : State) (old new : K) : Type 0 where
  pub sound : k.is_sound new → k.is_sound old
  pub leaves : k.is_sound new → (found : Option State) → k.may_find new found → k.may_find old found
      ⊎ (found ≡ Some after)

-- whatever state the store shows, this holds of it
abbrev pub Says : {K : Type 0} → Storing K → K → (State → Type 0) → Type 0
Says k now Is = (x : Seen) → k.shows now x → k.is_sound now → Is x.now

-- a read: this holds of the state and of what was read, and the store still shows what it showed
pub record Reads {K A E : Type 0} (k : Storing K) (old new : K) (result : Result A E) (Is : State → A → Type 0) : Type 0 where
  pub value : (x : Seen) → k.shows old x → k.is_sound new → IfOk result (Is x.now)
  pub same : (x : Seen) → k.shows old x → OnOk result (k.shows new x)
  pub rests : StaysAtRest k old new
  pub survives : Survives k old new

-- the same of a read between two transactions
pub record ReadsAtRest {K A E : Type 0} (k : Storing K) (old new : K) (result : Result A E) (Is : State → A → Type 0) : Type 0 where
  pub value : (s : State) → k.shows old (at_rest s) → k.is_sound new → IfOk result (Is s)
  pub rests : StaysAtRest k old new
  pub survives : Survives k old new

-- rows are handed out, between two transactions: the sink took these of the state, in order
pub record HandsOut {K S Row E : Type 0} (k : Storing K) (old new : K) (result : Result (Unit {0}) E) (takes : S → Row → Bool → S → Type 0)
    (listed : State → List Row) (from to : S) : Type 0 where
  pub rows : (s : State) → k.shows old (at_rest s) → k.is_sound new → Hands takes (listed s) from to result
  pub took : (rows : List Row) × HandedOut takes rows from to
  pub rests : StaysAtRest k old new
  pub survives : Survives k old new

-- a write, inside a transaction: the store shows the state with this change
pub record Changes {K E : Type 0} (k : Storing K) (old new : K) (result : Result (Unit {0}) E) (change : State → State) : Type 0 where
  pub done : (before s : State) → k.shows old (inside before s) → OnOk result (k.shows new (inside before (change s)))
  pub survives : Survives k old new

-- the same change, and then a commit
pub record Commits {K E : Type 0} (k : Storing K) (old new : K) (result : Result (Unit {0}) E) (change : State → State) : Type 0 where
  pub done : (before s : State) → k.shows old (inside before s) → OnOk result (k.shows new (at_rest (change s)))
  pub premise : KeepsPremise k.is_clean k.is_sound old new
  pub leaves : (before s : State) → k.shows old (inside before s) → MayLeave k (change s) old new

-- The state in maps and lists in memory.

abbrev pub state_of : MapState → State
state_of k = record { cargo = cargo_of k; kept_keys = kept_under k.kept_keys; kept_texts = count_under k.kept_texts }

-- The rows are those of this state, all of them can be numbered, and the sums next to the book are
-- those of its moves.
pub record Shows (k : MapState) (s : State) : Type 0 where
  pub is : state_of k ≡ s
  pub room : has_room s.cargo ≡ true
  pub summed : IsSummed k.book

-- memory is sound, and reopening finds nothing, since nothing survives a crash
abbrev pub in_memory : Storing MapState
in_memory = record { shows = λ k x. Shows k x.now; is_clean = λ k. Unit {0}; is_sound = λ k. Unit {0}; may_find = λ k found. ⊥ }
