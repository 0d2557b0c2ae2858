-- What queries show, and the forms of their clauses.
use Rattle.std.specs.Prelude.{◌≡◌, ◌⊎◌, Bool, true, List, OnOk, IfOk, IsErr, Result, ℤ, [], ◌∷◌, ℕ}
use Rattle.station_rows.specs.Common.{Tables, View, Seen, inside, IsShowing, Rests, Survives, taking, Hands, HandedOut, Held, state, HasCleanDisk, Ghosts, connection_view, LiesInOrder, Int, Text, Row, column, int_of, bytes_of, Build, BuildKey, Count, CountKey, Expected, ExpectedKey, Flight, FlightKey, Move, Waybill, Kept, Message, TrailLine, Station, Stock, StockKey}

-- The forms of the clauses of `TableStore`: what the store showed before, and what it shows now.

-- a write in a transaction: whatever it showed, it now shows this with one change
abbrev pub ShowsChange : {X E : Type 0} → View → View → Result X E → (Tables → Tables) → Type 0
ShowsChange old new result change =
    (before now : Tables) → IsShowing old (inside before now) → OnOk result (IsShowing new (inside before (change now)))

-- a read: whatever it showed, this holds of it and of what was read
abbrev pub TellsOf : {X E : Type 0} → View → View → Result X E → (Tables → X → Type 0) → Type 0
TellsOf old new result Is = (seen : Seen) → IsShowing old seen → new.IsSound → IfOk result (Is seen.now)

-- whatever it showed, it still shows
abbrev pub ShowsStill : {X E : Type 0} → View → View → Result X E → Type 0
ShowsStill old new result = (seen : Seen) → IsShowing old seen → OnOk result (IsShowing new seen)

-- a call that is answered finds the store open
abbrev pub WasOpen : {X E : Type 0} → View → View → Result X E → Type 0
WasOpen old new result = OnOk result (new.IsSound → old.is_open ≡ true)

-- outside a transaction a read changes nothing, whatever it returns, unless it shut the store
abbrev pub RestsIfSound : View → View → Type 0
RestsIfSound old new = new.IsSound → Rests old new

-- rows are handed out: whatever it showed, they are rows of it
abbrev pub HandsOf : {S X E : Type 0} → View → View → Result (Unit {0}) E
    → (S → X → Bool → S → Type 0) → (Tables → List X) → S → S → Type 0
HandsOf old new result takes rows from to = (seen : Seen) → IsShowing old seen → new.IsSound → Hands takes (rows seen.now) from to result

-- a store that is shut hands out nothing, and the call fails
abbrev pub HandsIfOpen : {S X E : Type 0} → View → View → Result X E → S → S → Type 0
HandsIfOpen old new result from to = new.IsSound → (old.is_open ≡ true) ⊎ (IsErr result × (to ≡ from))

-- a statement that reads: this holds of what the store showed and of what was read, which changes nothing
pub record Reads {X E : Type 0} (old new : View) (result : Result X E) (Is : Tables → X → Type 0) : Type 0 where
  pub read : TellsOf old new result Is
  pub same : ShowsStill old new result
  pub was_open : WasOpen old new result
  pub rests : RestsIfSound old new
  pub survives : Survives old new

-- a statement that writes: the store shows this with one change, in the transaction that was open
pub record Changes {X E : Type 0} (old new : View) (result : Result X E) (change : Tables → Tables) : Type 0 where
  pub done : ShowsChange old new result change
  pub survives : Survives old new

-- a statement whose rows are handed out: they are these of what the store showed
pub record HandsOut {S T X E : Type 0} (old new : View) (result : Result (Unit {0}) E) (means : X → T → Type 0) (takes : S → T → Bool → S → Type 0)
    (rows : Tables → List X) (from to : S) : Type 0 where
  pub hands : HandsOf old new result (taking means takes) rows from to
  pub shut : HandsIfOpen old new result from to
  pub took : (given : List T) × HandedOut takes given from to
  pub rests : RestsIfSound old new
  pub survives : Survives old new

-- What the tables over a connection show.

-- They are sound while the disk has returned what was written, the tables are declared as a new
-- station declares them, and rows lie in order in stores of this type.
abbrev pub rows_view : {S : Type 0} → Ghosts S → Held S → Bool → View
rows_view g conn declared = record (connection_view g conn) {
  IsSound = HasCleanDisk (state g conn) × (declared ≡ true) × LiesInOrder g;
}

-- The rows that queries show, and back.

abbrev pub waybill_shown : Waybill → Row
waybill_shown w = Int w.awb ∷ Text w.origin ∷ Text w.destination ∷ Int w.pieces ∷ Int w.tenths
    ∷ Text w.goods ∷ Int w.notified ∷ Int w.since ∷ []

abbrev pub waybill_read : Row → Waybill
waybill_read r = record {
  awb = int_of (column r 0);
  origin = bytes_of (column r 1);
  destination = bytes_of (column r 2);
  pieces = int_of (column r 3);
  tenths = int_of (column r 4);
  goods = bytes_of (column r 5);
  notified = int_of (column r 6);
  since = int_of (column r 7);
}

abbrev pub flight_read : Row → Flight
flight_read r = record { unload = bytes_of (column r 0); closed = int_of (column r 1) }

abbrev pub noted_flight_read : Row → FlightKey × Flight
noted_flight_read r = (
  (bytes_of (column r 0), int_of (column r 1)),
  record { unload = bytes_of (column r 2); closed = int_of (column r 3) },
)

abbrev pub move_shown : Move → Row
move_shown m = Int m.number ∷ Int m.awb ∷ Int m.src ∷ Int m.dst ∷ Int m.pieces ∷ Int m.tenths
    ∷ Text m.flight ∷ Int m.fday ∷ Int m.day ∷ Int m.minute ∷ []

abbrev pub move_read : Row → Move
move_read r = record {
  number = int_of (column r 0);
  awb = int_of (column r 1);
  src = int_of (column r 2);
  dst = int_of (column r 3);
  pieces = int_of (column r 4);
  tenths = int_of (column r 5);
  flight = bytes_of (column r 6);
  fday = int_of (column r 7);
  day = int_of (column r 8);
  minute = int_of (column r 9);
}

abbrev pub expected_read : Row → Expected
expected_read r = record { pieces = int_of (column r 0); tenths = int_of (column r 1); checked = int_of (column r 2) }

abbrev pub listed_waybill_read : Row → ExpectedKey × Expected
listed_waybill_read r = (
  (bytes_of (column r 0), (int_of (column r 1), int_of (column r 2))),
  record { pieces = int_of (column r 3); tenths = int_of (column r 4); checked = int_of (column r 5) },
)

abbrev pub count_read : Row → CountKey × Count
count_read r = ((int_of (column r 0), int_of (column r 1)), record { pieces = int_of (column r 2); tenths = int_of (column r 3) })

abbrev pub build_read : Row → BuildKey × Build
build_read r = ((bytes_of (column r 0), (int_of (column r 1), int_of (column r 2))), record { pieces = int_of (column r 3); tenths = int_of (column r 4) })

abbrev pub pieces_shown : ℤ → Row
pieces_shown pieces = Int pieces ∷ []

abbrev pub pieces_read : Row → ℤ
pieces_read r = int_of (column r 0)

-- its body
abbrev pub part_shown : List ℕ → Row
part_shown body = Text body ∷ []

abbrev pub part_read : Row → List ℕ
part_read r = bytes_of (column r 0)

abbrev pub trail_shown : TrailLine → Row
trail_shown t = Int t.number ∷ Int t.awb ∷ Text t.line ∷ []

abbrev pub trail_read : Row → TrailLine
trail_read r = record {
  number = int_of (column r 0);
  awb = int_of (column r 1);
  line = bytes_of (column r 2);
}

abbrev pub message_shown : Message → Row
message_shown m = Int m.number ∷ Text m.body ∷ []

abbrev pub message_read : Row → Message
message_read r = record {
  number = int_of (column r 0);
  body = bytes_of (column r 1);
}

abbrev pub kept_read : Row → Kept
kept_read r = record { command = bytes_of (column r 0); count = int_of (column r 1) }

-- its count
abbrev pub kept_text_shown : ℤ → Row
kept_text_shown count = Int count ∷ []

abbrev pub kept_text_read : Row → ℤ
kept_text_read r = int_of (column r 0)

abbrev pub stock_read : Row → StockKey × Stock
stock_read r = (
  (int_of (column r 0), int_of (column r 1)),
  record { high = int_of (column r 2); holder = int_of (column r 3); agent = bytes_of (column r 4) },
)

abbrev pub station_read : Row → Station
station_read r = record {
  id = int_of (column r 0);
  airport = bytes_of (column r 1);
  version = int_of (column r 2);
  confirmed = int_of (column r 3);
}
