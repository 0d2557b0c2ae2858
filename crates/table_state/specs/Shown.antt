-- What a store of tables shows of a state.
use Rattle.std.specs.Prelude.{◌≡◌, ℕ, Bool, ◌||◌, nat_lt, List, Some, true, false, Option, None, IsTrue, ◌≤◌, ◌<◌, All, IfSome, ℤ, pos, ◌+ℤ◌, int_lt, not, ◌&&◌, length, [], ◌∷◌, ◌==◌, is_some, if◌then◌else◌}
use Rattle.table_state.specs.Common.{BTreeSet, IsNumber, Message, is_about, message, contains, nat_cmp, Balances, Cargo, Declared, Move, announced, has_come, AnnouncedRow, Hand, Waybill, natural, declared_by, Trees, IsOwn, tables_of, Means, State, IsLawfulState, get_by, Tables, waybill_id, with_waybill, changing_waybill, View, with_move, move_row, move_by, is_move_row, Posted, BTreeMap, get, FlightDate, numbered, book_row, is_of_flight, BookRow, balances_of, in_store, same_place, waybills_on, is_in, Missing, Surplus, expected_for, Open, IsAtRest, running, AreKnown, Lines, lines_in, Seen, Storing, is_asked_for, ExpectedLines, WaybillQuery, Irregular, Stored, sizes_of, Sizes, at_rest}
use Rattle.station_schema.specs.Tables as table
use Rattle.row_codec.proofs.SameMeaning.{same_meaning}
use Rattle.table_state.specs.declared.span.Span.{Span}
use Rattle.table_state.specs.declared.counted.Boarded.{Boarded}
use Rattle.table_state.specs.declared.counted.Boardings.{Boardings}
use Rattle.table_state.specs.declared.counted.KnownCounts.{KnownCounts}
use Rattle.table_state.specs.declared.counted.KnownSpans.{KnownSpans}
use Rattle.table_state.specs.declared.state.TableState.{TableState}
use Rattle.table_state.specs.declared.waybill_sets.WaybillSets.{WaybillSets}

-- The waybills of which pieces have come in, and the rows that announce the others.

-- pieces of a waybill with these balances have come in: received or found
abbrev pub has_come_by : Balances → Bool
has_come_by b = nat_lt 0 b.taken.pieces || nat_lt 0 b.found.pieces

-- the numbers are those of a book's waybills of which pieces have come in
abbrev pub HaveCome : BTreeSet ℕ → List Move → Type 0
HaveCome numbers book = (w : ℕ) → contains nat_cmp numbers w ≡ has_come book w

-- the row of a waybill, if it is declared and nothing of it has come in
abbrev pub announced_row : ℕ → Option Declared → List AnnouncedRow
announced_row w None = []
announced_row w (Some d) = record { awb = w; declared = d } ∷ []

abbrev pub announcing : Cargo → ℕ → List AnnouncedRow
announcing s w = announced_row w (announced s w)

-- what a row declares, as readers are given it
abbrev pub announced_by : Waybill → AnnouncedRow
announced_by row = record { awb = natural row.awb; declared = declared_by row }

-- A file that a station wrote.

-- A station declared the tables of these trees, and they mean this state, which is lawful.
pub record IsFileOf (db : Trees) (s : State) : Type 0 where
  pub own : IsOwn db
  pub means : Means (tables_of db) (Some s)
  pub lawful : IsLawfulState s

-- A row that is written over the one with its key, or anew.

abbrev pub put_over : Option Waybill → Waybill → Tables → Tables
put_over None new tables = with_waybill new tables
put_over (Some was) new tables = changing_waybill new tables

-- anew where the row is said to be missing, and where none has its key
abbrev pub putting_waybill : Bool → Waybill → Tables → Tables
putting_waybill true new tables = with_waybill new tables
putting_waybill false new tables = put_over (get_by waybill_id tables.waybills new.awb) new tables

-- A move that was written, with what it changes of the running counts.

-- in a transaction a store shows these tables with one move more, under this number, and the
-- running counts of this book
pub record Recorded (v : View) (before now : Tables) (n : ℕ) (m : Move) (book : List Move) : Type 0 where
  pub row : table.Move
  pub is : row ≡ move_row n m
  pub fits : IsTrue (is_move_row (move_row n m))
  pub again : move_by (move_row n m) ≡ m
  pub posted : Posted v before (with_move row now) book

-- The part of the book in which the moves of a day's flights lie.

-- a number lies in a span
abbrev pub LiesIn : Span → ℕ → Type 0
LiesIn span n = (span.after < n) × (n ≤ span.last)

-- where spans are kept, the key has one, and a number lies in it
abbrev pub IsSpanned : Option (BTreeMap ℕ Span) → ℕ → ℕ → Type 0
IsSpanned kept key n =
    IfSome kept (λ spans. (span : Span) × (get nat_cmp spans key ≡ Some span) × LiesIn span n)

-- the number of a move lies in the span of the day of each flight that it is of
abbrev pub IsCovered : Option (BTreeMap ℕ Span) → BookRow → Type 0
IsCovered kept row =
    (f : FlightDate) → is_of_flight f row.movement ≡ true → IsSpanned kept f.day row.number

-- so it is of each move of a book
abbrev pub AreCovered : Option (BTreeMap ℕ Span) → List Move → Type 0
AreCovered kept book = All (IsCovered kept) (numbered book_row 1 book)

-- the spans after a move: nothing leaves them, and the move is covered
pub record Covers (old new : Option (BTreeMap ℕ Span)) (row : BookRow) : Type 0 where
  pub grows : (day n : ℕ) → IsSpanned old day n → IsSpanned new day n
  pub there : IsCovered new row

-- a status message of a waybill lies in its span, where spans are kept
abbrev pub IsTold : Option (BTreeMap ℕ Span) → Message → Type 0
IsTold kept m = (w : ℕ) → IsNumber w → is_about w m ≡ true → IsSpanned kept w m.number

-- so does each of the outbox
abbrev pub AreTold : Option (BTreeMap ℕ Span) → List (List ℕ) → Type 0
AreTold kept outbox = All (IsTold kept) (numbered message 1 outbox)

-- the spans after a message: nothing leaves them, and the message lies in that of its waybill
pub record Reaches (old new : Option (BTreeMap ℕ Span)) (m : Message) : Type 0 where
  pub grows : (w n : ℕ) → IsSpanned old w n → IsSpanned new w n
  pub there : IsTold new m

-- the spans that are kept are those of a book and of an outbox
pub record HaveSpans (spans : KnownSpans) (book : List Move) (outbox : List (List ℕ)) : Type 0 where
  pub flights : AreCovered spans.flights.kept book
  pub statuses : AreTold spans.statuses.kept outbox

-- the tables mean what is shown; between two transactions they are those of the last commit
pub record Stands (v : View) (x : Seen) : Type 0 where
  pub mode : v.in_transaction ≡ x.in_transaction
  pub rest : x.in_transaction ≡ false → v.now ≡ v.committed
  pub now : Means v.now (Some x.now)
  pub committed : Means v.committed (Some x.committed)

-- A store that is open shows this state. One that was shut says nothing more, but a crash still
-- leaves what was committed.
pub record Holds (v : View) (x : Seen) : Type 0 where
  pub inside : x.in_transaction ≡ true → v.is_open ≡ true
  pub stands : v.is_open ≡ true → Stands v x
  pub found : (t : Tables) → v.may_leave t → Means t (Some x.committed)

-- what is known of the state beside the tables
pub record Knows (here : List ℕ) (sizes : Sizes) (confirmed : ℕ) (x : Seen) : Type 0 where
  pub here_is : here ≡ x.now.cargo.here
  pub sizes_are : sizes ≡ sizes_of x.now.cargo
  pub confirmed_is : confirmed ≡ x.now.cargo.confirmed

-- where a number is kept, so many waybills of a book have something built on its flight
abbrev pub IsBoarded : Option Boarded → List Move → Type 0
IsBoarded boarded book = IfSome boarded (λ b. b.waybills ≡ length (waybills_on book b.flight))

-- each number that is kept is that of its flight
abbrev pub AreBoarded : Boardings → List Move → Type 0
AreBoarded kept book = All (λ boarded. IsBoarded boarded book) kept.flights

-- whether pieces that come to a place where there were so many are the first there
abbrev pub joins : ℤ → ℕ → Bool
joins were pieces = not (int_lt (pos 0) were) && int_lt (pos 0) (were +ℤ pos pieces)

-- where waybills are kept, each that is asked for is among them
abbrev pub HasAsked : WaybillQuery → Option (BTreeSet ℕ) → List Move → Type 0
HasAsked query kept book =
    IfSome kept (λ waybills. (w : ℕ) → is_asked_for query (balances_of book w) ≡ true → is_in w waybills.keys ≡ true)

-- what is declared of each waybill
abbrev pub Declarations : Type 0
Declarations = ℕ → Option Declared

-- with another declaration of a waybill
abbrev pub declaring : ℕ → Declared → Declarations → Declarations
declaring w d declared q = if q == w then Some d else declared q

-- where waybills are kept, each declared one of which nothing has come in is among them
abbrev pub HasAnnounced : Option (BTreeSet ℕ) → List Move → Declarations → Type 0
HasAnnounced kept book declared =
    IfSome kept (λ waybills. (w : ℕ) → has_come book w ≡ false → is_some (declared w) ≡ true → is_in w waybills.keys ≡ true)

-- so it is of those with pieces in store, of those with pieces missing or found, and of those that
-- are announced
pub record HaveAsked (sets : WaybillSets) (book : List Move) (declared : Declarations) : Type 0 where
  pub stored : HasAsked Stored sets.stored book
  pub irregular : HasAsked Irregular sets.irregular book
  pub announced : HasAnnounced sets.announced book declared

-- whether a waybill may be asked for after a move and not before: pieces come from outside the
-- store, or are found or missing
abbrev pub opens : WaybillQuery → Move → Bool
opens Stored m = not (in_store m.from)
opens Irregular m = same_place Surplus m.from || same_place Missing m.to

-- whether pieces go back to where they come in from, so that their waybill may be announced again
abbrev pub takes_back : Move → Bool
takes_back m = same_place Hand m.to || same_place Surplus m.to

-- where the open lines are kept, they are all lines that weren't checked in
abbrev pub HasOpen : Option ExpectedLines → Lines → Type 0
HasOpen kept lines = IfSome kept (λ open_lines. lines_in open_lines ≡ expected_for Open lines)

-- what is kept beside the tables is true of a book, of what flights are to bring, of what is declared
-- and of an outbox
pub record IsCounted (counted : KnownCounts) (book : List Move) (lines : Lines) (declared : Declarations) (outbox : List (List ℕ)) : Type 0 where
  pub boarded : AreBoarded counted.boarded book
  pub known : AreKnown counted.known (running book)
  pub waybills : HaveAsked counted.waybills book declared
  pub open_lines : HasOpen counted.open_lines.kept lines
  pub spans : HaveSpans counted.spans book outbox

pub record Tells (v : View) (here : List ℕ) (counted : KnownCounts) (confirmed : ℕ) (x : Seen) : Type 0 where
  pub holds : Holds v x
  pub knows : Knows here counted.sizes confirmed x
  pub kept : IsCounted counted x.now.cargo.book x.now.cargo.expected x.now.cargo.declared x.now.cargo.outbox

-- as long as the disk has returned what was written
abbrev pub Shows : View → List ℕ → KnownCounts → ℕ → Seen → Type 0
Shows v here counted confirmed x = v.IsSound → Tells v here counted confirmed x

-- some tables that a crash may leave mean this state, or none
pub record Finds (v : View) (found : Option State) : Type 0 where
  pub tables : Tables
  pub left : v.may_leave tables
  pub means : Means tables found

-- what a state in tables shows, and when it is sound, by the view of its store
abbrev pub in_tables : {S : Type 0} → (S → View) → Storing (TableState S)
in_tables view = record {
  shows = λ k x. Shows (view k.store) k.here k.counted k.confirmed x;
  is_clean = λ k. (view k.store).IsClean;
  is_sound = λ k. (view k.store).IsSound;
  may_find = λ k found. Finds (view k.store) found;
}

-- a sound connection that is open is outside a transaction, and its tables mean this state
abbrev pub IfGivenBack : View → State → Type 0
IfGivenBack v s = v.IsSound → v.is_open ≡ true → (v.in_transaction ≡ false) × Means v.now (Some s)

-- a store is open and at rest, and its tables are these
pub record HasThese (t : Tables) (v : View) : Type 0 where
  pub is_open : v.is_open ≡ true
  pub at_rest : IsAtRest v
  pub now_is : v.now ≡ t

-- What is known of every state that tables show.

pub finds_what_it_shows : (v : View) (s : State) → Holds v (at_rest s) → (found : Option State)
    → Finds v found → found ≡ Some s
finds_what_it_shows v s holds found finds = same_meaning finds.tables s found (holds.found finds.tables finds.left) finds.means
