-- The stock in rows, and what changes of it leave.
use Rattle.std.specs.Prelude.{ℕ, ℤ, pos, ◌≡◌, ◌+◌, ◌-◌, Some, List, [], Bool, nat_eq, if◌then◌else◌, ◌∷◌, ◌≢◌, ◌≤◌, ◌<◌, ◌⊎◌, not, ◌&&◌, nat_le, nat_lt, Option, None, IfSome, ◌++◌, filter, ◌==◌, true, is_some, Result, OnOk, IfErr, length, false, ◌||◌}
use Rattle.stock_tables.specs.Common.{IsNumber, prefix_of, serial_of, Holder, Desk, Agent, Used, Void, StockRun, Stock, StockKey, holder_by, list_any, FinMap, insert, remove, stock_cmp, AllByRecursion, Run, end_of, get, Holders, View, Displays, inside, Tables, holders_in, AreStockRows, OnRefused, RefusesBy, is_run, StockFault, IsShowing, Survives, at_rest}
use Rattle.stock_tables.specs.declared.joining.Joined.{Joined}

-- Runs as rows of the stock's table.

-- what stands in a row for a holder: its number, and the agent's code
abbrev pub holder_number : Holder → ℤ
holder_number Desk = pos 0
holder_number (Agent code) = pos 1
holder_number Used = pos 2
holder_number Void = pos 3

abbrev pub code_of : Holder → List ℕ
code_of Desk = []
code_of (Agent code) = code
code_of Used = []
code_of Void = []

-- the key of the row that begins with a number
abbrev pub key_of : ℕ → StockKey
key_of n = (pos (prefix_of n), pos (serial_of n))

-- a run as a row
abbrev pub row_in : StockRun → Stock
row_in run = record {
  high = pos (serial_of run.first + run.count - 1);
  holder = holder_number run.holder;
  agent = code_of run.holder;
}

abbrev pub entry_of : StockRun → StockKey × Stock
entry_of run = (key_of run.first, row_in run)

-- it begins with a number, and its row says its holder
pub record IsWritable (run : StockRun) : Type 0 where
  pub number : IsNumber run.first
  pub holder : holder_by (row_in run) ≡ Some run.holder

-- What the writes make of the stock's table.

-- whether one of the rows begins with a number
abbrev pub begins : ℕ → List StockRun → Bool
begins number rows = list_any (λ row. nat_eq number row.first) rows

-- without a row, unless a new one has its key
abbrev pub without : List StockRun → StockRun → FinMap stock_cmp Stock → FinMap stock_cmp Stock
without new row stock = if begins row.first new then stock else remove stock (key_of row.first)

-- without these rows, but for those whose keys the new ones have
abbrev pub cleared : List StockRun → List StockRun → FinMap stock_cmp Stock → FinMap stock_cmp Stock
cleared new [] stock = stock
cleared new (row ∷ rows) stock = cleared new rows (without new row stock)

-- with these rows, in place of those with their keys
abbrev pub put_in : List StockRun → FinMap stock_cmp Stock → FinMap stock_cmp Stock
put_in [] stock = stock
put_in (row ∷ rows) stock = insert (put_in rows stock) (key_of row.first) (row_in row)

-- The stock as rows, one for a run of numbers that one holder has.

-- a row of the run's prefix that has a number of the run, or of those beside it
pub record Touches (run : Run) (row : StockRun) : Type 0 where
  pub prefix : prefix_of row.first ≡ prefix_of run.first
  pub from : row.first ≤ run.first + run.count
  pub to : run.first ≤ end_of row

-- whether a run touches a row
abbrev pub touches : Run → StockRun → Bool
touches run row = nat_eq (prefix_of row.first) (prefix_of run.first) && (nat_le row.first (run.first + run.count) && nat_le run.first (end_of row))

-- whether a row lies before a run, and whether behind it
abbrev pub lies_ahead : Run → StockRun → Bool
lies_ahead run row = not (touches run row) && nat_lt row.first run.first

abbrev pub lies_behind : Run → StockRun → Bool
lies_behind run row = not (touches run row) && not (nat_lt row.first run.first)

abbrev pub rows_near : Run → List StockRun → List StockRun
rows_near run rows = filter (touches run) rows

abbrev pub rows_ahead : Run → List StockRun → List StockRun
rows_ahead run rows = filter (lies_ahead run) rows

abbrev pub rows_behind : Run → List StockRun → List StockRun
rows_behind run rows = filter (lies_behind run) rows

abbrev pub AreNear : Run → List StockRun → Type 0
AreNear run near = AllByRecursion (Touches run) near

-- the rows before those that the run touches end before it, and the rows after them begin behind it
pub record AreAround (run : Run) (ahead after : List StockRun) : Type 0 where
  pub ends : AllByRecursion (λ row. end_of row ≤ run.first) ahead
  pub begins : AllByRecursion (λ row. run.first + run.count ≤ row.first) after

abbrev pub listed : Option StockRun → List StockRun
listed None = []
listed (Some row) = row ∷ []

-- the rows that are written
abbrev pub written : Joined → List StockRun
written new = listed new.left ++ (new.row ∷ listed new.right)

-- the part of a row before a number, and from it on
abbrev pub cut_before : ℕ → StockRun → StockRun
cut_before first row = record { first = row.first; count = first - row.first; holder = row.holder }

abbrev pub cut_from : ℕ → StockRun → StockRun
cut_from end row = record { first = end; count = end_of row - end; holder = row.holder }

-- where the new row begins by the first of the rows, and what stays of that row
abbrev pub BeforeBy : ℕ → Holder → StockRun → ℕ → Option StockRun → Type 0
BeforeBy first to row low left =
    (((first ≤ row.first) × ((low ≡ first) × (left ≡ None)))
    ⊎ ((row.first < first) × ((row.holder ≡ to) × ((low ≡ row.first) × (left ≡ None)))))
    ⊎ ((row.first < first) × ((row.holder ≢ to) × ((low ≡ first) × (left ≡ Some (cut_before first row)))))

abbrev pub Before : ℕ → Holder → List StockRun → ℕ → Option StockRun → Type 0
Before first to [] low left = (low ≡ first) × (left ≡ None)
Before first to (row ∷ rows) low left = BeforeBy first to row low left

-- where the new row ends by the last of the rows, and what stays of that row
abbrev pub BehindBy : ℕ → Holder → StockRun → ℕ → Option StockRun → Type 0
BehindBy end to row high right =
    (((end_of row ≤ end) × ((high ≡ end) × (right ≡ None)))
    ⊎ ((end < end_of row) × ((row.holder ≡ to) × ((high ≡ end_of row) × (right ≡ None)))))
    ⊎ ((end < end_of row) × ((row.holder ≢ to) × ((high ≡ end) × (right ≡ Some (cut_from end row)))))

abbrev pub Behind : ℕ → Holder → List StockRun → ℕ → Option StockRun → Type 0
Behind end to [] high right = (high ≡ end) × (right ≡ None)
Behind end to (row ∷ []) high right = BehindBy end to row high right
Behind end to (row ∷ next ∷ rows) high right = Behind end to (next ∷ rows) high right

-- what stays beside the new row has another holder
pub record IsJoined (to : Holder) (new : Joined) : Type 0 where
  pub left : IfSome new.left (λ row. (row.holder ≢ to) × (end_of row ≡ new.row.first))
  pub right : IfSome new.right (λ row. (row.holder ≢ to) × (row.first ≡ end_of new.row))

-- The stock in the tables of a store, and what a change of it leaves.

-- each row of the stock is within range, and no two have a number in common
abbrev pub Stocked : Tables → Type 0
Stocked t = AreStockRows t.stock

-- the same tables with another stock
abbrev pub restocked : FinMap stock_cmp Stock → Tables → Tables
restocked stock t = record t { stock = stock }

-- a number is used up, and every other one is as before
abbrev pub using_up : Holders → ℕ → Holders
using_up h w q = if q == w then Some Used else h q

-- In a transaction that began with the tables `before`, a store shows the tables `t` with another
-- stock, in which each number has the holder that is said here. Each row of it is within range, and
-- no two have a number in common.
pub record Restocked (v : View) (before t : Tables) (holders : Holders) : Type 0 where
  pub stock : FinMap stock_cmp Stock
  pub shown : Displays v (inside before (restocked stock t))
  pub rows : Stocked (restocked stock t)
  pub held : holders_in stock ≡ holders

-- the rows whose keys some of the old ones have are still there, under these keys
abbrev pub AreThere : List StockRun → List StockRun → FinMap stock_cmp Stock → Type 0
AreThere near new stock = AllByRecursion (λ row. begins row.first near ≡ true → is_some (get stock (key_of row.first)) ≡ true) new

-- rows that end before a run were taken off in front
pub record BeginsAhead (run : Run) (near rows : List StockRun) : Type 0 where
  pub ahead : List StockRun
  pub parted : near ≡ ahead ++ rows
  pub ends : AllByRecursion (λ row. end_of row ≤ run.first) ahead

-- rows that begin behind a run were taken off at the end
pub record EndsBehind (run : Run) (near rows : List StockRun) : Type 0 where
  pub after : List StockRun
  pub parted : near ≡ rows ++ after
  pub begins : AllByRecursion (λ row. run.first + run.count ≤ row.first) after

-- rows that only stand beside a run were taken off at both ends
pub record IsCut (run : Run) (near rows : List StockRun) : Type 0 where
  pub ahead : List StockRun
  pub after : List StockRun
  pub parted : near ≡ ahead ++ (rows ++ after)
  pub around : AreAround run ahead after

-- An order on the stock in the tables of a store.

-- What the holders in stock say refuses an order of a run, or it is done in a transaction that it
-- begins; a refused one begins none. An answer, or the refusal of a run that can be ordered, finds
-- the store open.
pub record Ordered {E : Type 0} (old new : View) (result : Result (Unit {0}) (StockFault E)) (run : Run) (refusal : Holders → Option (ℕ × Option ℕ)) (after : Holders → Holders) : Type 0 where
  pub accepted : (t : Tables) → IsShowing old (at_rest t) → Stocked t → new.IsSound → OnOk result (refusal (holders_in t.stock) ≡ None)
  pub done : (t : Tables) → IsShowing old (at_rest t) → Stocked t → OnOk result (new.IsSound → Restocked new t t (after (holders_in t.stock)))
  pub refused : (t : Tables) → IsShowing old (at_rest t) → Stocked t → new.IsSound → IfErr result (RefusesBy (refusal (holders_in t.stock)))
  pub same : (t : Tables) → IsShowing old (at_rest t) → OnRefused result (IsShowing new (at_rest t))
  pub was_open : OnOk result (new.IsSound → old.is_open ≡ true)
  pub open_at_refusal : is_run run ≡ true → OnRefused result (new.IsSound → old.is_open ≡ true)
  pub survives : Survives old new

-- What the last row below a number says.

-- a row ends right before a run, or later
abbrev pub reaches : Run → StockRun → Bool
reaches run row = nat_le run.first (end_of row)

-- the row before a run, where it reaches the run
abbrev pub reaching : Run → Option StockRun → List StockRun
reaching run None = []
reaching run (Some row) = if reaches run row then row ∷ [] else []

-- the first of the rows begins before a run
abbrev pub begins_before : Run → List StockRun → Bool
begins_before run [] = false
begins_before run (row ∷ rows) = nat_lt row.first run.first

-- these last rows are all, or the first of them begins before the run
abbrev pub are_enough : ℕ → Run → List StockRun → Bool
are_enough count run rows = nat_lt (length rows) count || begins_before run rows

-- the holder in a row, where the row reaches a number
abbrev pub holder_at : ℕ → StockRun → Option Holder
holder_at number row = if nat_lt number (end_of row) then Some row.holder else None
