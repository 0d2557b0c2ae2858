-- The stock of waybill numbers: its holders, orders and runs.
use Rattle.std.specs.Prelude.{ℕ, ◌≡◌, ◌+◌, Bool, true, false, not, ◌&&◌, nat_lt, nat_le, if◌then◌else◌, Option, Some, None, List, ◌++◌, codes, ◌≢◌, ◌-◌, ◌≤◌, ◌⊎◌, IsTrue, IsSome, [], ◌∷◌, Result, Err}
use Rattle.std.specs.List.{find, range_with_len, AllByRecursion, list_any}
use Rattle.std.specs.Str.{bytes_eq}
use Rattle.awb_number.specs.Number.{serial_of, serials, prefix_of}
use Rattle.agent_stock.specs.declared.stock.Holder.{Holder}
use Rattle.agent_stock.specs.declared.stock.Holder.TheVariants.{Desk, Agent, Void, Used}
use Rattle.agent_stock.specs.declared.stock.Run.{Run}
use Rattle.agent_stock.specs.declared.stock.Test.{Test}
use Rattle.agent_stock.specs.declared.stock.Test.TheVariants as is
use Rattle.agent_stock.specs.declared.stock.Order.{Order}
use Rattle.agent_stock.specs.declared.stock.Order.TheVariants as order
use Rattle.agent_stock.specs.declared.stock.StockFault.{StockFault}
use Rattle.agent_stock.specs.declared.stock.StockFault.TheVariants as fault
use Rattle.agent_stock.specs.declared.runs.StockRun.{StockRun}

-- The stock of waybill numbers: a map from a number to its holder, and the effect of the four
-- orders.

-- the holder of each number; one that isn't in stock has none
abbrev pub Holders : Type 0
Holders = ℕ → Option Holder

-- true if a number is one of `count` consecutive ones
abbrev pub is_among : ℕ → ℕ → ℕ → Bool
is_among first count q = nat_le first q && nat_lt q (first + count)

abbrev pub covers : Run → ℕ → Bool
covers run q = is_among run.first run.count q

abbrev pub largest_run : ℕ
largest_run = 1_000_000

-- true if a run has numbers, not too many, and stays within its prefix
abbrev pub is_run : Run → Bool
is_run run = nat_lt 0 run.count && nat_le run.count largest_run && nat_le (serial_of run.first + run.count) serials

abbrev pub passes : Test → Option Holder → Bool
passes is.Absent None = true
passes is.Absent (Some _) = false
passes is.Desk (Some Desk) = true
passes (is.With code) (Some (Agent other)) = bytes_eq code other
passes is.DeskOrAgent (Some Desk) = true
passes is.DeskOrAgent (Some (Agent other)) = true
passes _ _ = false

-- the lowest number of the run that fails the test
abbrev pub lowest_failing : Holders → Run → Test → Option ℕ
lowest_failing h run test = find (λ q. not (passes test (h q))) (range_with_len run.first run.count)

-- the run has the new holder, and all other numbers are unchanged
abbrev pub assigned : Holders → Run → Holder → Holders
assigned h run to q = if covers run q then Some to else h q

abbrev pub run_of : Order → Run
run_of (order.TakeIn run) = run
run_of (order.Issue run agent) = run
run_of (order.GiveBack run agent) = run
run_of (order.Void run) = run

abbrev pub test_of : Order → Test
test_of (order.TakeIn run) = is.Absent
test_of (order.Issue run agent) = is.Desk
test_of (order.GiveBack run agent) = is.With agent
test_of (order.Void run) = is.DeskOrAgent

abbrev pub holder_after : Order → Holder
holder_after (order.TakeIn run) = Desk
holder_after (order.Issue run agent) = Agent agent
holder_after (order.GiveBack run agent) = Desk
holder_after (order.Void run) = Void

-- the refusal for the lowest failing number
abbrev pub refusal_number : Order → ℕ
refusal_number (order.TakeIn run) = 101
refusal_number (order.Issue run agent) = 102
refusal_number (order.GiveBack run agent) = 103
refusal_number (order.Void run) = 104

-- the first refusal of an order, if any: its number, and the waybill number that fails
abbrev pub refused_by : Option ℕ → ℕ → Option (ℕ × Option ℕ)
refused_by None number = None
refused_by (Some lowest) number = Some (number, Some lowest)

-- a run that can't be ordered is refused before its numbers are tested
abbrev pub run_refusal : Holders → Run → Test → ℕ → Option (ℕ × Option ℕ)
run_refusal h run test number = if is_run run then refused_by (lowest_failing h run test) number else Some (105, None)

abbrev pub order_refusal : Holders → Order → Option (ℕ × Option ℕ)
order_refusal h o = run_refusal h (run_of o) (test_of o) (refusal_number o)

-- the stock after an order that isn't refused
abbrev pub after_order : Holders → Order → Holders
after_order h o = assigned h (run_of o) (holder_after o)

-- a refusal is the order's, and leaves the stock unchanged
abbrev pub RefusesOrder : {F : Type 0} → Option (ℕ × Option ℕ) → Holders → Holders → StockFault F → Type 0
RefusesOrder refusal before after (fault.Refused number lowest) = (refusal ≡ Some (number, lowest)) × (after ≡ before)
RefusesOrder refusal before after (fault.Rows _) = Unit {0}

-- a property of every fault except one of the rows
abbrev pub UnlessRows : {F : Type 0} → Type 0 → StockFault F → Type 0
UnlessRows P (fault.Refused number lowest) = P
UnlessRows P (fault.Rows _) = Unit {0}

-- Holders as texts.

-- the holder of numbers, such as AGENT ACME
abbrev pub holder_text : Holder → List ℕ
holder_text Desk = codes "DESK"
holder_text (Agent code) = codes "AGENT " ++ code
holder_text Used = codes "USED"
holder_text Void = codes "VOID"

-- The runs of the stock: consecutive numbers of one holder.

-- numbers of one prefix and one holder, whose neighbours have other holders
pub record IsMaximalRun (holders : Holders) (row : StockRun) : Type 0 where
  pub some : 1 ≤ row.count
  pub one_prefix : serial_of row.first + row.count ≤ serials
  pub one_holder : (q : ℕ) → IsTrue (is_among row.first row.count q) → holders q ≡ Some row.holder
  pub none_before : (serial_of row.first ≡ 0) ⊎ (holders (row.first - 1) ≢ Some row.holder)
  pub none_after : (serial_of row.first + row.count ≡ serials) ⊎ (holders (row.first + row.count) ≢ Some row.holder)

-- each row begins after the one before it ends
abbrev pub AreApart : List StockRun → Type 0
AreApart [] = Unit {0}
AreApart (row ∷ []) = Unit {0}
AreApart (row ∷ next ∷ rows) = (row.first + row.count ≤ next.first) × AreApart (next ∷ rows)

-- exactly the maximal runs of the stock, ascending
pub record AreStockRuns (holders : Holders) (rows : List StockRun) : Type 0 where
  pub maximal : AllByRecursion (IsMaximalRun holders) rows
  pub rising : AreApart rows
  pub complete : (q : ℕ) → IsSome (holders q) → IsTrue (list_any (λ row. is_among row.first row.count q) rows)

-- the holder of each number by rows, each the run of one holder
abbrev pub holders_by : List StockRun → Holders
holders_by [] q = None
holders_by (row ∷ rows) q = if is_among row.first row.count q then Some row.holder else holders_by rows q

-- the number behind a row
abbrev pub end_of : StockRun → ℕ
end_of row = row.first + row.count

-- a row has a number at least, and stays within its prefix
pub record IsRunRow (row : StockRun) : Type 0 where
  pub some : 1 ≤ row.count
  pub one_prefix : serial_of row.first + row.count ≤ serials

-- each row begins there at least, and behind the one before it
abbrev pub StandFrom : ℕ → List StockRun → Type 0
StandFrom low [] = Unit {0}
StandFrom low (row ∷ rows) = (low ≤ row.first) × StandFrom (end_of row) rows

-- rows that rise, and none has a number of another
pub record AreRuns (rows : List StockRun) : Type 0 where
  pub stand : StandFrom 0 rows
  pub each : AllByRecursion IsRunRow rows

-- the next run begins where this one ends, in its prefix and with its holder
abbrev pub GoesOn : StockRun → StockRun → Type 0
GoesOn row next = (prefix_of row.first ≡ prefix_of next.first) × (row.first + row.count ≡ next.first) × (row.holder ≡ next.holder)

-- the stock with a run more
abbrev pub with_run : Holders → StockRun → Holders
with_run held row q = if is_among row.first row.count q then Some row.holder else held q

-- nobody holds a number from here on
abbrev pub IsNoneFrom : ℕ → Holders → Type 0
IsNoneFrom from held = (q : ℕ) → from ≤ q → held q ≡ None

-- Refusals of orders.

-- a refusal that is returned is the one that is due
abbrev pub RefusesBy : {F : Type 0} → Option (ℕ × Option ℕ) → StockFault F → Type 0
RefusesBy due (fault.Refused number lowest) = due ≡ Some (number, lowest)
RefusesBy due (fault.Rows _) = Unit {0}

-- it holds if an order was refused
abbrev pub OnRefused : {A F : Type 0} → Result A (StockFault F) → Type 0 → Type 0
OnRefused (Err (fault.Refused number lowest)) P = P
OnRefused _ P = Unit {0}
