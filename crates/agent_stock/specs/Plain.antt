-- The stock as a plain map in memory.
use Rattle.std.specs.Prelude.{None}
use Rattle.std.specs.Ordering.{nat_cmp}
use Rattle.std.specs.BTreeMap.{get}
use Rattle.agent_stock.specs.Stock.{Holders}
use Rattle.agent_stock.specs.declared.rows.PlainRows.{PlainRows}

abbrev pub holders_of : PlainRows → Holders
holders_of rows number = get nat_cmp rows.by_number number

abbrev pub nobody : Holders
nobody number = None
