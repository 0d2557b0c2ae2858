use Rattle.table_audits.proofs.Common.{always_returns_same, is_behind, rules, stock_meant, tests}
use Rattle.table_audits.proofs.StockRows.{adjacent}
use Rattle.table_audits.proofs.stock.are_apart.Goals as goal

pub returns : goal.returns
returns c = adjacent stock_meant c.args.rows.now c.is_sorted_by.result (c.is_sorted_by.ensures.cases (λ x y. is_behind (stock_meant x) (stock_meant y)) (always_returns_same _ _ _ (λ a r q k. search (rules, tests))))
