use Rattle.table_audits.proofs.Common.{IsLawfulStock, YieldsList-from_slice, cases_from_all, map, rules, stock_meant, tests, waybill_meant}
use Rattle.table_audits.proofs.StockRows.{each_row}
use Rattle.table_audits.proofs.stock.are_lawful.Goals as goal

pub returns : goal.returns
returns c = λ up. each_row stock_meant (IsLawfulStock (map waybill_meant c.args.waybills.now)) c.args.rows.now _ (cases_from_all _ _ _ (λ row. IsLawfulStock (map waybill_meant c.args.waybills.now) (stock_meant row)) (λ row. IsLawfulStock (map waybill_meant c.args.waybills.now) (stock_meant row) → ⊥) c.all.ensures.ran (YieldsList-from_slice c.args.rows.now cc)
    (λ x q k. search (rules, tests)) (λ x q k. search (rules, tests)))
