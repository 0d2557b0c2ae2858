use Rattle.table_audits.proofs.Common.{AllByRecursion, IsLawfulStock, ap, are_apart, entries, map, subst, sym, true, waybill_meant, ◌∙◌, ◌≡◌}
use Rattle.table_audits.proofs.StockLaws.{are_stocks, lawful_stocks}
use Rattle.table_audits.proofs.stock.are_stock_lawful.Goals as goal

pub returns-then-are_apart : goal.returns-then-are_apart
returns-then-are_apart c = record {
  exact = λ t up waybills is.
      let apart : are_apart (entries t.stock) ≡ true = ap are_apart is ∙ sym c.if-are_apart.ensures in (
        λ h. are_stocks t apart (subst (λ ws. AllByRecursion (IsLawfulStock ws) (entries t.stock)) (sym waybills) (subst (AllByRecursion (IsLawfulStock (map waybill_meant c.args.waybills.now))) (sym is) ((c.are_lawful.ensures up).0 h))),
        λ law. (c.are_lawful.ensures up).1 (subst (AllByRecursion (IsLawfulStock (map waybill_meant c.args.waybills.now))) is (subst (λ ws. AllByRecursion (IsLawfulStock ws) (entries t.stock)) waybills (lawful_stocks t law))),
      );
}
