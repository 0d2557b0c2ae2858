use Rattle.stock_tables.proofs.Common.{AreRuns, AreStockRuns, Holders, IfOk, List, Stock, StockKey, ap, entries, holders_by, map, run_in, stock_meant, subst, sym, ◌∙◌, ◌≡◌}
use Rattle.stock_tables.proofs.Showing.{if_given, made_of}
use Rattle.stock_tables.proofs.Meant.{same_holders, are_in_order}
use Rattle.stock_tables.proofs.row.runs.Goals as goal

pub returns : goal.returns
returns g c = made_of (g.S.TableStore.view c.args.store.now) _ _ _ c.in_ok-rows.ensures (λ x showing sound. if_given _ c.runs_of.result (λ stocked.
    let are : map stock_meant c.deref.result.now ≡ entries x.now.stock =
    ap (map stock_meant) c.deref.ensures.value ∙ c.in_ok-rows.ensures.read x showing sound in
    let made = c.runs_of.ensures (subst (λ (es : List (StockKey × Stock)). AreRuns (map run_in es)) (sym are) (are_in_order x.now.stock stocked.rows stocked.apart)) in
    subst (λ (h : Holders). IfOk c.runs_of.result (λ runs. AreStockRuns h runs.items))
    (ap (λ (es : List (StockKey × Stock)). holders_by (map run_in es)) are ∙ sym (same_holders x.now.stock stocked.rows)) made))
