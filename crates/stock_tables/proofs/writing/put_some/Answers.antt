use Rattle.stock_tables.proofs.Common.{AreThere, IsShowing, OnOk, Option, StockRun, inside, listed, put_in, restocked, subst, sym}
use Rattle.stock_tables.proofs.writing.put_some.Goals as goal

pub returns-in-Some-clause-done : goal.returns-in-Some-clause-done
returns-in-Some-clause-done g c = λ before t showing there.
    subst (λ (o : Option StockRun). OnOk c.put.result (IsShowing (g.S.TableStore.view c.put.new.store) (inside before (restocked (put_in (listed o) t.stock) t)))) (sym c.in-Some.is)
    (c.put.ensures.done before t showing (λ sound. subst (λ (o : Option StockRun). AreThere c.args.near.now (listed o) t.stock) c.in-Some.is (there sound)))
