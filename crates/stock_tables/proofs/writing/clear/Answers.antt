use Rattle.stock_tables.proofs.Common.{FinMap, IsShowing, List, Stock, StockRun, [], ap, arith, cleared, drop, drop_all, inside, length, refl, restocked, stock_cmp, subst, sym, without, written, ◌+◌, ◌<◌, ◌∙◌, ◌∷◌, ◌≡◌}
use Rattle.stock_tables.proofs.Lowest.{at_place}
use Rattle.stock_tables.proofs.Showing.{survives_itself, survives_goes_on}
use Rattle.stock_tables.proofs.writing.clear.Goals as goal

pub loop-row-init : goal.loop-row-init
loop-row-init g c = record {
  survives = survives_itself (g.S.TableStore.view c.args.store.now);
  so_far = λ before t showing. (t.stock, (showing, refl));
}

pub loop-row-preserved : goal.loop-row-preserved
loop-row-preserved g c =
    let view = g.S.TableStore.view in
    let inv = c.loop-row.invariant in
    let new = written c.args.new.now in
    let row = c.row-item.result in
    let near = c.args.near.now in
    let within : c.loop-row.row-index < length near = omega arith in
    let at : drop c.loop-row.row-index near ≡ row ∷ drop (c.loop-row.row-index + 1) near = at_place row near c.loop-row.row-index within c.row-item.is in
    record {
      survives = survives_goes_on (view c.args.store.now) (view c.loop-row.store) (view c.clear_row.new.store) inv.survives c.clear_row.ensures.survives;
      so_far = λ before t showing.
          let so_far = inv.so_far before t showing in (
            without new row so_far.0,
            (
              c.in_ok-clear_row.ensures.done before (restocked so_far.0 t) so_far.1.0,
              sym (ap (λ (l : List StockRun). cleared new l so_far.0) at) ∙ so_far.1.1,
            ),
          );
    }

pub returns-in_err-clear_row-clause-survives : goal.returns-in_err-clear_row-clause-survives
returns-in_err-clear_row-clause-survives g c =
    let view = g.S.TableStore.view in
    survives_goes_on (view c.args.store.now) (view c.loop-row.store) (view c.clear_row.new.store) c.loop-row.invariant.survives c.clear_row.ensures.survives

pub returns-clause-done : goal.returns-clause-done
returns-clause-done g c = λ before now showing.
    let new = written c.args.new.now in
    let near = c.args.near.now in
    let so_far = c.loop-row.invariant.so_far before now showing in
    let over : drop c.loop-row.row-index near ≡ [] = drop_all c.loop-row.row-index near (omega arith) in
    let same : so_far.0 ≡ cleared new near now.stock = sym (ap (λ (l : List StockRun). cleared new l so_far.0) over) ∙ so_far.1.1 in
    subst (λ (m : FinMap stock_cmp Stock). IsShowing (g.S.TableStore.view c.loop-row.store) (inside before (restocked m now))) same so_far.1.0

pub returns-clause-survives : goal.returns-clause-survives
returns-clause-survives g c = c.loop-row.invariant.survives
