use Rattle.stock_tables.proofs.Common.{IsShowing, None, OnOk, Option, Some, Stock, StockKey, ap, entry_of, get, inside, is_some, key_of, refl, stock_meant, subst, sym, true, with_stock, ◌∙◌, ◌≡◌}
use Rattle.stock_tables.proofs.writing.put.Goals as goal

is_there : (o : Option Stock) → is_some o ≡ true → (was : Stock) × (o ≡ Some was)
is_there (Some was) h = (was, refl)
is_there None h = absurd (cc)

pub returns-clause-done : goal.returns-clause-done
returns-clause-done g c = λ before t showing there.
    let run = c.args.run.now in
    let is : stock_meant c.in_ok-row.row ≡ entry_of run = c.in_ok-row.ensures.row in
    subst (λ (e : StockKey × Stock). OnOk c.write.result (IsShowing (g.S.TableStore.view c.write.new.store) (inside before (with_stock e t)))) is
    (c.write.ensures.done before t showing (λ has sound.
    subst (λ (k : StockKey). (was : Stock) × (get t.stock k ≡ Some was)) (sym (ap (λ (e : StockKey × Stock). e.0) is))
    (is_there (get t.stock (key_of run.first)) ((there sound).0 (sym c.has_first.ensures ∙ has)))))
