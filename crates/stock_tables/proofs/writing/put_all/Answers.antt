use Rattle.stock_tables.proofs.Common.{FinMap, IsShowing, List, Stock, StockRun, [], begins, get, inside, is_some, key_of, listed, put_in, restocked, stock_cmp, subst, sym, true, ◌∷◌, ◌≡◌}
use Rattle.stock_tables.proofs.Standing.{each_split}
use Rattle.stock_tables.proofs.Rewriting.{put_both}
use Rattle.stock_tables.proofs.Restocking.{still_there}
use Rattle.stock_tables.proofs.writing.put_all.Goals as goal

pub returns-clause-done : goal.returns-clause-done
returns-clause-done g c = λ before t showing there.
    let near = c.args.near.now in
    let new = c.args.new.now in
    let left = listed new.left in
    let right = listed new.right in
    let row : List StockRun = new.row ∷ [] in
    let Is = λ (r : StockRun). begins r.first near ≡ true → is_some (get t.stock (key_of r.first)) ≡ true in
    let m1 : FinMap stock_cmp Stock = put_in right t.stock in
    let m2 : FinMap stock_cmp Stock = put_in row m1 in
    let first = c.in_ok-put_some.ensures.done before t showing (λ sound. (each_split Is left (new.row ∷ right) (there sound)).1.1) in
    let second = c.in_ok-put.ensures.done before (restocked m1 t) first
    (λ sound. still_there near row right t.stock ((each_split Is left (new.row ∷ right) (there (c.put_some.ensures.survives.sound sound))).1.0, tt)) in
    let third = c.in_ok-put_some-2.ensures.done before (restocked m2 t) second
    (λ sound. still_there near left row m1 (still_there near left right t.stock
    (each_split Is left (new.row ∷ right) (there (c.put_some.ensures.survives.sound (c.put.ensures.survives.sound sound)))).0)) in
    subst (λ (m : FinMap stock_cmp Stock). IsShowing (g.S.TableStore.view c.put_some-2.new.store) (inside before (restocked m t))) (sym (put_both left (new.row ∷ right) t.stock)) third
