use Rattle.agent_stock.proofs.Common.{AllByRecursion, AreStockRuns, IsRunRow, StandFrom, [], ap, arith, drop, holders_by, length, subst, sym, take, ◌++◌, ◌+◌, ◌<◌, ◌∙◌, ◌∷◌, ◌≡◌}
use Rattle.std.proofs.lemmas.List.{drop_more, take_more, take-append-drop}
use Rattle.agent_stock.proofs.OneMore.{each_behind, none_yet, one_more}
use Rattle.agent_stock.proofs.runs.maximal_runs.Goals as goal

pub loop-row-preserved : goal.loop-row-preserved
loop-row-preserved c = λ are.
    let rows = c.args.rows.now in
    let n = c.loop-row.row-index in
    let row = c.row-item.result in
    let within : n < length rows = omega arith in
    let at : drop n rows ≡ row ∷ drop (n + 1) rows = drop_more rows n row within ∙ ap (λ r. r ∷ drop (n + 1) rows) (sym c.row-item.is) in
    let whole : rows ≡ take n rows ++ row ∷ drop (n + 1) rows = sym (take-append-drop n rows) ∙ ap (λ l. take n rows ++ l) at in
    let next : take (n + 1) rows ≡ take n rows ++ row ∷ [] = take_more rows n row within ∙ ap (λ r. take n rows ++ r ∷ []) (sym c.row-item.is) in
    let up = subst (StandFrom 0) whole are.stand in
    let fits = each_behind IsRunRow (take n rows) row (drop (n + 1) rows) (subst (AllByRecursion IsRunRow) whole are.each) in
    subst (λ h. AreStockRuns h c.put_run.new.runs.items) (one_more row (drop (n + 1) rows) 0 (take n rows) up ∙ ap holders_by (sym next))
    (c.in_ok-put_run.ensures (holders_by (take n rows)) fits (none_yet row (drop (n + 1) rows) 0 (take n rows) up) (c.loop-row.invariant are))
