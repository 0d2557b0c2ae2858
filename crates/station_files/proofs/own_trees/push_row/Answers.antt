use Rattle.station_files.proofs.Common.{List, Option, Row, [], ap, append-nil, map, shown_row, sym, take, ◌++◌, ◌∙◌, ◌∷◌}
use Rattle.station_files.proofs.Owning.{row_taken}
use Rattle.station_files.proofs.own_trees.push_row.Goals as goal

pub returns-in_ok-push-in-Some : goal.returns-in_ok-push-in-Some
returns-in_ok-push-in-Some c all is =
    let own = c.args.own.now.items in
    c.in_ok-push-in-Some.ensures.items ∙ ap (λ (r : Row). own ++ r ∷ []) c.in_ok-renumber-in-Some.ensures
    ∙ ap (λ (x : List Row). own ++ x) (sym (row_taken c.args.tree c.args.number c.args.rows.now all is ∙ ap (λ (o : Option Row). map (take 5) (shown_row c.args.tree o)) (sym c.in-Some.ensures)))

pub returns-in-None : goal.returns-in-None
returns-in-None c all is =
    let own = c.args.own.now.items in
    let none = row_taken c.args.tree c.args.number c.args.rows.now all is ∙ ap (λ (o : Option Row). map (take 5) (shown_row c.args.tree o)) (sym c.in-None.ensures) in
    sym (ap (λ (x : List Row). own ++ x) none ∙ append-nil own)
