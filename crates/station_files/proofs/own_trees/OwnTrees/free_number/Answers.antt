use Rattle.station_files.proofs.Common.{AllByRecursion, IfSome, IsClean, None, Option, Some, Text, catalog_tree, column, subst, ◌∙◌, ◌≢◌}
use Rattle.station_files.proofs.Owning.{all_unnamed}
use Rattle.station_files.proofs.own_trees.OwnTrees.free_number.Goals as goal

of_any : {X P : Type 0} (o : Option X) → P → IfSome o (λ _. P)
of_any None p = tt
of_any (Some x) p = p

pub returns-clause-unnamed : goal.returns-clause-unnamed
returns-clause-unnamed g c = of_any c.number_of.result (λ (clean : IsClean (g.S.Store.view c.args.self.now.store)). all_unnamed c.args.name.now ((g.S.Store.view c.args.self.now.store).trees catalog_tree)
    (subst (AllByRecursion (λ r. column r 2 ≢ Text c.args.name.now)) (c.as_slice.ensures.value ∙ c.in-Ok.ensures clean) (c.is_named.ensures c.if-is_named.false)))
