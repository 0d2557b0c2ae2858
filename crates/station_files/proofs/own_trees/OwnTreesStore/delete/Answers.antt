use Rattle.station_files.proofs.Common.{SetsTree, on_ok_weaker, subst, to_z-of_z, w64, without_rowid}
use Rattle.station_files.proofs.Owning.{sets_inside, shown, stays, stays_after}
use Rattle.station_files.proofs.own_trees.OwnTreesStore.delete.Goals as goal

pub returns-clause-ok : goal.returns-clause-ok
returns-clause-ok g c =
    let old = g.S.Store.view c.args.self.now.store in
    let new = g.S.Store.view c.delete.new.self in
    on_ok_weaker c.delete.result
    (λ h clean. sets_inside c.args.self.now.inside c.in-Some.ensures new (λ _. without_rowid c.args.id)
    (subst (λ id. SetsTree old new c.in-Some.number (without_rowid id)) (to_z-of_z w64 c.args.id c.ranges.id) (h clean)))
    c.delete.ensures.ok

pub invariant_of-self : goal.invariant_of-self
invariant_of-self g c = record { inside = shown c.args.self.now.inside (g.S.Store.view c.delete.new.self) c.delete.ensures.quiet.clean (stays_after c.delete.result (on_ok_weaker c.delete.result (λ h clean. stays (h clean)) c.delete.ensures.frame) c.delete.ensures.err) }
