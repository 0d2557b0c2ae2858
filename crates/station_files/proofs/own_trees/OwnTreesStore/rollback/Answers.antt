use Rattle.station_files.proofs.Owning.{back_shown, shown_back}
use Rattle.station_files.proofs.own_trees.OwnTreesStore.rollback.Goals as goal

pub returns-clause-undone : goal.returns-clause-undone
returns-clause-undone g c =
    let e = c.rollback.ensures in
    back_shown c.args.self.now.inside (g.S.Store.view c.rollback.new.self) e.quiet.clean (g.met.S.Store.broken_if_shut c.rollback.new.self) e.undone c.go_back.ensures

pub invariant_of-self : goal.invariant_of-self
invariant_of-self g c =
    let e = c.rollback.ensures in
    record { inside = shown_back c.args.self.now.inside (g.S.Store.view c.rollback.new.self) e.quiet.clean (g.met.S.Store.broken_if_shut c.rollback.new.self) e.undone c.go_back.ensures }
