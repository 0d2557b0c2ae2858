use Rattle.std.proofs.Common.{◌∙◌}
use Rattle.station_files.proofs.Owning.{back_shown, shown_back, shown_committed}
use Rattle.station_files.proofs.own_trees.OwnTreesStore.commit.Goals as goal

pub returns-in-Err-clause-err : goal.returns-in-Err-clause-err
returns-in-Err-clause-err g c =
    let e = c.in-Err.ensures in
    back_shown c.args.self.now.inside (g.S.Store.view c.commit.new.self) e.clean (g.met.S.Store.broken_if_shut c.commit.new.self) e.err c.go_back.ensures

pub invariant_of-self-in-Err : goal.invariant_of-self-in-Err
invariant_of-self-in-Err g c =
    let e = c.in-Err.ensures in
    record { inside = shown_back c.args.self.now.inside (g.S.Store.view c.commit.new.self) e.clean (g.met.S.Store.broken_if_shut c.commit.new.self) e.err c.go_back.ensures }

pub invariant_of-self : goal.invariant_of-self
invariant_of-self g c =
    let it = c.args.self.now in
    record { inside = shown_committed it.inside (g.S.Store.view c.commit.new.self) c.in-Ok.ensures.clean (c.copy_from_slice.ensures.items ∙ c.deref.ensures.value) (g.met.S.Alter.listed it.store) c.in-Ok.ensures.ok }
