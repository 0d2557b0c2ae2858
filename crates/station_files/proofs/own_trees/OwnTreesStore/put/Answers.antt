use Rattle.station_files.proofs.Common.{on_ok_weaker, put_row}
use Rattle.station_files.proofs.Owning.{sets_inside, shown, stays, stays_after}
use Rattle.station_files.proofs.own_trees.OwnTreesStore.put.Goals as goal

pub returns-clause-ok : goal.returns-clause-ok
returns-clause-ok g c = on_ok_weaker c.put.result (λ h clean. sets_inside c.args.self.now.inside c.in-Some.ensures (g.S.Store.view c.put.new.self) (λ _. put_row c.args.row.now) (h clean)) c.put.ensures.ok

pub invariant_of-self : goal.invariant_of-self
invariant_of-self g c = record { inside = shown c.args.self.now.inside (g.S.Store.view c.put.new.self) c.put.ensures.quiet.clean (stays_after c.put.result (on_ok_weaker c.put.result (λ h clean. stays (h clean)) c.put.ensures.frame) c.put.ensures.err) }
