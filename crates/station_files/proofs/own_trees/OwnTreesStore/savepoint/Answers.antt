use Rattle.station_files.proofs.Common.{on_ok_weaker, refl, rules}
use Rattle.station_files.proofs.Owning.{marks_shown, shown, stays, stays_after}
use Rattle.station_files.proofs.Others.{sets_mark, spares_after}
use Rattle.station_files.proofs.own_trees.OwnTreesStore.savepoint.Goals as goal

pub returns-clause-ok : goal.returns-clause-ok
returns-clause-ok g c = on_ok_weaker c.savepoint.result (λ h clean. marks_shown c.args.self.now.inside (g.S.Store.view c.savepoint.new.self) c.savepoint.ensures.quiet.clean clean (h clean)) c.savepoint.ensures.ok

pub invariant_of-self : goal.invariant_of-self
invariant_of-self g c = record { inside = shown c.args.self.now.inside (g.S.Store.view c.savepoint.new.self) c.savepoint.ensures.quiet.clean (stays_after c.savepoint.result (on_ok_weaker c.savepoint.result (λ h clean. stays (h clean).is) c.savepoint.ensures.ok) c.savepoint.ensures.err) }

pub returns-clause-step : goal.returns-clause-step
returns-clause-step g c = (search rules, spares_after g.S.Store _ _ _ c.savepoint.ensures.quiet c.savepoint.result (on_ok_weaker c.savepoint.result (λ h clean. sets_mark _ _ _ (h clean)) c.savepoint.ensures.ok) c.savepoint.ensures.err, refl)
