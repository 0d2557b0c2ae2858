use Rattle.station_files.proofs.Common.{on_ok_weaker, refl, rules}
use Rattle.station_files.proofs.Owning.{shown, stays, stays_after}
use Rattle.station_files.proofs.Others.{keeps, spares_after}
use Rattle.station_files.proofs.own_trees.OwnTreesStore.get.Goals as goal

pub invariant_of-self : goal.invariant_of-self
invariant_of-self g c = record { inside = shown c.args.self.now.inside (g.S.Store.view c.get.new.self) c.get.ensures.quiet.clean (stays_after c.get.result (on_ok_weaker c.get.result (λ h clean. stays (h clean)) c.get.ensures.same) c.get.ensures.err) }

pub returns-clause-step : goal.returns-clause-step
returns-clause-step g c = (search rules, spares_after g.S.Store _ _ _ c.get.ensures.quiet c.get.result (on_ok_weaker c.get.result (λ h clean. keeps _ _ _ (h clean)) c.get.ensures.same) c.get.ensures.err, refl)
