use Rattle.station_files.proofs.Common.{on_ok_weaker, refl, rules}
use Rattle.station_files.proofs.Owning.{sets_version, shown, stays, stays_after}
use Rattle.station_files.proofs.Others.{sets_version as sets_others, spares_after}
use Rattle.station_files.proofs.own_trees.OwnTreesAlter.set_version.Goals as goal

pub returns-clause-ok : goal.returns-clause-ok
returns-clause-ok g c =
    let it = c.args.self.now in
    on_ok_weaker c.set_version.result
    (λ h clean. sets_version it.numbers.items it.layouts.items it.before.items _ _ it.inside.apart c.args.version (h clean)) c.set_version.ensures.ok

pub invariant_of-self : goal.invariant_of-self
invariant_of-self g c = record { inside = shown c.args.self.now.inside (g.S.Store.view c.set_version.new.self) c.set_version.ensures.quiet.clean (stays_after c.set_version.result (on_ok_weaker c.set_version.result (λ h clean. stays (h clean).is) c.set_version.ensures.ok) c.set_version.ensures.err) }

pub returns-clause-step : goal.returns-clause-step
returns-clause-step g c = (search rules, spares_after g.S.Store _ _ _ c.set_version.ensures.quiet c.set_version.result (on_ok_weaker c.set_version.result (λ h clean. sets_others _ _ _ (h clean)) c.set_version.ensures.ok) c.set_version.ensures.err, refl)
