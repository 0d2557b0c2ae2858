use Rattle.station_files.proofs.Common.{on_ok_weaker, refl, rules}
use Rattle.station_files.proofs.Owning.{releases_shown, shown, stays, stays_after}
use Rattle.station_files.proofs.Others.{releases, spares_after}
use Rattle.station_files.proofs.own_trees.OwnTreesStore.release.Goals as goal

pub returns-clause-ok : goal.returns-clause-ok
returns-clause-ok g c =
    let it = c.args.self.now in
    on_ok_weaker c.release.result (λ h clean. releases_shown it.numbers.items it.layouts.items it.before.items _ _ (h clean)) c.release.ensures.ok

pub invariant_of-self : goal.invariant_of-self
invariant_of-self g c = record { inside = shown c.args.self.now.inside (g.S.Store.view c.release.new.self) c.release.ensures.quiet.clean (stays_after c.release.result (on_ok_weaker c.release.result (λ h clean. stays (h clean)) c.release.ensures.ok) c.release.ensures.err) }

pub returns-clause-step : goal.returns-clause-step
returns-clause-step g c = (search rules, spares_after g.S.Store _ _ _ c.release.ensures.quiet c.release.result (on_ok_weaker c.release.result (λ h clean. releases _ _ _ (h clean)) c.release.ensures.ok) c.release.ensures.err, refl)
