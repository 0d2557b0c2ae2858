use Rattle.std.proofs.Common.{refl, rules}
use Rattle.station_files.proofs.Owning.{goes_back_shown, shown_to, unmarked_shown}
use Rattle.station_files.proofs.Others.{goes_back, spares}
use Rattle.station_files.proofs.own_trees.OwnTreesStore.rollback_to.Goals as goal

pub returns-in-Ok-clause-ok : goal.returns-in-Ok-clause-ok
returns-in-Ok-clause-ok g c clean some =
    let e = c.in-Ok.ensures in
    goes_back_shown c.args.self.now.inside (g.S.Store.view c.rollback_to.new.self) e.quiet.clean c.lay_out.ensures.shown some (e.ok clean)

pub returns-in-Ok-clause-none : goal.returns-in-Ok-clause-none
returns-in-Ok-clause-none g c clean none =
    let e = c.in-Ok.ensures in
    unmarked_shown c.args.self.now.inside (g.S.Store.view c.rollback_to.new.self) e.quiet.clean c.lay_out.ensures.shown clean none (e.none clean)

pub invariant_of-self : goal.invariant_of-self
invariant_of-self g c =
    let e = c.in-Ok.ensures in
    record { inside = shown_to c.args.self.now.inside (g.S.Store.view c.rollback_to.new.self) e.quiet.clean c.lay_out.ensures.shown c.lay_out.ensures.all e.ok e.none }

pub returns-in-Ok-clause-step : goal.returns-in-Ok-clause-step
returns-in-Ok-clause-step g c = (search rules, spares g.S.Store _ _ _ c.in-Ok.ensures.quiet (λ clean. goes_back _ _ _ (c.in-Ok.ensures.none clean) (c.in-Ok.ensures.ok clean)), refl)
