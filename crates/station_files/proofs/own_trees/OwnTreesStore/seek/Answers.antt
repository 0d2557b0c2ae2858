use Rattle.station_files.proofs.Common.{ap, ap₂, on_ok_weaker, order_of, own_view, refl, rules, sought, sym, with_cursor, ◌∙◌}
use Rattle.station_files.proofs.Owning.{rows_inside, shown, stays, stays_after}
use Rattle.station_files.proofs.Others.{keeps, spares_after}
use Rattle.station_files.proofs.own_trees.OwnTreesStore.seek.Goals as goal

pub returns-clause-ok : goal.returns-clause-ok
returns-clause-ok g c =
    let it = c.args.self.now in
    let own = own_view it.numbers.items it.layouts.items it.before.items in
    let inside = c.in-Some.ensures in
    on_ok_weaker c.seek.result
    (λ h clean. ap own (h clean)
    ∙ ap₂ (λ s rows. with_cursor (own (g.S.Store.view it.store)) c.args.cursor (sought (order_of s) c.args.direction c.args.key.now rows)) inside.shaped
    (sym (rows_inside it.inside inside)))
    c.seek.ensures.ok

pub invariant_of-self : goal.invariant_of-self
invariant_of-self g c = record { inside = shown c.args.self.now.inside (g.S.Store.view c.seek.new.self) c.seek.ensures.quiet.clean (stays_after c.seek.result (on_ok_weaker c.seek.result (λ h clean. stays (h clean)) c.seek.ensures.ok) c.seek.ensures.err) }

pub returns-clause-step : goal.returns-clause-step
returns-clause-step g c = (search rules, spares_after g.S.Store _ _ _ c.seek.ensures.quiet c.seek.result (on_ok_weaker c.seek.result (λ h clean. keeps _ _ _ (h clean)) c.seek.ensures.ok) c.seek.ensures.err, refl)
