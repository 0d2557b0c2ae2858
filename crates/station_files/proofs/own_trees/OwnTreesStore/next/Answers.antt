use Rattle.station_files.proofs.Common.{Advances, Bool, IfOk-weaker, Layout, List, Row, View, ap, false, on_ok_weaker, own_view, refl, rules, true, ℕ}
use Rattle.station_files.proofs.Owning.{shown, stays, stays_after}
use Rattle.station_files.proofs.Others.{keeps, spares_after}
use Rattle.station_files.proofs.own_trees.OwnTreesStore.next.Goals as goal

advances : (numbers : List ℕ) (layouts before : List Layout) (a b : View) (cursor : ℕ) (row : Row) (found : Bool) → Advances a b cursor row found
    → Advances (own_view numbers layouts before a) (own_view numbers layouts before b) cursor row found
advances numbers layouts before a b cursor row true h = (h.0, h.1, ap (own_view numbers layouts before) h.2)
advances numbers layouts before a b cursor row false h = (h.0, ap (own_view numbers layouts before) h.1)

pub returns-clause-ok : goal.returns-clause-ok
returns-clause-ok g c =
    let it = c.args.self.now in
    IfOk-weaker c.next.result _ _
    (λ found h clean. advances it.numbers.items it.layouts.items it.before.items (g.S.Store.view it.store) (g.S.Store.view c.next.new.self) c.args.cursor c.next.new.row found (h clean)) c.next.ensures.ok

pub invariant_of-self : goal.invariant_of-self
invariant_of-self g c = record { inside = shown c.args.self.now.inside (g.S.Store.view c.next.new.self) c.next.ensures.quiet.clean (stays_after c.next.result (on_ok_weaker c.next.result (λ h clean. stays (h clean).same) c.next.ensures.moves) c.next.ensures.err) }

pub returns-clause-step : goal.returns-clause-step
returns-clause-step g c = (search rules, spares_after g.S.Store _ _ _ c.next.ensures.quiet c.next.result (on_ok_weaker c.next.result (λ h clean. keeps _ _ _ (h clean).same) c.next.ensures.moves) c.next.ensures.err, refl)
