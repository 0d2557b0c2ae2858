use Rattle.station_files.proofs.Common.{AreLaidOut, ap, length, rules, subst₂, sym, ◌∙◌, ◌≡◌}
use Rattle.station_files.proofs.Owning.{written_back}
use Rattle.station_files.proofs.own_trees.lay_out.Goals as goal

pub returns-clause-shown : goal.returns-clause-shown
returns-clause-shown g c =
    let v = g.S.Store.view c.args.store.now in
    let layouts = c.args.layouts.now in
    let new = c.lay_out_each.new.layouts in
    let full : layouts.len ≡ length layouts.items = search rules in
    let same = written_back new layouts.items layouts.len (c.lay_out_each.ensures.all ∙ ap length c.deref_mut.ensures.value) full in
    subst₂ (λ n l. AreLaidOut n l v.shape v.reals) c.deref.ensures.value (sym same) c.lay_out_each.ensures.shown
