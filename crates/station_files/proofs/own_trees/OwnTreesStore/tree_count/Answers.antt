use Rattle.station_files.proofs.Common.{Absent, Layout, ap, arith, cases_eq, inl, inr, length, map, rules, slice_index_or, subst, sym, ◌-◌, ◌<◌, ◌∙◌, ◌≡◌}
use Rattle.std.proofs.lemmas.List.{get_or-map}
use Rattle.station_files.proofs.own_trees.OwnTreesStore.tree_count.Goals as goal

pub loop-count-preserved : goal.loop-count-preserved
loop-count-preserved g c =
    let items = c.args.self.now.layouts.items in
    let last = c.loop-count.count - 1 in
    let low : last < length items = omega (arith, c.loop-count.invariant.low, c.loop-count-test.true) in
    let none : c.index.result.now.shape ≡ Absent = search rules in
    let here : slice_index_or (map (λ (x : Layout). x.shape) items) last Absent ≡ Absent =
    get_or-map (λ (x : Layout). x.shape) items last c.index.result.now Absent low ∙ ap (λ (x : Layout). x.shape) (sym c.index.ensures) ∙ none in
    record {
      low = omega (arith, low);
      absent = λ s high within. elim (cases_eq s last) [
        | inl is ↦ subst (λ k. slice_index_or (map (λ (x : Layout). x.shape) items) k Absent ≡ Absent) (sym is) here
        | inr other ↦ c.loop-count.invariant.absent s (omega (arith, high, other, c.loop-count-test.true)) within
      ];
    }
