use Rattle.station_files.proofs.Common.{IsClean, IsListed, IsOrdered, both_ways, cases_Bool, catalog_tree, inl, inr, no_doubt, own_listed, own_ordered, own_trees, shut_if_dirty_at, subst, subst₂, view}
use Rattle.station_files.proofs.laws.own_files_lie_in_order.Goals as goal

pub returns : goal.returns
returns g c = λ it is_open.
    let whole = c.files_lie_in_order.ensures it.store is_open in
    let v = view it.store in
    let clean : IsClean v = elim (cases_Bool v.is_clean) [ inl on ↦ no_doubt v.is_clean on | inr off ↦ absurd (both_ways _ (shut_if_dirty_at it.store off) is_open) ] in
    let numbers = it.numbers.items in
    let kept = it.inside.kept clean in (
      subst (λ shape. IsOrdered shape (own_trees numbers v.committed)) kept.shaped (own_ordered numbers it.inside.apart.few it.inside.apart.low v.committed v.committed_shape v.committed_reals whole.1 whole.0),
      subst₂ (IsListed (own_trees numbers v.committed catalog_tree)) kept.shaped kept.typed (own_listed numbers it.inside.apart.few it.inside.apart.low v.committed v.committed_shape v.committed_reals whole.1),
    )
