use Rattle.station_files.proofs.Common.{AreBeside, Global, IsClean, IsTrue, Vec, ap, arith, catalog_tree, inr, length, own_trees, refl, rules, slice_index, subst, ℕ, ◌<◌, ◌∙◌}
use Rattle.station_files.proofs.beside.connect_own.Goals as goal

pub returns-in-Err-over-clause-left : goal.returns-in-Err-over-clause-left
returns-in-Err-over-clause-left g c clean db may =
    let left = c.in-Err-over.left in
    let first = c.in-Ok.own in
    let v = g.S.Store.view c.args.store in
    let e = c.in-Err-over.ensures.unharmed in
    let same = c.in-Ok.ensures.same in
    let numbers = c.in-Ok.ensures.numbers in
    let late : IsClean (g.S.Store.view left.store) = subst (λ s. IsClean (g.S.Store.view s)) c.into_inner.ensures clean in
    let early : IsClean (g.S.Store.view first.store) = omega (arith, e.clean, late) in
    let was : IsClean v = subst (λ s. IsClean (g.S.Store.view s)) same early in
    let back = e.outcomes (own_trees left.numbers.items db) (db, subst (λ s. g.S.Store.recovers s db) c.into_inner.ensures may, refl) in
    let there : IsTrue c.in-Ok-true.field-0 = search rules in
    let beside : AreBeside c.args.objects.now c.args.made c.args.numbers.items (v.trees catalog_tree) =
    subst (λ n. AreBeside c.args.objects.now c.args.made n (v.trees catalog_tree)) c.as_slice.ensures.value (c.in-Ok-true.ensures there was (c.requires.fresh was).sound) in
    inr (
      left.numbers.items,
      back.0,
      subst (λ s. g.S.Store.recovers s back.0) same back.1,
      back.2 ∙ ap (λ (n : Vec ℕ Global). own_trees n.items back.0) numbers,
      subst (λ (n : Vec ℕ Global). length n.items < 65536) numbers first.inside.apart.few,
      subst (λ (n : Vec ℕ Global). (t : ℕ) → t < length n.items → slice_index n.items t < 65536) numbers first.inside.apart.low,
      beside,
    )
