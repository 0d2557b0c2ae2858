use Rattle.station_files.proofs.Common.{AreFound, IsSound, Recovers, adopts_of, ap₂, arith, err_from_is_err_and, file_trees, map, recovers_once, wanted_of, file_state, image_of, inl, no_doubt, refl, settled_at, subst, sym, ∥∥₁_map, ◌∙◌}
use Rattle.sqlite_trees.proofs.Doubt.{clean_of as sure}
use Rattle.sqlite_store.specs.FileStore.{state as store_state, view as shown}
use Rattle.station_files.proofs.ByList.{in_any_order}
use Rattle.station_files.proofs.OwnFiles.{finds_by}
use Rattle.station_files.proofs.Once.{held_by_list as held_once}
use Rattle.station_files.proofs.opening.open_listed.Goals as goal

pub connect-requires : goal.connect-requires
connect-requires g c none = (c.in_ok-store.ensures.listed (sure _ none)).fresh

pub returns-in-Ok-clause-found : goal.returns-in-Ok-clause-found
returns-in-Ok-clause-found g c now =
    let store = c.in_ok-store.store in
    let it = c.in_ok-store.ensures.listed (sure (shown store).is_clean (omega (arith, c.in-Ok.ensures.over.clean))) in
    let opens = c.in-Ok.ensures.over.opens now in
    let trees = c.in-Ok.ensures.over.trees now in
    let sound = subst (IsSound (file_state c.in-Ok.conn).committed.schema) trees (opens.1 opens.0.is_open).1 in
    record {
      honest = it.by.honest;
      holds = λ db held. trees ∙ held_once c.args.files c.args.objects.now store _ it sound db held;
      reads = subst (AreFound g.D.Disk c.args.files) (sym trees) (inl (it.by.size, _, _, adopts_of it.by.size _ _ it.by.found, it.by.ours, it.by.reads));
    }

pub returns-in-Ok-clause-by_list : goal.returns-in-Ok-clause-by_list
returns-in-Ok-clause-by_list g c now =
    let store = c.in_ok-store.store in
    let it = c.in_ok-store.ensures.listed (sure (shown store).is_clean (omega (arith, c.in-Ok.ensures.over.clean))) in
    record {
      by = finds_by (image_of g.D.Disk c.args.files) c.args.objects.now it.by.size (store_state store).committed it.by.plain it.by.found it.by.sized
          g.D.Disk c.args.files (file_state c.in-Ok.conn) refl it.by.honest (c.in-Ok.ensures.over.trees now ∙ it.by.reads);
      ours = ∥∥₁_map it.by.ours (λ ours. in_any_order ours);
    }

pub returns-in-Ok-clause-plain : goal.returns-in-Ok-clause-plain
returns-in-Ok-clause-plain g c now =
    c.in-Ok.ensures.over.sums now ∙ c.in_ok-store.ensures.plain (sure (shown c.in_ok-store.store).is_clean (omega (arith, c.in-Ok.ensures.over.clean)))

pub returns-in-Ok-clause-guarded : goal.returns-in-Ok-clause-guarded
returns-in-Ok-clause-guarded g c now =
    c.in-Ok.ensures.over.shield (c.in_ok-store.ensures.guarded (sure (shown c.in_ok-store.store).is_clean (omega (arith, c.in-Ok.ensures.over.clean))))

pub returns-in-Err-clause-spared : goal.returns-in-Err-clause-spared
returns-in-Err-clause-spared g c late db may =
    let store = c.in_ok-store.store in
    let it = c.in_ok-store.ensures.listed (sure (shown store).is_clean (omega (arith, no_doubt _ late, c.in-Err.ensures.left.clean))) in
    (it.by.size, _, it.by.found, settled_at store g.met.D.Disk.seen_may_stay db it.by.is_open (c.in-Err.ensures.left.outcomes db may) ∙ sym it.fresh.clean ∙ it.by.reads)

pub returns-in_err-store-clause-others : goal.returns-in_err-store-clause-others
returns-in_err-store-clause-others g c =
    let p = err_from_is_err_and c.from_residual.result c.from_residual.ensures.1 in
    rw (p.1, p.2) c.in_err-store.ensures.others

pub returns-in-Err-clause-others : goal.returns-in-Err-clause-others
returns-in-Err-clause-others g c is late h =
    let store = c.in_ok-store.store in
    let image = image_of g.D.Disk c.args.files in
    let it = c.in_ok-store.ensures.listed (sure (shown store).is_clean (omega (arith, no_doubt _ late, c.in-Err.ensures.left.clean))) in
    let same = it.by.sized h.size h.held in
    let pages = recovers_once it.by.size image (store_state store).committed h.held.pages it.by.found (subst (λ n. Recovers n image h.held.pages) same h.found) in
    let trees = it.by.reads ∙ ap₂ (λ n p. file_trees n (map wanted_of c.args.objects.now) p) (sym same) pages in
    c.in-Err.ensures.refused (no_doubt _ late) (c.unconnected.ensures is) h.schema (subst (IsSound h.schema) (sym trees) h.sound)
