use Rattle.station_files.proofs.Common.{IsBlankFile, IsEmpty, arith, bytes_of, err_from_is_err_and, no_doubt, rules, same_image, settled_at, subst, sym, true, ◌∙◌, ◌≡◌}
use Rattle.sqlite_trees.proofs.Doubt.{clean_of as sure}
use Rattle.sqlite_store.specs.FileStore.{view as shown}
use Rattle.station_files.proofs.Unstarted.{unstarted_before}
use Rattle.station_files.proofs.opening.open_new.Goals as goal

pub connect-requires : goal.connect-requires
connect-requires g c none = (c.in_ok-store.ensures.begun (sure _ none)).fresh

pub returns-in-Ok-clause-nothing : goal.returns-in-Ok-clause-nothing
returns-in-Ok-clause-nothing g c now =
    let it = c.in_ok-store.ensures.begun (sure (shown c.in_ok-store.store).is_clean (omega (arith, c.in-Ok.ensures.over.clean))) in
    let is : c.in-Ok-true.field-0 ≡ true = search rules in
    (c.in-Ok-true.ensures.blank it.honest).0 is

pub returns-in-Ok-clause-empty : goal.returns-in-Ok-clause-empty
returns-in-Ok-clause-empty g c now =
    let it = c.in_ok-store.ensures.begun (sure (shown c.in_ok-store.store).is_clean (omega (arith, c.in-Ok.ensures.over.clean))) in
    let opens = c.in-Ok.ensures.over.opens now in
    subst IsEmpty (sym (c.in-Ok.ensures.over.trees now)) it.empty

pub returns-in-Ok-clause-plain : goal.returns-in-Ok-clause-plain
returns-in-Ok-clause-plain g c now =
    c.in-Ok.ensures.over.sums now ∙ c.in_ok-store.ensures.plain (sure (shown c.in_ok-store.store).is_clean (omega (arith, c.in-Ok.ensures.over.clean)))

pub returns-in-Ok-clause-guarded : goal.returns-in-Ok-clause-guarded
returns-in-Ok-clause-guarded g c now =
    c.in-Ok.ensures.over.shield (c.in_ok-store.ensures.guarded (sure (shown c.in_ok-store.store).is_clean (omega (arith, c.in-Ok.ensures.over.clean))))

pub returns-in_err-store-clause-unstarted : goal.returns-in_err-store-clause-unstarted
returns-in_err-store-clause-unstarted g c =
    let is : c.in-Ok-true.field-0 ≡ true = search rules in
    let looked = c.in-Ok-true.ensures in
    let p = err_from_is_err_and c.from_residual.result c.from_residual.ensures.1 in
    rw (p.1, p.2) (λ still. unstarted_before (bytes_of c.args.size) c.args.files c.is_blank.new.files c.in_err-store.field-0.0.1 looked.log looked.db
    (c.in_err-store.ensures.unstarted still (λ clean. subst (IsBlankFile (bytes_of c.args.size)) (sym (same_image looked.log looked.db)) ((looked.blank clean).0 is))))

pub returns-in-Err-connect-clause-unstarted : goal.returns-in-Err-connect-clause-unstarted
returns-in-Err-connect-clause-unstarted g c late =
    let store = c.in_ok-store.store in
    let is : c.in-Ok-true.field-0 ≡ true = search rules in
    let it = c.in_ok-store.ensures.begun (sure (shown store).is_clean (omega (arith, no_doubt _ late, c.in-Err-connect.ensures.left.clean))) in (
      (c.in-Ok-true.ensures.blank it.honest).0 is,
      λ db may. let at = settled_at store g.met.D.Disk.seen_may_stay db it.is_open (c.in-Err-connect.ensures.left.outcomes db may) ∙ sym it.fresh.clean in subst IsEmpty (sym at) it.empty,
    )
