use Rattle.station_files.proofs.Common.{IsOurs, ap, false, is_summed, kept_schema, map, no_doubt, refl, state, state_of, subst, subst₂, summed_used, sym, true, wanted_of, Recovers, ◌∙◌, ◌≡◌}
use Rattle.station_files.proofs.Opened.{are_kept, read_by_store}
use Rattle.sqlite_store.specs.Opening.{FailsToOpen}
use Rattle.station_files.proofs.opening.store_by_list.Goals as goal

pub returns-in-Ok-open_numbered-clause-listed : goal.returns-in-Ok-open_numbered-clause-listed
returns-in-Ok-open_numbered-clause-listed g c now =
    let it = c.in-Ok-open_numbered.it in
    let e = c.in-Ok-open_numbered.ensures in
    let u = c.in-Ok.ensures.unopened in
    record {
      fresh = record { sound = e.ready.sound (no_doubt _ now); numbered = e.numbered; clean = e.ready.clean; unmarked = e.ready.unmarked };
      by = read_by_store c.args.files c.args.objects.now c.in-Ok.unopened u it e.ready (e.kept now) (e.found now) (e.honest now) now true (map wanted_of c.args.objects.now)
          (ap (λ o. kept_schema o it.schema.items) e.ready.unaltered ∙ e.schema ∙ u.list)
          (λ ours. subst (λ b. IsOurs (state it).page_size b (kept_schema it.saved it.schema.items) (state it).committed) e.numbered ours);
    }

pub returns-in-Ok-open_numbered-clause-plain : goal.returns-in-Ok-open_numbered-clause-plain
returns-in-Ok-open_numbered-clause-plain g c now =
    ap is_summed ((c.in-Ok-open_numbered.ensures.kept now).size ∙ c.in-Ok.ensures.unopened.sized) ∙ summed_used c.in-Ok.ensures.unopened.size false

pub returns-in-Err-open_numbered-clause-spared : goal.returns-in-Err-open_numbered-clause-spared
returns-in-Err-open_numbered-clause-spared g c still =
    let e = c.in-Err-open_numbered.ensures in
    are_kept c.args.files c.args.objects.now c.in-Ok.unopened c.in-Ok.ensures.unopened (e.falls still) (state_of c.in-Err-open_numbered.left) (e.unharmed still) c.in-Err-open_numbered.left refl

pub returns-in-Err-open_numbered-clause-others : goal.returns-in-Err-open_numbered-clause-others
returns-in-Err-open_numbered-clause-others g c is still h =
    let e = c.in-Err-open_numbered.ensures in
    let u = c.in-Ok.ensures.unopened in
    let size : (state_of c.in-Ok.unopened).page_size ≡ h.size = u.sized ∙ sym (u.only (e.falls still) h.size h.held) in
    let none = subst (FailsToOpen _ _ _ _) is (e.cause still) in
    none (
      h.held.pages,
      subst₂ (λ n i. Recovers n i h.held.pages) (sym size) (sym u.seen) h.found,
      subst₂ (λ n w. IsOurs n true w h.held.pages) (sym size) (sym u.list) h.ours,
    )
