use Rattle.station_files.proofs.Common.{ap, false, is_summed, kept_schema, no_doubt, refl, state_of, summed_used, ◌∙◌}
use Rattle.station_files.proofs.ByList.{in_any_order}
use Rattle.station_files.proofs.Opened.{are_kept, read_by_store}
use Rattle.station_files.proofs.beside.store_beside.Goals as goal

pub returns-in-Ok-open_all-clause-read : goal.returns-in-Ok-open_all-clause-read
returns-in-Ok-open_all-clause-read g c now =
    let it = c.in-Ok-open_all.found.0 in
    let e = c.in-Ok-open_all.ensures in
    let u = c.in-Ok.ensures.unopened in
    record {
      fresh = record { sound = e.ready.sound (no_doubt _ now); numbered = refl; clean = e.ready.clean; unmarked = e.ready.unmarked };
      wanted = it.schema.items;
      by = read_by_store c.args.files _ c.in-Ok.unopened u it e.ready (e.kept now) (e.found now) (e.honest now) now false it.schema.items (ap (λ o. kept_schema o it.schema.items) e.ready.unaltered) in_any_order;
    }

pub returns-in-Ok-open_all-clause-plain : goal.returns-in-Ok-open_all-clause-plain
returns-in-Ok-open_all-clause-plain g c now =
    ap is_summed ((c.in-Ok-open_all.ensures.kept now).size ∙ c.in-Ok.ensures.unopened.sized) ∙ summed_used c.in-Ok.ensures.unopened.size false

pub returns-in-Err-open_all-clause-spared : goal.returns-in-Err-open_all-clause-spared
returns-in-Err-open_all-clause-spared g c still =
    let e = c.in-Err-open_all.ensures in
    are_kept c.args.files _ c.in-Ok.unopened c.in-Ok.ensures.unopened (e.falls still) (state_of c.in-Err-open_all.left) (e.unharmed still) c.in-Err-open_all.left refl
