use Rattle.station_files.proofs.Common.{IsBlankFile, IsPageSize, ap, are_clean, bytes_of, catalog_rows, false, image, image_of, inl, inr, is_summed, listed_from, no_doubt, outcomes, pool_files, seen_image, state_of, stored_size, stored_used, subst, subst₂, summed_used, sym, ◌∙◌, ◌≡◌}
use Rattle.station_files.proofs.Unstarted.{unstarted}
use Rattle.station_files.proofs.opening.store_begun.Goals as goal

pub returns-in-Ok-create-clause-begun : goal.returns-in-Ok-create-clause-begun
returns-in-Ok-create-clause-begun g c now =
    let e = c.in-Ok-create.ensures in
    let fresh = c.in-Ok.unopened in
    let made = c.in-Ok.ensures in
    record {
      honest = sym ((pool_files fresh.pool).1 ∙ ap (λ f. are_clean g.D.Disk f.0 f.1) made.files) ∙ e.honest now;
      fresh = record { sound = e.ready.sound (no_doubt _ now); numbered = e.numbered; clean = e.ready.clean; unmarked = e.ready.unmarked };
      is_open = e.ready.is_open (no_doubt _ now);
      empty = (λ tree low. ap (λ d. d tree) e.ready.clean ∙ e.empty now tree low, rw now (catalog_rows _ _ _ ∙ ap (listed_from 0) (e.schema ∙ made.list)));
    }

pub returns-in-Ok-create-clause-plain : goal.returns-in-Ok-create-clause-plain
returns-in-Ok-create-clause-plain g c now =
    ap is_summed ((c.in-Ok-create.ensures.kept now).size ∙ c.in-Ok.ensures.size) ∙ summed_used c.args.size false

pub returns-in-Err-create-clause-unstarted : goal.returns-in-Err-create-clause-unstarted
returns-in-Err-create-clause-unstarted g c still blank =
    let fresh = c.in-Ok.unopened in
    let made = c.in-Ok.ensures in
    let e = c.in-Err-create.ensures in
    let given = c.args.size in
    let start = image_of g.D.Disk c.args.files in
    let is = blank (sym ((pool_files fresh.pool).1 ∙ ap (λ f. are_clean g.D.Disk f.0 f.1) made.files) ∙ e.falls still) in
    let seen : image fresh ≡ start = ap (λ f. seen_image g.D.Disk f.0 f.1) made.files in
    let here : IsBlankFile (state_of fresh).page_size (image fresh) = subst₂ IsBlankFile (sym made.size) (sym seen) is in
    let valid : IsPageSize (stored_size (bytes_of given)) = subst IsPageSize (sym (stored_used given false)) (given.smallest, given.largest, given.power, given.aligned) in (
      is,
      λ left may. elim ((e.unharmed still).blank here left may) [
        | inl was ↦ inl (subst (λ f. outcomes g.D.Disk f.0 f.1 left) made.files ((pool_files fresh.pool).2 left was))
        | inr way ↦ inr (unstarted (bytes_of given) left valid (rw (made.size, made.list) at way))
      ],
    )
