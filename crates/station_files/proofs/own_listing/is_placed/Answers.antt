use Rattle.station_files.proofs.Common.{None, ap, arith, catalog_tree, find, has_rowid, pos, rules, sym, ◌+◌, ◌<◌, ◌∙◌, ◌≡◌}
use Rattle.station_files.proofs.OwnListing.{is_missing_there}
use Rattle.station_files.proofs.own_listing.is_placed.Goals as goal

pub returns-else-is_made : goal.returns-else-is_made
returns-else-is_made g c none clean sound rows tree =
    let v = g.S.Store.view c.args.store.now in
    let number = c.args.number in
    let small : number < 4294967296 = omega (arith, c.ranges.number.fits) in
    let lost : find (has_rowid (pos (number + 1))) c.args.rows.now ≡ None = search rules in
    let missing = is_missing_there (v.trees catalog_tree) v.shape v.reals (g.met.S.Alter.listed c.args.store.now sound) number small tree
    (ap (find (has_rowid (pos (number + 1)))) (sym rows) ∙ lost) in
    search rules
