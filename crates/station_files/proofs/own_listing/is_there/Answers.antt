use Rattle.station_files.proofs.Common.{Some, [], ap, arith, catalog_tree, column, find, has_rowid, is_present, pos, rules, sym, true, wanted_of, ◌+◌, ◌<◌, ◌∙◌, ◌∷◌, ◌≡◌}
use Rattle.station_files.proofs.OwnListing.{is_listed_there}
use Rattle.station_files.proofs.own_listing.is_there.Goals as goal

pub returns-then-eq : goal.returns-then-eq
returns-then-eq g c typed clean sound rows tree =
    let v = g.S.Store.view c.args.store.now in
    let found = c.in-Some.row.now in
    let number = c.args.number in
    let o = c.args.object.now in
    let small : number < 4294967296 = omega (arith, c.ranges.number.fits) in
    let there : is_present o.shape ≡ true = search rules in
    let is : column found 1 ∷ column found 2 ∷ column found 3 ∷ column found 4 ∷ [] ≡ (wanted_of o).row = search rules in
    let shaped : v.shape number ≡ o.shape = search rules in
    let reals : v.reals number ≡ o.reals = search rules in
    let finds : find (has_rowid (pos (number + 1))) c.args.rows.now ≡ Some found = search rules in
    is_listed_there (v.trees catalog_tree) v.shape v.reals (g.met.S.Alter.listed c.args.store.now sound) number small o found tree
    (ap (find (has_rowid (pos (number + 1)))) (sym rows) ∙ finds) is there shaped reals
