use Rattle.station_files.proofs.Common.{IsTrue, ap, catalog_tree, is_known, list_all, map, rules, sym, take, true, ◌∙◌, ◌≡◌}
use Rattle.station_files.proofs.OwnListing.{known_taken}
use Rattle.station_files.proofs.own_listing.are_beside.Goals as goal

pub returns : goal.returns
returns g c done clean sound =
    let objects = c.args.objects.now in
    let numbers = c.args.numbers.now in
    let whole = (g.S.Store.view c.args.store.now).trees catalog_tree in
    let rows : c.in_ok-rows.rows.items ≡ map (take 5) whole = search rules in
    let there : IsTrue c.are_there.result = search rules in
    let known : list_all (is_known objects numbers) c.in_ok-rows.rows.items ≡ true = search rules in
    record {
      lists = c.are_there.ensures there clean sound (c.as_slice.ensures.value ∙ rows);
      apart = sym (known_taken objects numbers whole) ∙ ap (list_all (is_known objects numbers)) (sym rows) ∙ known;
    }
