use Rattle.station_files.proofs.Common.{ap, arith, catalog_tree, listed_from, map, slice_index, subst, take, wanted_of, ◌-◌, ◌∙◌, ◌≡◌}
use Rattle.station_files.proofs.OwnListing.{all_placed, IsPlaced}
use Rattle.station_files.proofs.own_listing.are_there.Goals as goal

pub returns : goal.returns
returns g c done clean sound rows =
    let all : c.args.made - 0 ≡ c.args.made = omega arith in
    all_placed ((g.S.Store.view c.args.store.now).trees catalog_tree) c.args.made 0 c.args.numbers.now c.args.objects.now c.requires
    (λ at tree o is within found.
    let same : at ≡ tree = omega (arith, is) in
    subst (λ t. IsPlaced ((g.S.Store.view c.args.store.now).trees catalog_tree) c.args.made t (slice_index c.args.numbers.now at) o) same
    (c.loop-at.invariant clean sound rows at o (omega (arith, within, c.loop-at-test.false)) found))
    ∙ ap (λ n. listed_from 0 (map wanted_of (take n c.args.objects.now))) all
