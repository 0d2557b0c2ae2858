use Rattle.station_files.proofs.Common.{IsClean, Object, Some, catalog_tree, false, get_or, map, slice_get, take, ℕ, ◌<◌, ◌≡◌}
use Rattle.station_files.proofs.OwnListing.{IsPlaced}
use Rattle.station_files.proofs.own_listing.are_there.Given as goal

abbrev pub invariant-loop-at : goal.invariant-loop-at
invariant-loop-at g l =
    IsClean (g.S.Store.view l.store) → (g.S.Store.view l.store).is_broken ≡ false → l.rows ≡ map (take 5) ((g.S.Store.view l.store).trees catalog_tree)
    → (at : ℕ) (o : Object) → at < l.at → slice_get l.objects at ≡ Some o → IsPlaced ((g.S.Store.view l.store).trees catalog_tree) l.made at (get_or l.numbers at 0) o
