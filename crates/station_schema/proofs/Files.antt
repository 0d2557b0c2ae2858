-- A store in files lies in order, where the disk may show what it holds.
use Rattle.station_schema.proofs.Common.{IsListed, IsOrdered, IsOrdered-prop, IsTrue, LiesInOrder, List, catalog_tree, subst, ∥∥₁_elim, ◌≡◌}
use Rattle.sqlite_disk.specs.declared.Disk.{Ghosts}
use Rattle.sqlite_wal.proofs.LogLemmas.{SeenMayStay}
use Rattle.sqlite_wal.proofs.StateLemmas.{clean_of}
use Rattle.sqlite_pool.specs.StoredLaws.{recovers_once}
use Rattle.sqlite_pool.specs.File.{in_use}
use Rattle.sqlite_pool.proofs.StateLemmas.{settled}
use Rattle.sqlite_pages.specs.PageMap.{PageMap}
use Rattle.sqlite_store.specs.declared.catalog.Wanted.{Wanted}
use Rattle.sqlite_store.specs.declared.store.FileStore.{FileStore}
use Rattle.sqlite_store.specs.FileStore.{state, schema_in, schema_of, view}
use Rattle.sqlite_store.specs.Saved.{kept_schema}
use Rattle.sqlite_store.specs.Laws.{kept_by_cookie}
use Rattle.sqlite_store.specs.Listed.{catalog_rows, is_listed}
use Rattle.sqlite_store.specs.Listing.{all_shapes, file_trees, IsOurs}
use Rattle.sqlite_store.proofs.ListingLemmas.{all_ordered}
use Rattle.sqlite.specs.Files.{over_files}

module _ {D : Type 0} {g : Ghosts D} (stays : SeenMayStay g) (it : FileStore D g) (is_open : IsTrue (view it).is_open) where
  abbrev pages : PageMap
  pages = (state it).committed

  ordered_as : (schema : List Wanted) → IsOurs (state it).page_size it.is_numbered schema pages → IsOrdered (all_shapes schema) (file_trees (state it).page_size schema pages)
  ordered_as schema ours = all_ordered ours.file.db _

  in_order : IsOrdered (view it).committed_shape (view it).committed
  in_order = rw (clean_of (state it) is_open) (∥∥₁_elim it.safe (IsOrdered-prop _ _) (λ all.
      let s = settled it.pool stays is_open in
      let found = all s.some.0 s.some.1 in
      let same : found.0 ≡ pages = recovers_once _ s.some.0 _ _ found.1 (s.durable s.some.0 s.some.1) in
      ∥∥₁_elim found.2 (IsOrdered-prop _ _) (λ ours. ∥∥₁_elim (it.cookie is_open) (IsOrdered-prop _ _) (λ cookie.
      ordered_as (kept_schema it.saved (schema_of it))
      (subst (λ w. IsOurs (state it).page_size it.is_numbered w pages) (kept_by_cookie it.saved (schema_of it) pages cookie) (subst (λ p. IsOurs (state it).page_size it.is_numbered (schema_in it p) p) same ours))))))

  listed : IsListed ((view it).committed catalog_tree) (view it).committed_shape (view it).committed_reals
  listed = rw (clean_of (state it) is_open, catalog_rows (state it).page_size (kept_schema it.saved (schema_of it)) (in_use (state it).page_size pages)) (is_listed (kept_schema it.saved (schema_of it)))

pub files_lie_in_order : {D : Type 0} {g : Ghosts D} → SeenMayStay g → LiesInOrder (over_files {D = D} {g = g})
files_lie_in_order stays it is_open = (in_order stays it is_open, listed stays it is_open)
