-- The words of other crates that this crate's definitions and contracts cite, passed on from one
-- place. Declares nothing.
pub use Rattle.std.specs.List.{AllByRecursion, list_all, list_any}
pub use Rattle.shown_trees.specs.Shown.{AreApart, AreLaidOut, AreLow, GoBack, IsNumberOf, IsShown, as_numbered, number_inside, own_trees, own_view, renumbered, rows_from, shown_row}
pub use Rattle.sqlite.specs.Closing.{IsCopied}
pub use Rattle.sqlite.specs.Files.{BeginsWell, Finds, HoldsDatabase, IsCleanLeft, IsClosed, IsEmpty, IsKept, IsOpened, file_state, image_of, over_files}
pub use Rattle.sqlite.specs.Held.{AreDatabases, Held, IsNew}
pub use Rattle.sqlite.specs.State.{HasCleanDisk, IsLive, State}
pub use Rattle.sqlite.specs.Steps.{IsFresh}
pub use Rattle.sqlite.specs.declared.file.Leftover.{Leftover}
pub use Rattle.sqlite_catalog.specs.Listing.{IsSound}
pub use Rattle.sqlite_disk.specs.declared.Disk.{Ghosts}
pub use Rattle.sqlite_disk.specs.declared.Files.{Files}
pub use Rattle.sqlite_pages.specs.PageMap.{PageMap}
pub use Rattle.sqlite_pool.specs.File.{IsSoundFile}
pub use Rattle.sqlite_pool.specs.Opening.{IsBlankFile}
pub use Rattle.sqlite_pool.specs.Stored.{Adopts, Recovers, stored_size}
pub use Rattle.sqlite_rules.specs.Lists.{Has}
pub use Rattle.sqlite_schema.specs.declared.schema.Index.{Index}
pub use Rattle.sqlite_schema.specs.declared.schema.Schema.{Schema}
pub use Rattle.sqlite_store.specs.Catalog.{Describes, is_present, text_or_null, wanted_of}
pub use Rattle.sqlite_store.specs.FileStore.{IsReady, faults, is_shielded, recovers, state, view}
pub use Rattle.sqlite_store.specs.Listing.{IsOurs, file_trees, listed, listed_from, read_by}
pub use Rattle.sqlite_store.specs.Unopened.{AreUsable, Opens, files_of, image, state_of, wanted_by}
pub use Rattle.sqlite_store.specs.declared.catalog.Wanted.{Wanted}
pub use Rattle.sqlite_store.specs.declared.store.FileStore.{FileStore}
pub use Rattle.sqlite_store.specs.declared.store.open.Unopened.{Unopened}
pub use Rattle.sqlite_trees.specs.Objects.{catalog_tree, row_for, shape_code, version_tree}
pub use Rattle.sqlite_trees.specs.Sound.{same_name}
pub use Rattle.sqlite_trees.specs.Tree.{Trees, has_rowid}
pub use Rattle.sqlite_trees.specs.View.{IsClean, IsQuiet, Snapshot, View, doubt}
pub use Rattle.sqlite_trees.specs.declared.error.StoreError.TheVariants.{OutOfMemory}
pub use Rattle.sqlite_trees.specs.declared.schema.Object.{Object}
pub use Rattle.sqlite_trees.specs.declared.store.Shape.TheVariants.{Absent}
pub use Rattle.sqlite_value.specs.Order.{Row, bytes, column}
pub use Rattle.sqlite_value.specs.Value.{owned}
pub use Rattle.sqlite_value.specs.declared.value.Value.TheVariants.{Text}
pub use Rattle.sqlite_wal.specs.Files.{outcomes}
pub use Rattle.sqlite_wal.specs.PageSize.{IsPageSize, bytes_of}
pub use Rattle.sqlite_wal.specs.Reads.{AreClean, OnlyReads}
pub use Rattle.sqlite_wal.specs.Recovery.{Image}
pub use Rattle.sqlite_wal.specs.State.{IsShielded}
pub use Rattle.sqlite_wal.specs.declared.page_size.PageSize.{PageSize}
pub use Rattle.station_schema.specs.Connection.{IsOwn, LiesInOrder}
pub use Rattle.station_schema.specs.Schema.{station_schema}
