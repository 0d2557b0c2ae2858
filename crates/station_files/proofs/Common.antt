-- The names that proofs of this crate cite, passed on from one place. Declares nothing.
pub use Rattle.sqlite.proofs.FileLemmas.{reads_then, same_image, stays_something, stored_used, summed_used}
pub use Rattle.sqlite.proofs.OpenLemmas.{meets, pool_files, unsorted_code, unsorted_plain}
pub use Rattle.sqlite.specs.Files.{AreFound, BeginsWell, HoldsDatabase, IsEmpty, IsKept, file_state, image_of, over_files}
pub use Rattle.sqlite.specs.Held.{AreDatabases, Held}
pub use Rattle.sqlite_catalog.specs.Listing.{IsIndexRow, IsSound, IsTableRow, IsViewRow, Lists, is_index_row, is_table_row, is_view_row, unordered}
pub use Rattle.sqlite_disk.specs.declared.Disk.{Ghosts}
pub use Rattle.sqlite_disk.specs.declared.Files.{Files}
pub use Rattle.sqlite_pages.specs.PageMap.{PageMap}
pub use Rattle.sqlite_pool.proofs.ProbeLemmas.{reserved_word, size_by_file, size_by_log}
pub use Rattle.sqlite_pool.proofs.ResealLemmas.{adopts_of, plain_adopts}
pub use Rattle.sqlite_pool.proofs.StateLemmas.{clean_is, file_alone, may_leave_is, settled, size_is_allowed}
pub use Rattle.sqlite_pool.specs.File.{IsSoundFile, header_in, in_use, trunks_of, unlocked, version_in}
pub use Rattle.sqlite_pool.specs.Opening.{IsBlankFile, IsNew}
pub use Rattle.sqlite_pool.specs.Stored.{Adopts, IsUnreadable, Recovers, RecoversAs, is_summed, reserved, stored_size}
pub use Rattle.sqlite_pool.specs.StoredLaws.{RecoversAs-from, carried, readable, recovers_once, trimmed_whole}
pub use Rattle.sqlite_rules.proofs.ListLemmas.{all_has, has_at, has_either, has_filtered, has_front, has_kept, has_left, has_right, some_from, some_has, test_has}
pub use Rattle.sqlite_rules.specs.Lists.{Has}
pub use Rattle.sqlite_schema.specs.Rules.{index_reals, table_reals}
pub use Rattle.sqlite_store.proofs.StoreLemmas.{pair}
pub use Rattle.sqlite_store.specs.Catalog.{is_present, page_number, reals_at, root_in, same_value, shape_at, text_or_null, wanted_of}
pub use Rattle.sqlite_store.specs.Db.{IsFile, rows_at, shown, thawed}
pub use Rattle.sqlite_store.specs.FileStore.{log_frames, reading, recovers, schema_in, state, view}
pub use Rattle.sqlite_store.specs.Laws.{settled_at, shut_if_dirty_at, stays_at}
pub use Rattle.sqlite_store.specs.Listed.{catalog_rows, is_listed, same_listing}
pub use Rattle.sqlite_store.specs.Listing.{IsOurs, all_trees, file_trees, listed, listed_from, read_by, reals_if_present}
pub use Rattle.sqlite_store.specs.Saved.{kept_schema}
pub use Rattle.sqlite_store.specs.Unopened.{Opens, image, state_of}
pub use Rattle.sqlite_store.specs.declared.catalog.Wanted.{Wanted}
pub use Rattle.sqlite_store.specs.declared.store.FileStore.{FileStore}
pub use Rattle.sqlite_trees.proofs.Doubt.{no_doubt}
pub use Rattle.sqlite_trees.specs.Objects.{Creates, IsListed, catalog_tree, listing, number_in, object_row, row_for, set_at, shape_code, version_rows, version_tree, with_version}
pub use Rattle.sqlite_trees.specs.Tree.{Trees, has_rowid, insert_entry, no_trees, order_of, put_row, remove_entry, rowid, sought, with_tree, without_rowid}
pub use Rattle.sqlite_trees.specs.View.{Advances, Commits, GoesBack, IsClean, IsFailure, IsOrdered, IsQuiet, IsRolledBack, KeepsCommitted, Marks, Releases, SetsTree, Snapshot, View, doubt, newest, snapshot, with_cursor}
pub use Rattle.sqlite_trees.specs.declared.error.StoreError.{StoreError}
pub use Rattle.sqlite_trees.specs.declared.schema.Object.{Object}
pub use Rattle.sqlite_trees.specs.declared.store.Shape.TheVariants.{Absent, FrozenIndex, FrozenTable, Index, Pageless, Table}
pub use Rattle.sqlite_trees.specs.declared.store.Shape.{Shape}
pub use Rattle.sqlite_value.proofs.OrderLemmas.{value_cmp-Int, value_cmp-Text, value_cmp-apart, value_cmp_total}
pub use Rattle.sqlite_value.specs.Order.{Row, bytes, class, column, value_cmp}
pub use Rattle.sqlite_value.specs.declared.value.Value.TheVariants.{Blob, Int, Null, Real, Text}
pub use Rattle.sqlite_value.specs.declared.value.Value.{Value}
pub use Rattle.sqlite_wal.proofs.LogLemmas.{SeenMayStay}
pub use Rattle.sqlite_wal.proofs.StateLemmas.{clean_of, open_from}
pub use Rattle.sqlite_wal.specs.Files.{outcomes, seen_image}
pub use Rattle.sqlite_wal.specs.PageSize.{IsPageSize, Names, bytes_of, size_in_file}
pub use Rattle.sqlite_wal.specs.Reads.{AreClean, OnlyReads, are_clean}
pub use Rattle.sqlite_wal.specs.Recovery.{AreWhole, Image, IsIgnored}
pub use Rattle.station_files.specs.Opened.{AreBeside, is_known, recovers_own, FindsOwn, IsReadByTheirs, ListsIndex, ListsStation, ListsTable, name_of}
pub use Rattle.station_files.specs.Listed.{FindsBy, HoldsByList, HoldsOwn, HoldsPages, HoldsShown, IsCopiedAs, IsHeldAlone, IsListedBy, LeavesAs, IsReadBy, IsReadByList, IsUnopened}
pub use Rattle.station_files.specs.Others.{AreCalls, MayShow, SameOthers, Shows, SparesOthers}
pub use Rattle.shown_trees.specs.Shown.{AreApart, AreLaidOut, AreLow, GoBack, IsNumberOf, IsShown, own_reals, own_shapes, own_snapshot, own_trees, own_view, reals_by, renumbered, rows_from, shapes_by, shown_row}
pub use Rattle.shown_trees.proofs.Laws.{IsPast, all_past, id_below, kind_of, own_at, own_listed, own_ordered, own_past, own_values, value_at, value_past}
pub use Rattle.shown_trees.specs.declared.layout.Layout.{Layout}
pub use Rattle.station_schema.specs.Schema.{station_schema}
pub use Rattle.std.proofs.Common.{Bool, Equal, Err, Global, Greater, IfErr, IfSome, IsTrue, Less, List, None, Ok, OnOk, Option, Ordering, Result, Some, Vec, [], add-one, ap, append-nil, append_assoc, ap₂, arith, cond, drop, eq-eqb, eqb, eqb-true, false, find, get_or, if◌then◌else◌, inl, inr, is_eq, le-ltb, length, lt-ltb, ltb, ltb-false, ltb-true, map, nat_cmp, ne_eqb, not, option_map, pos, refl, rules, slice_get, slice_index, slice_index_or, subst, subst₂, suc, sym, take, true, true≢false, unwrap_or, w64, zero, ℕ, ℤ, ◌%◌, ◌&&◌, ◌++◌, ◌+◌, ◌-◌, ◌<◌, ◌||◌, ◌∙◌, ◌∷◌, ◌≡◌, ◌≢◌, ◌≤◌, ◌⊎◌}
pub use Rattle.std.proofs.Math.Logic.{∥∥₁_elim, ∥∥₁_map}
pub use Rattle.std.proofs.Math.Path.{fun_ext}
pub use Rattle.std.proofs.Math.Seq.{drop-cons, take-length}
pub use Rattle.std.proofs.lemmas.Bool.{and_parts, both_ways, cases_Bool, cases_eq, cond-true, or_cases}
pub use Rattle.std.proofs.lemmas.Int.{ints, to_z-of_z}
pub use Rattle.std.proofs.lemmas.List.{get_or_default, length-map, map-append, take-append-drop, take-map}
pub use Rattle.std.proofs.lemmas.Result.{IfOk-weaker, err_from_is_err_and, on_ok_weaker}
pub use Rattle.std.specs.Coded.{coded_list}
pub use Rattle.std.specs.List.{AllByRecursion, list_all, list_any}
