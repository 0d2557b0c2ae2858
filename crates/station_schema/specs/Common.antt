-- The words of other crates that this crate's definitions and contracts cite, passed on from one
-- place. Declares nothing.
pub use Rattle.std.specs.Borrow.{Bor}
pub use Rattle.std.specs.FinMap.{FinMap, empty, from_entries, get, insert}
pub use Rattle.std.specs.List.{AllByRecursion, list_any}
pub use Rattle.std.specs.Ordering.{eq_by_cmp, int_cmp, int_eq}
pub use Rattle.std.specs.declared.cmp.Ordering.{Ordering}
pub use Rattle.row_sinks.specs.Handed.{HandedOut, Hands}
pub use Rattle.sqlite.specs.Collation.TheVariants.{Binary}
pub use Rattle.sqlite.specs.Effect.{Database}
pub use Rattle.sqlite.specs.Files.{over_files}
pub use Rattle.sqlite.specs.Given.{HasGiven, IsPlain}
pub use Rattle.sqlite.specs.Held.{Held, state}
pub use Rattle.sqlite.specs.Kind.{Kind}
pub use Rattle.sqlite.specs.Kind.TheVariants.{Integer}
pub use Rattle.sqlite.specs.Listing.{understood}
pub use Rattle.sqlite.specs.Order.{Row, column}
pub use Rattle.sqlite.specs.Schema.{Schema}
pub use Rattle.sqlite.specs.State.{Begins, CommitsShowing, HasCleanDisk, IsRolledBack, IsUnchanged, KeepsCommit, Shown, Shows, State, Survives}
pub use Rattle.sqlite.specs.Steps.{over_memory}
pub use Rattle.sqlite.specs.Table.{Table}
pub use Rattle.sqlite.specs.Tree.{IsAscending, Trees}
pub use Rattle.sqlite.specs.Values.{bound}
pub use Rattle.sqlite.specs.declared.error.Error.{Error}
pub use Rattle.sqlite.specs.declared.types.Value.TheVariants.{Int, Null, Text}
pub use Rattle.sqlite_catalog.specs.Listing.{IsSound}
pub use Rattle.sqlite_keyed.specs.Keyed.{IsKeyedBy, insert_by}
pub use Rattle.sqlite_keyed.specs.Lists.{update_where}
pub use Rattle.sqlite_schema.specs.Names.{index_named, table_named, view_named}
pub use Rattle.sqlite_schema.specs.declared.schema.Column.{Column}
pub use Rattle.sqlite_schema.specs.declared.schema.Index.{Index}
pub use Rattle.sqlite_trees.specs.Objects.{IsListed, catalog_tree}
pub use Rattle.sqlite_trees.specs.Props.{IsAscending-prop, rows_set}
pub use Rattle.sqlite_trees.specs.View.{IsOrdered}
pub use Rattle.sqlite_trees.specs.declared.store.Store.{Ghosts}
pub use Rattle.sqlite_typed.specs.Columns.{bytes_of, int_of}
pub use Rattle.sqlite_typed.specs.Tests.{bytes_cmp}
pub use Rattle.sqlite_value.specs.Keys.{plain}
