-- A store in memory lies in order.
use Rattle.station_schema.proofs.Common.{IsOrdered, IsShaped, IsShaped-prop, LiesInOrder, List, [], catalog_tree, false, if◌then◌else◌, map, over_memory, refl, suc, true, version_rows, version_tree, with_version, zero, ℕ, ∥∥₁_elim, ◌==◌, ◌∷◌}
use Rattle.sqlite_trees.specs.declared.memory.tree.Tree.{Tree}
use Rattle.sqlite_trees.specs.declared.store.Shape.TheVariants.{Table}
use Rattle.sqlite_trees.specs.Memory.{shape_of, rows_of, shapes, forest, objects_of, all_shapes, heading}
use Rattle.sqlite_trees.specs.Listing.{objects_are_ordered, objects_are_listed}

trees_are_ordered : (trees : List Tree) → IsOrdered (shape_of trees) (rows_of trees)
trees_are_ordered [] t = refl
trees_are_ordered (x ∷ trees) zero = ∥∥₁_elim x.ordered (IsShaped-prop x.shape x.rows.items) (λ h. h)
trees_are_ordered (x ∷ trees) (suc t) = trees_are_ordered trees t

forest_is_ordered : (trees : List Tree) (version : ℕ) → IsOrdered (all_shapes trees) (with_version (forest trees) version)
forest_is_ordered trees version t =
    let below : IsShaped (shapes trees t) (forest trees t) =
    elim (t == catalog_tree) as (λ b. IsShaped (if b then Table else shape_of trees t) (if b then objects_of trees else rows_of trees t))
    [ true ↦ objects_are_ordered (map heading trees) 0 | false ↦ trees_are_ordered trees t ] in
    elim (t == version_tree) as (λ b. IsShaped (if b then Table else shapes trees t) (if b then version_rows version else forest trees t))
    [ true ↦ ((tt, tt), (refl, tt)) | false ↦ below ]

-- a store in memory lies in order
pub memory_lies_in_order : LiesInOrder over_memory
memory_lies_in_order s is_open = (forest_is_ordered s.base.items s.base_version, objects_are_listed (map heading s.base.items))
