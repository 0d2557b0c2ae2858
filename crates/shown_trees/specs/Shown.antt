-- The part of a store that is shown, if it has trees of other programs besides those of a list.
use Rattle.std.specs.Prelude.{◌≡◌, ◌⊎◌, ◌<◌, ℕ, ◌+◌, ◌==◌, pos, true, if◌then◌else◌, IsTrue, Bool, List, [], ◌∷◌, ◌++◌, length, map, find, nat_lt, slice_index, slice_index_or, Option, Some, None}
use Rattle.sqlite_trees.specs.Objects.{catalog_tree, version_tree, number_in, set_at, IsListed}
use Rattle.sqlite_trees.specs.Tree.{Trees, has_rowid}
use Rattle.sqlite_trees.specs.View.{Snapshot, View, IsClean}
use Rattle.sqlite_trees.specs.declared.store.Shape.{Shape}
use Rattle.sqlite_trees.specs.declared.store.Shape.TheVariants.{Absent, Table}
use Rattle.sqlite_value.specs.Order.{Row, column}
use Rattle.sqlite_value.specs.declared.value.Value.TheVariants.{Int}
use Rattle.shown_trees.specs.declared.layout.Layout.{Layout}

-- the same trees, numbered by the list by which the store was opened
abbrev pub as_numbered : View → View
as_numbered v = record v { is_numbered = true }

-- the row of a tree, under this number
abbrev pub renumbered : ℕ → Row → Row
renumbered tree listed =
    Int (pos (tree + 1)) ∷ column listed 1 ∷ column listed 2 ∷ column listed 3 ∷ column listed 4
    ∷ Int (pos (number_in (column listed 5))) ∷ Int (pos (number_in (column listed 6))) ∷ []

abbrev pub shown_row : ℕ → Option Row → List Row
shown_row tree None = []
shown_row tree (Some listed) = renumbered tree listed ∷ []

-- the rows of the trees with these numbers, numbered by their position from `tree` on
abbrev pub rows_from : ℕ → List ℕ → List Row → List Row
rows_from tree [] rows = []
rows_from tree (number ∷ numbers) rows =
    shown_row tree (find (has_rowid (pos (number + 1))) rows) ++ rows_from (tree + 1) numbers rows

-- the trees with these numbers, numbered by their position, and the rows that list them
abbrev pub own_trees : List ℕ → Trees → Trees
own_trees numbers trees t =
    if t == version_tree then trees t else if t == catalog_tree then rows_from 0 numbers (trees t)
    else if nat_lt t (length numbers) then trees (slice_index numbers t) else []

-- their shapes, and their REAL columns
abbrev pub own_shapes : List ℕ → (ℕ → Shape) → ℕ → Shape
own_shapes numbers shape = set_at (set_at (λ t. if nat_lt t (length numbers) then shape (slice_index numbers t) else Absent) catalog_tree Table) version_tree Table

abbrev pub own_reals : List ℕ → (ℕ → ℕ) → ℕ → ℕ
own_reals numbers reals = set_at (set_at (λ t. if nat_lt t (length numbers) then reals (slice_index numbers t) else 0) catalog_tree 0) version_tree 0

-- the shapes and the REAL columns of these layouts
abbrev pub shapes_by : List Layout → ℕ → Shape
shapes_by layouts = set_at (set_at (λ t. slice_index_or (map (λ (l : Layout). l.shape) layouts) t Absent) catalog_tree Table) version_tree Table

abbrev pub reals_by : List Layout → ℕ → ℕ
reals_by layouts = set_at (set_at (λ t. slice_index (map (λ (l : Layout). l.reals) layouts) t) catalog_tree 0) version_tree 0

abbrev pub own_snapshot : List ℕ → Snapshot → Snapshot
own_snapshot numbers s = record { trees = own_trees numbers s.trees; shape = own_shapes numbers s.shape; reals = own_reals numbers s.reals }

-- the view of a store's trees with these numbers, with their layouts now and at the last commit
abbrev pub own_view : List ℕ → List Layout → List Layout → View → View
own_view numbers layouts before v = record v {
  trees = own_trees numbers v.trees;
  committed = own_trees numbers v.committed;
  shape = shapes_by layouts;
  reals = reals_by layouts;
  committed_shape = shapes_by before;
  committed_reals = reals_by before;
  marks = map (own_snapshot numbers) v.marks;
  is_numbered = true;
}

-- a store's trees with these numbers have these layouts
pub record AreLaidOut (numbers : List ℕ) (layouts : List Layout) (shape : ℕ → Shape) (reals : ℕ → ℕ) : Type 0 where
  pub shaped : own_shapes numbers shape ≡ shapes_by layouts
  pub typed : own_reals numbers reals ≡ reals_by layouts

-- each number is less than those of the list and of the version
abbrev pub AreLow : List ℕ → Type 0
AreLow numbers = (t : ℕ) → t < length numbers → slice_index numbers t < 65536

-- fewer than 65536 numbers, which are low and different
pub record AreApart (numbers : List ℕ) : Type 0 where
  pub few : length numbers < 65536
  pub low : AreLow numbers
  pub apart : (s t : ℕ) → s < length numbers → t < length numbers → slice_index numbers s ≡ slice_index numbers t → s ≡ t

-- A store's trees with these numbers have these layouts, now and at the last commit. Their shapes
-- at the last commit follow from its list. Trees are made only in a numbered store.
pub record IsShown (numbers : List ℕ) (layouts before : List Layout) (makes : Bool) (v : View) : Type 0 where
  pub apart : AreApart numbers
  pub all : (length layouts ≡ length numbers) × (length before ≡ length numbers)
  pub numbered : IsTrue makes → IsClean v → IsTrue v.is_numbered
  pub now : IsClean v → AreLaidOut numbers layouts v.shape v.reals
  pub kept : IsClean v → AreLaidOut numbers before v.committed_shape v.committed_reals
  pub listed : IsClean v → IsTrue v.is_open → IsListed (v.committed catalog_tree) v.committed_shape v.committed_reals

-- the inner number of a tree that is shown, with the same layout
pub record IsNumberOf (numbers : List ℕ) (layouts : List Layout) (v : View) (tree number : ℕ) : Type 0 where
  pub low : tree < length numbers
  pub is : number ≡ slice_index numbers tree
  pub shaped : v.shape number ≡ shapes_by layouts tree
  pub typed : v.reals number ≡ reals_by layouts tree

-- the inner number of the tree that a call writes
abbrev pub number_inside : List ℕ → Option ℕ → Option ℕ
number_inside numbers None = None
number_inside numbers (Some tree) = Some (if tree == catalog_tree then tree else slice_index numbers tree)

-- the layouts after a rollback, which restores them unless the store is shut
abbrev pub GoBack : List Layout → List Layout → List Layout → View → Type 0
GoBack layouts before new v = ((new ≡ layouts) ⊎ (new ≡ before)) × (IsClean v → new ≡ (if v.is_broken then layouts else before))
