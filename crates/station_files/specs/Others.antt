-- The trees of other programs in a store of which some trees are shown.
use Rattle.std.specs.Prelude.{◌≡◌, ◌≢◌, ◌⊎◌, ◌<◌, ℕ, false, IsTrue, List, [], ◌∷◌, length, slice_index, Option}
use Rattle.station_files.specs.Common.{Has, catalog_tree, row_for, version_tree, Trees, Snapshot, View, IsClean}
use Rattle.sqlite_trees.specs.declared.store.Store.{Ghosts}

-- a tree that has none of these numbers, and is neither the list of all trees nor the version
pub record IsOther (numbers : List ℕ) (t : ℕ) : Type 0 where
  pub apart : (s : ℕ) → s < length numbers → slice_index numbers s ≢ t
  pub unlisting : t ≢ catalog_tree
  pub unversioned : t ≢ version_tree

-- each tree without these numbers has the same rows in both databases, and the same row lists it
pub record SameOthers (numbers : List ℕ) (was db : Trees) : Type 0 where
  pub rows : (t : ℕ) → IsOther numbers t → db t ≡ was t
  pub listed : (t : ℕ) → IsOther numbers t → row_for (db catalog_tree) t ≡ row_for (was catalog_tree) t

-- a database that a store shows, or can go back to
abbrev pub Shows : View → Trees → Type 0
Shows v db = ((v.is_broken ≡ false) × (db ≡ v.trees))
    ⊎ (IsTrue v.is_open × ((m : Snapshot) × Has v.marks m × (db ≡ m.trees)))

module _ {S : Type 0} (g : Ghosts S) where
  -- a database that a store shows, can go back to, or leaves after a crash
  abbrev pub MayShow : S → Trees → Type 0
  MayShow it db = Shows (g.view it) db ⊎ g.recovers it db

  -- A call leaves the trees without these numbers as they were: each database that the store may
  -- show next has those of one that it might show before.
  pub record SparesOthers (numbers : List ℕ) (old new : S) : Type 0 where
    pub clean : IsClean (g.view new) → IsClean (g.view old)
    pub others : IsClean (g.view new) → (db : Trees) → MayShow new db
        → (was : Trees) × MayShow old was × SameOthers numbers was db

  -- a store after some calls, each with the tree that it writes
  abbrev pub AreCalls : S → List (S × Option ℕ) → S → Type 0
  AreCalls old [] new = new ≡ old
  AreCalls old ((mid, tree) ∷ more) new = g.is_step old mid tree × AreCalls mid more new
