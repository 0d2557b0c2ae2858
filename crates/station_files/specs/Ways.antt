-- Two files that are opened by the list of a station's trees: in order, or else among other trees;
-- and as the library does, if they have none of these.
use Rattle.std.specs.Prelude.{◌≡◌, ◌⊎◌, ℕ, Bool, true, false, List, [], ◌∷◌, length, take}
use Rattle.station_files.specs.Common.{AreClean, FileStore, Files, Finds, Ghosts, HasCleanDisk, Held, IsCleanLeft, IsLive, IsNew, Leftover, Object, file_state, over_files, view}
use Rattle.sqlite.specs.Closing.{files_left}
use Rattle.sqlite.specs.Files as whole
use Rattle.sqlite.specs.Held.{state}
use Rattle.sqlite.specs.State.{Opens as IsAtRest}
use Rattle.sqlite.specs.declared.file.Leftover.TheVariants as left
use Rattle.sqlite_trees.specs.declared.store.Store as trees
use Rattle.station_files.specs.Backing.{own_files, whole_files}
use Rattle.station_files.specs.Listed.{FindsByList, HoldsListed}
use Rattle.station_files.specs.Opened.{AreSettled, FindsOwn, SparesFiles, SparesOwn, WereRefused}
use Rattle.station_files.specs.declared.own_trees.OwnTrees.{OwnTrees}
use Rattle.station_files.specs.declared.made.Connected.{Connected}
use Rattle.station_files.specs.declared.made.Connected.TheVariants as connected
use Rattle.station_files.specs.declared.made.Shown.{Shown}
use Rattle.station_files.specs.declared.made.Shown.TheVariants as shown

module _ {D : Type 0} {g : Ghosts D} where
  -- the opening accepted the list of trees
  abbrev pub is_listed : Leftover D g → Bool
  is_listed (left.Files files) = false
  is_listed (left.Unopened files) = false
  is_listed (left.Store it) = true

  -- What is left of files that weren't opened, after the first try or the second.
  abbrev pub SparesStation : Files D → List Object → Leftover D g → Type 0
  SparesStation files objects left =
      (IsCleanLeft left → SparesFiles files objects left)
      ⊎ ((now : Files D) × WereRefused g files now × (IsCleanLeft left → SparesOwn now objects left))

  -- What is left of files with other trees, which the first try refused, or the second. They don't
  -- hold the list in order.
  abbrev pub RefusesStation : Files D → List Object → Leftover D g → Type 0
  RefusesStation files objects left =
      ((IsCleanLeft left → SparesFiles files objects left) × (IsCleanLeft left → ¬ HoldsListed g files objects))
      ⊎ ((now : Files D) × WereRefused g files now × (AreClean g now.log now.db → ¬ HoldsListed g files objects)
      × (IsCleanLeft left → SparesOwn now objects left))

-- these are the files with other trees, as the tries left them
abbrev pub AreOthers : {D : Type 0} → Ghosts D → Files D → List Object → Files D → Type 0
AreOthers {D} g files objects last =
    (left : Leftover D g) × ((last.log, last.db) ≡ files_left left) × RefusesStation files objects left

module _ {D : Type 0} {g : Ghosts D} where
  -- a connection to the whole file, whose list is in order
  pub record ShowsWhole (files : Files D) (objects : List Object) (c : Held (FileStore D g)) : Type 0 where
    pub fresh : IsNew c
    pub opened : HasCleanDisk (file_state c) → whole.IsOpened c
    pub found : HasCleanDisk (file_state c) → Finds files c
    pub by_list : HasCleanDisk (file_state c) → FindsByList files objects c
    pub plain : HasCleanDisk (file_state c) → (view c.store).has_sums ≡ false
    pub guarded : HasCleanDisk (file_state c) → (file_state c).IsShielded

  module _ (own : trees.Ghosts (OwnTrees (FileStore D g) over_files)) where
    -- a connection to the trees of the list
    pub record ShowsOwn (files : Files D) (objects : List Object) (made : ℕ) (c : Held (OwnTrees (FileStore D g) over_files)) : Type 0 where
      pub fresh : IsNew c
      pub opened : HasCleanDisk (state own c) → IsAtRest (state own c) × IsLive (state own c)
      pub found : HasCleanDisk (state own c) → FindsOwn g files objects made (state own c)
      pub plain : HasCleanDisk (state own c) → (own.view c.store).has_sums ≡ false
      pub guarded : HasCleanDisk (state own c) → (state own c).IsShielded

    -- The whole file is shown. Or its list isn't in order, and the trees of the list are shown; or
    -- these are the files of one that has other trees. If the disk failed, it is none of these.
    abbrev pub IsOpened : Files D → List Object → ℕ → Shown (Held (FileStore D g)) (Held (OwnTrees (FileStore D g) over_files)) (Files D) → Type 0
    IsOpened files objects made (shown.Whole c) = ShowsWhole files (take made objects) c
    IsOpened files objects made (shown.Beside c) =
        (now : Files D) × WereRefused g files now × (AreClean g now.log now.db → ¬ HoldsListed g files (take made objects)) × ShowsOwn now objects made c
    IsOpened files objects made (shown.Neither last) =
        AreOthers g files (take made objects) last

-- how many trees of the list each try of an opening takes: all 23, and for an upgrade then the 22 of
-- version 1
abbrev pub tries : Bool → List ℕ
tries false = 23 ∷ []
tries true = 23 ∷ 22 ∷ []

module _ {D : Type 0} {g : Ghosts D} where
  -- a connection to the whole file, whatever its trees
  pub record ShowsAny (files : Files D) (c : Held (FileStore D g)) : Type 0 where
    pub fresh : IsNew c
    pub opened : HasCleanDisk (file_state c) → whole.IsOpened c
    pub found : HasCleanDisk (file_state c) → Finds files c
    pub guarded : HasCleanDisk (file_state c) → (file_state c).IsShielded

  -- what is left of files that weren't opened, after one of these tries or after all of them
  abbrev pub SparesAll : Files D → List Object → List ℕ → Leftover D g → Type 0
  SparesAll files objects [] left = IsCleanLeft left → whole.LeavesFiles files left
  SparesAll files objects (made ∷ more) left =
      SparesStation files (take made objects) left
      ⊎ ((last : Files D) × AreOthers g files (take made objects) last × SparesAll last objects more left)

  module _ (own : trees.Ghosts (OwnTrees (FileStore D g) over_files)) where
    abbrev pub shown_as : Connected (Held (FileStore D g)) (Held (OwnTrees (FileStore D g) over_files))
        → Shown (Held (FileStore D g)) (Held (OwnTrees (FileStore D g) over_files)) (Files D)
    shown_as (connected.Whole c) = shown.Whole c
    shown_as (connected.Beside c) = shown.Beside c

    -- One of the tries shows the files, after those before it found other trees; or all of them did,
    -- and the library shows what they left.
    abbrev pub IsConnected : Files D → List Object → List ℕ → Connected (Held (FileStore D g)) (Held (OwnTrees (FileStore D g) over_files)) → Type 0
    IsConnected files objects [] (connected.Whole c) = ShowsAny files c
    IsConnected files objects [] (connected.Beside c) = ⊥
    IsConnected files objects (made ∷ more) it =
        IsOpened own files objects made (shown_as it)
        ⊎ ((last : Files D) × AreOthers g files (take made objects) last × IsConnected last objects more it)

    -- What an opening shows is what the calls over one file begin with, if the files were just opened.
    pub record OpensFind : Type 0 where
      pub whole : (files : Files D) (objects : List Object) (c : Held (FileStore D g)) → IsOpened own files objects (length objects) (shown.Whole c)
          → HasCleanDisk (file_state c) → IsAtRest (file_state c) × (whole_files g).finds objects files c
      pub beside : (files : Files D) (objects : List Object) (c : Held (OwnTrees (FileStore D g) over_files)) → AreSettled g files
          → IsConnected files objects (length objects ∷ []) (connected.Beside c) → HasCleanDisk (state own c) → IsAtRest (state own c) × (own_files g own).finds objects files c
