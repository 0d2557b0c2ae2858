-- The two files behind a store, as contracts see them.
use Rattle.std.specs.Prelude.{◌≡◌, ◌⊎◌, IsTrue, Result, Ok, Err, IfErr, IfOk, List, length}
use Rattle.station_files.specs.Common.{IsCopied, file_state, image_of, Finds, IsClosed, Held, over_files, HasCleanDisk, IsLive, Ghosts, Files, FileStore, Trees, IsClean, Object, outcomes, AreClean, Image, IsOwn}
use Rattle.sqlite.specs.Held.{state}
use Rattle.sqlite_store.specs.FileStore as store
use Rattle.sqlite_trees.specs.declared.store.Store as trees
use Rattle.station_files.specs.Listed.{HoldsByList, HoldsOwn, IsCopiedAs}
use Rattle.station_files.specs.Opened.{IsClosedOwn, FindsBehind, ListsStation}

-- What a contract sees of the files behind a connection `C`. It ends with the closed files `F`, or
-- with a store `L` whose log wasn't copied.
pub record Backing (C F L : Type 0) : Type 1 where
  -- the disk returned what was written
  pub was_true : Result F L → Type 0
  -- the connection's last commit is in these files, now and after a crash
  pub copied : C → F → Type 0
  -- a crash of this store leaves only databases that the connection could leave
  pub left : C → L → Type 0
  -- this store was opened by a list in the order of its trees
  pub numbered : L → Type 0
  -- the possible contents of the files after the end, whether or not the power fails then
  pub may_hold : Result F L → F → Type 0
  -- the connection was opened over these files by a list of trees, and shows what they hold, a
  -- database
  pub finds : List Object → F → C → Type 0
  -- a list by which these files may be opened call after call
  pub lists : List Object → Type 0
  -- an opening shows all the trees of the files
  pub is_whole : Type 0

-- The end of a connection. Its last commit was copied, if the disk returned what was written; or a
-- store is left.
pub record HasEnded {C F L : Type 0} (b : Backing C F L) (conn : C) (end : Result F L) : Type 0 where
  pub copied : b.was_true end → IfOk end (b.copied conn)
  pub left : IfErr end (b.left conn)

-- A store that a connection gave back, without copying the log.
pub record IsGivenBack {C F L : Type 0} (b : Backing C F L) (conn : C) (it : L) : Type 0 where
  pub left : b.left conn it
  pub numbered : b.was_true (Err it) → b.numbered it

-- The files are shown whole, or each database that the connection may leave is a station's, or what
-- an opening by the list found.
abbrev pub LeavesKnown : {S F L : Type 0} → trees.Ghosts S → Backing (Held S) F L → List Object → Held S → Type 0
LeavesKnown {S} {F} g b objects conn = (db : Trees) → (state g conn).may_leave db
    → b.is_whole ⊎ (IsOwn db ⊎ ((files : F) × (was : Held S) × b.finds objects files was × (db ≡ (state g was).committed.trees)))

-- The next connection by the same list of trees shows a database, which this one could leave.
pub record LeadsOn {S F L : Type 0} (g : trees.Ghosts S) (b : Backing (Held S) F L) (objects : List Object) (conn : Held S)
    (end : Result F L) : Type 0 where
  pub clean : HasCleanDisk (state g conn)
  pub live : (files : F) (other : Held S) → b.finds objects files other → IsLive (state g other)
  pub next : LeavesKnown g b objects conn → (files : F) → b.may_hold end files → (other : Held S) → b.finds objects files other
      → ∥ (state g conn).may_leave (state g other).committed.trees ∥₁

-- this holds for each end of a connection, if the disk returned what was written
abbrev pub EndsLeadOn : {S F L : Type 0} → trees.Ghosts S → Backing (Held S) F L → Type 0
EndsLeadOn {S} {F} {L} g b =
    (objects : List Object) (conn : Held S) (end : Result F L) → b.lists objects → HasEnded b conn end → b.was_true end
    → IfErr end b.numbered → LeadsOn g b objects conn end

module _ {D : Type 0} (g : Ghosts D) where
  abbrev pub was_true_files : Result (Files D) (FileStore D g) → Type 0
  was_true_files (Ok files) = AreClean g files.log files.db
  was_true_files (Err it) = IsClean (store.view it)

  abbrev pub may_hold_image : Result (Files D) (FileStore D g) → Image → Type 0
  may_hold_image (Ok files) image = outcomes g files.log files.db image
  may_hold_image (Err it) image = (store.state it).may_leave image

  -- files that are shown whole: the library reads the last commit, and so does the list of trees
  abbrev pub whole_files : Backing (Held (FileStore D g)) (Files D) (FileStore D g)
  whole_files = record {
    was_true = was_true_files;
    copied = λ conn files. IsCopied conn files × IsCopiedAs g HoldsByList (file_state conn) files;
    left = λ conn it. IsClosed conn it;
    numbered = λ it. IsTrue (store.view it).is_numbered;
    may_hold = λ end files. may_hold_image end (image_of g files);
    finds = λ _ files conn. Finds files conn × IsLive (file_state conn);
    lists = λ _. Unit {0};
    is_whole = Unit {0};
  }

  -- files of which a store with these ghosts shows the trees of a list
  abbrev pub own_files : {S : Type 0} → trees.Ghosts S → Backing (Held S) (Files D) (FileStore D g)
  own_files shown = record {
    was_true = was_true_files;
    copied = λ conn files. IsCopiedAs g HoldsOwn (state shown conn) files;
    left = λ conn it. IsClosedOwn over_files (state shown conn) it;
    numbered = λ _. Unit {0};
    may_hold = λ end files. may_hold_image end (image_of g files);
    finds = λ objects files conn. FindsBehind g files objects (length objects) (state shown conn)
        × IsLive (state shown conn);
    lists = λ objects. ListsStation objects;
    is_whole = ⊥;
  }
