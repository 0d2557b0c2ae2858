-- Files read by a list of their trees.
use Rattle.std.specs.Prelude.{◌≡◌, ◌<◌, ℕ, false, List, [], length, map, IsTrue, ◌≢◌, ◌%◌, Bool, true}
use Rattle.station_files.specs.Common.{Ghosts, Files, outcomes, IsPageSize, AreClean, Image, PageMap, IsSoundFile, Adopts, Recovers, stored_size, catalog_tree, Trees, Object, Schema, IsSound, wanted_of, recovers, state, file_trees, listed_from, read_by, IsOurs, Wanted, FileStore, file_state, image_of, AreDatabases, Held, State, HasCleanDisk, own_trees, AreLow, bytes_of, PageSize, view, Describes, image, state_of, wanted_by, AreUsable, Unopened, IsFresh, BeginsWell}
use Rattle.sqlite_wal.specs.declared.error.Error.{Error}
use Rattle.sqlite_wal.specs.declared.error.Error.TheVariants as log

-- Files read by a list of trees, whatever the order in the files.

-- the files recover to the pages of a sound file, with pages of this size
pub record HoldsPages (size : ℕ) (image : Image) : Type 0 where
  pub valid : IsPageSize (stored_size size)
  pub pages : PageMap
  pub found : Adopts size image pages
  pub sound : IsSoundFile size pages

-- The files recover to the pages of a sound file of some trees, in any order. Read by the list of
-- these trees, and shown in this way, the pages are this database, which obeys its schema.
pub record HoldsShown (shows : Trees → Trees) (image : Image) (db : Trees) : Type 0 where
  pub size : ℕ
  pub valid : IsPageSize (stored_size size)
  pub pages : PageMap
  pub wanted : List Wanted
  pub schema : Schema
  pub found : Adopts size image pages
  pub ours : IsOurs size false wanted pages
  pub reads : db ≡ shows (file_trees size wanted pages)
  pub sound : IsSound schema db

-- read by the list, the pages are this database
abbrev pub HoldsByList : Image → Trees → Type 0
HoldsByList = HoldsShown (λ trees. trees)

-- read by the list, the trees with some numbers are this database
pub record HoldsOwn (image : Image) (db : Trees) : Type 0 where
  pub numbers : List ℕ
  pub few : length numbers < 65536
  pub low : AreLow numbers
  pub held : HoldsShown (own_trees numbers) image db

-- both files together hold the database in this way, and so does the database file without a log
pub record IsHeldAlone (holds : Image → Trees → Type 0) (image : Image) (db : Trees) : Type 0 where
  pub both : ∥ holds image db ∥₁
  pub alone : ∥ holds (record image { log = [] }) db ∥₁

-- the trees of a database are those of this list, in order
abbrev pub IsListedBy : List Object → Trees → Type 0
IsListedBy objects db = db catalog_tree ≡ listed_from 0 (map wanted_of objects)

-- The last commit is what the files recover to, read by a list of trees. The files hold no other
-- database with exactly these trees.
pub record FindsBy {D : Type 0} (g : Ghosts D) (files : Files D) (objects : List Object) (s : State) : Type 0 where
  pub honest : AreClean g files.log files.db
  pub size : ℕ
  pub pages : PageMap
  pub found : Recovers size (image_of g files) pages
  pub reads : s.committed.trees ≡ read_by size objects pages
  pub holds : (db : Trees) → HoldsByList (image_of g files) db → IsListedBy objects db
      → s.committed.trees ≡ db
  pub holds_own : (db : Trees) → HoldsOwn (image_of g files) db → IsListedBy objects db
      → s.committed.trees ≡ db

-- the last commit is in the database file, held in this way, now and after a crash
pub record IsCopiedAs {D : Type 0} (g : Ghosts D) (holds : Image → Trees → Type 0) (s : State) (files : Files D) : Type 0 where
  pub was_clean : HasCleanDisk s
  pub was_open : IsTrue s.is_open
  pub seen : IsHeldAlone holds (image_of g files) s.committed.trees
  pub left : (image : Image) → outcomes g files.log files.db image
      → IsHeldAlone holds image s.committed.trees

-- the files hold a database of exactly these trees, in this order, without checksums
pub record HoldsListed {D : Type 0} (g : Ghosts D) (files : Files D) (objects : List Object) : Type 0 where
  pub size : ℕ
  pub held : HoldsPages size (image_of g files)
  pub plain : size % 16 ≢ 8
  pub found : Recovers size (image_of g files) held.pages
  pub ours : IsOurs size true (map wanted_of objects) held.pages
  pub schema : Schema
  pub sound : IsSound schema (file_trees size (map wanted_of objects) held.pages)

-- an error of the log that isn't a failure of memory, of the disk or of its room
abbrev pub MayRefuse : Error → Type 0
MayRefuse (log.Io cause) = ⊥
MayRefuse log.OutOfMemory = ⊥
MayRefuse log.Full = ⊥
MayRefuse log.Closed = Unit {0}
MayRefuse log.NoSuchPage = Unit {0}
MayRefuse log.Corrupt = Unit {0}
MayRefuse log.Exists = Unit {0}

module _ {D : Type 0} {g : Ghosts D} where
  -- The connection shows what the files hold, read by a list of trees: all of it or some of its
  -- trees.
  pub record FindsByList (files : Files D) (objects : List Object) (c : Held (FileStore D g)) : Type 0 where
    pub by : FindsBy g files objects (file_state c)
    pub ours : ∥ IsOurs by.size false (map wanted_of objects) by.pages ∥₁

  -- each crash state of the files holds, in this way, one of these databases
  abbrev pub LeavesAs : FileStore D g → (Trees → Type 0) → (Image → Trees → Type 0) → Type 0
  LeavesAs it may holds = (image : Image) → (state it).may_leave image
      → ∥ ((db : Trees) × may db × holds image db) ∥₁

-- this holds for each store that leaves only databases, like that of a connection
abbrev pub LeaveByList : {D : Type 0} → Ghosts D → Type 0
LeaveByList {D} g = (it : FileStore D g) → AreDatabases (recovers it) → LeavesAs it (recovers it) HoldsByList

-- Files that are read by a list of their trees.

-- The store shows what the files recover to, read by this list of trees. If `is_numbered`, the files
-- list the trees in its order.
pub record IsReadBy {D : Type 0} {g : Ghosts D} (files : Files D) (is_numbered : Bool)
    (wanted : List Wanted) (it : FileStore D g) : Type 0 where
  pub honest : AreClean g files.log files.db
  pub is_open : IsTrue (view it).is_open
  pub size : ℕ
  pub plain : size % 16 ≢ 8
  pub found : Recovers size (image_of g files) (state it).committed
  pub ours : ∥ IsOurs size is_numbered wanted (state it).committed ∥₁
  pub reads : (view it).trees ≡ file_trees size wanted (state it).committed
  pub sized : (n : ℕ) → HoldsPages n (image_of g files) → n ≡ size

-- the same of a store that is numbered like the objects of its list
pub record IsReadByList {D : Type 0} {g : Ghosts D} (files : Files D) (objects : List Object)
    (it : FileStore D g) : Type 0 where
  pub fresh : IsFresh (view it)
  pub by : IsReadBy files true (map wanted_of objects) it

-- These are the files with a list of trees. They are read as they were, name the page size, and
-- begin like a database without checksums.
pub record IsUnopened {D : Type 0} {g : Ghosts D} (files : Files D) (objects : List Object)
    (it : Unopened D g) : Type 0 where
  pub usable : AreUsable it
  pub list : Describes (wanted_by it) objects
  pub seen : image it ≡ image_of g files
  pub left : (at : Image) → (state_of it).may_leave at → outcomes g files.log files.db at
  pub honest : IsTrue (state_of it).is_clean → AreClean g files.log files.db
  pub size : PageSize
  pub sized : (state_of it).page_size ≡ bytes_of size
  pub begins : IsTrue (state_of it).is_clean → BeginsWell (bytes_of size) (image_of g files)
  pub only : IsTrue (state_of it).is_clean → (n : ℕ) → HoldsPages n (image_of g files)
      → n ≡ bytes_of size
