-- Files that are begun, opened and left.
use Rattle.std.specs.Prelude.{◌⊎◌, ℕ, IsTrue, ◌≡◌, ◌+◌, pos, Bool, true, not, ◌||◌, List, map, take, ◌<◌, ◌≤◌, length, slice_get, Some, false, Option}
use Rattle.station_files.specs.Common.{Ghosts, Files, outcomes, AreClean, Image, IsBlankFile, Trees, FileStore, recovers, view, state_of, IsFresh, image_of, HoldsDatabase, IsEmpty, Leftover, list_all, list_any, Row, column, bytes, same_name, has_rowid, Object, wanted_of, listed_from, rows_from, PageMap, Recovers, read_by, IsKept, doubt, IsClean, is_shielded, file_state, IsOpened, AreDatabases, Held, IsNew, State, HasCleanDisk, own_trees, AreLow, AllByRecursion, Index, shape_code, station_schema, file_trees, IsOurs, Wanted, over_files, IsOwn, as_numbered, Adopts, faults, state, IsQuiet, Unopened, Adopts}
use Rattle.sqlite.specs.declared.file.Leftover.TheVariants as left
use Rattle.sqlite_trees.specs.declared.store.Store as trees
use Rattle.sqlite.specs.Table.{Table}
use Rattle.station_files.specs.Listed.{FindsBy, HoldsOwn, HoldsPages, LeavesAs, IsReadBy}
use Rattle.station_files.specs.Others.{AreCalls, SameOthers}
use Rattle.station_files.specs.declared.own_trees.OwnTrees.{OwnTrees}

-- A database started in two files.

-- no database with pages of this size yet, or one without tables and rows
abbrev pub IsUnstarted : ℕ → Image → Type 0
IsUnstarted size image =
    IsBlankFile size image ⊎ ∥ ((db : Trees) × HoldsDatabase image db × IsEmpty db) ∥₁

module _ {D : Type 0} {g : Ghosts D} where
  -- The store over the two files is open, without tables and rows.
  pub record IsBegun (files : Files D) (it : FileStore D g) : Type 0 where
    pub honest : AreClean g files.log files.db
    pub fresh : IsFresh (view it)
    pub is_open : IsTrue (view it).is_open
    pub empty : IsEmpty (view it).trees

  -- Each crash state of the files now was one before, or has no database, or one without tables and
  -- rows. Files that weren't empty are unchanged.
  abbrev pub LeavesUnstarted : ℕ → Files D → Leftover D g → Type 0
  LeavesUnstarted size files (left.Files now) =
      (image : Image) → outcomes g now.log now.db image → outcomes g files.log files.db image
  LeavesUnstarted size files (left.Unopened now) =
      IsBlankFile size (image_of g files) × ((image : Image) → (state_of now).may_leave image
      → outcomes g files.log files.db image ⊎ IsUnstarted size image)
  LeavesUnstarted size files (left.Store now) =
      IsBlankFile size (image_of g files) × ((db : Trees) → recovers now db → IsEmpty db)

-- Trees of other programs besides those of a list.

abbrev pub is_one_of : List ℕ → Row → Bool
is_one_of numbers row = list_any (λ n. has_rowid (pos (n + 1)) row) numbers

-- the row lists a tree of a table of a list, or with one of its names, in any case
abbrev pub is_about : List Object → Row → Bool
is_about objects listed =
    list_any (λ (o : Object). same_name o.table.now (bytes (column listed 3)) || same_name o.name.now (bytes (column listed 2))) objects

-- it lists one of the trees with these numbers, or one that doesn't belong to a table of the list
abbrev pub is_known : List Object → List ℕ → Row → Bool
is_known objects numbers row = is_one_of numbers row || not (is_about objects row)

-- The rows list the first `made` objects under these numbers, in order, and none of the rest. Each
-- other tree belongs to another table than those of the list, and has another name.
pub record AreBeside (objects : List Object) (made : ℕ) (numbers : List ℕ) (rows : List Row) : Type 0 where
  pub lists : rows_from 0 numbers rows ≡ listed_from 0 (map wanted_of (take made objects))
  pub apart : list_all (is_known objects numbers) rows ≡ true

-- The two files after an opening that gave up.

module _ {D : Type 0} {g : Ghosts D} where
  -- Each crash state of the files now was one before, or recovers to the same pages. The files hold
  -- no pages of another size.
  pub record AreKept (files : Files D) (now : Unopened D g) : Type 0 where
    pub honest : AreClean g files.log files.db
    pub sized : (n : ℕ) → HoldsPages n (image_of g files) → n ≡ (state_of now).page_size
    pub left : (image : Image) → (state_of now).may_leave image
        → IsKept g files (state_of now).page_size image

  -- As before, or the files are kept. If the list of trees was accepted, each crash state reads like
  -- the files did by that list.
  abbrev pub SparesFiles : Files D → List Object → Leftover D g → Type 0
  SparesFiles files objects (left.Files now) =
      AreClean g files.log files.db × ((image : Image) → outcomes g now.log now.db image → outcomes g files.log files.db image)
  SparesFiles files objects (left.Unopened now) = AreKept files now
  SparesFiles files objects (left.Store now) =
      (db : Trees) → recovers now db → (size : ℕ) × (pages : PageMap)
      × Recovers size (image_of g files) pages × (db ≡ read_by size objects pages)

-- Connections to stores that were just opened, and what they return at the end.

module _ {D : Type 0} {g : Ghosts D} where
  -- the connection shows what the store did
  pub record IsOver (store : FileStore D g) (c : Held (FileStore D g)) : Type 0 where
    pub opens : HasCleanDisk (file_state c) → IsOpened c
    pub clean : doubt (view store).is_clean ≤ doubt (file_state c).is_clean
    pub shield : is_shielded store → (file_state c).IsShielded
    pub trees : HasCleanDisk (file_state c) → (file_state c).committed.trees ≡ (view store).trees
    pub sums : HasCleanDisk (file_state c) → (view c.store).has_sums ≡ (view store).has_sums
    pub fresh : IsNew c

module _ {S : Type 0} (g : trees.Ghosts S) where
  -- a database that a store may leave in its trees with these numbers
  abbrev pub recovers_own : S → List ℕ → Trees → Type 0
  recovers_own it numbers db = (whole : Trees) × g.recovers it whole × (db ≡ own_trees numbers whole)

  -- A store that a connection with this state to some trees returned: there is no new crash state of
  -- the trees, and each one is a database.
  pub record IsClosedOwn (s : State) (last : S) : Type 0 where
    pub numbers : List ℕ
    pub few : length numbers < 65536
    pub low : AreLow numbers
    pub clean : IsClean (g.view last) → HasCleanDisk s
    pub outcomes : (db : Trees) → recovers_own last numbers db → s.may_leave db
    pub sound : IsClean (g.view last) → AreDatabases (recovers_own last numbers)

  -- such a store also has the last commit, while it is open
  pub record IsInside (s : State) (last : S) : Type 0 where
    pub closed : IsClosedOwn s last
    pub committed : IsClean (g.view last) → IsTrue (g.view last).is_open
        → IsTrue s.is_open × (own_trees closed.numbers (g.view last).committed ≡ s.committed.trees)

-- A list of the trees of a station.

-- the name of an object, the code of its shape, and its REAL columns
abbrev pub name_of : Object → List ℕ × ℕ × ℕ
name_of o = (o.name.now, shape_code o.shape, o.reals)

-- the tree with this number is that of a table of this name, or of an index
abbrev pub ListsTable : List Object → Table → Type 0
ListsTable objects table = slice_get (map name_of objects) table.tree ≡ Some (table.name, 1, 0)

abbrev pub ListsIndex : List Object → Index → Type 0
ListsIndex objects index = slice_get (map name_of objects) index.tree ≡ Some (index.name, 2, 0)

-- The list names each table and each index of a station, in the order of their numbers, and nothing
-- else.
pub record ListsStation (objects : List Object) : Type 0 where
  pub tables : AllByRecursion (ListsTable objects) station_schema.tables
  pub indexes : AllByRecursion (ListsIndex objects) station_schema.indexes
  pub only : length objects ≡ length station_schema.tables + length station_schema.indexes

-- Files with trees of other programs besides those of a list.

-- The files recover to the pages of a sound file, which has the first `made` trees of a list and
-- trees of other tables. The last commit is what the pages mean, read for the trees of the list
-- alone. The files hold no other database with exactly these trees; if they are a station's, the
-- files hold no other database of a station.
pub record FindsOwn {D : Type 0} (g : Ghosts D) (files : Files D) (objects : List Object) (made : ℕ) (s : State) : Type 0 where
  pub by : FindsBy g files (take made objects) s
  pub wanted : List Wanted
  pub numbers : List ℕ
  pub beside : AreBeside objects made numbers (listed_from 0 wanted)
  pub ours : ∥ IsOurs by.size false wanted by.pages ∥₁
  pub holds_station : ListsStation (take made objects) → (db : Trees) → HoldsOwn (image_of g files) db → IsOwn db → s.committed.trees ≡ db

-- A crash leaves the files as they are read, as those that were just opened.
abbrev pub AreSettled : {D : Type 0} → Ghosts D → Files D → Type 0
AreSettled g files = (image : Image) → outcomes g files.log files.db image → image ≡ image_of g files

-- These are the same two files, still open, after an opening by a list refused them. Each crash state
-- was one before, or recovers to the same pages.
pub record WereRefused {D : Type 0} (g : Ghosts D) (files now : Files D) : Type 0 where
  pub honest : AreClean g now.log now.db → AreClean g files.log files.db
  pub kept : AreClean g now.log now.db → (image : Image) → outcomes g now.log now.db image
      → outcomes g files.log files.db image
      ⊎ ((n : ℕ) (held : HoldsPages n (image_of g files)) → Adopts n image held.pages)

-- The connection shows what the files hold, which an opening in order may have refused before.
pub record FindsBehind {D : Type 0} (g : Ghosts D) (files : Files D) (objects : List Object) (made : ℕ) (s : State) : Type 0 where
  pub now : Files D
  pub behind : (now ≡ files) ⊎ (AreSettled g files × WereRefused g files now)
  pub finds : FindsOwn g now objects made s

module _ {D : Type 0} {g : Ghosts D} where
  -- The store shows what the files recover to, read by some list of their trees.
  pub record IsReadByTheirs (files : Files D) (it : FileStore D g) : Type 0 where
    pub fresh : IsFresh (as_numbered (view it))
    pub wanted : List Wanted
    pub by : IsReadBy files false wanted it

  -- As `SparesFiles`. If the store was opened, it reads like the files did by a list of their
  -- trees, or its trees with some numbers read like the files did by this list.
  abbrev pub SparesOwn : Files D → List Object → Leftover D g → Type 0
  SparesOwn files objects (left.Files now) = SparesFiles {g = g} files objects (left.Files now)
  SparesOwn files objects (left.Unopened now) = SparesFiles {g = g} files objects (left.Unopened now)
  SparesOwn files objects (left.Store now) =
      (db : Trees) → recovers now db → (size : ℕ) × (pages : PageMap) × Recovers size (image_of g files) pages
      × (((wanted : List Wanted) × ∥ IsOurs size false wanted pages ∥₁ × (db ≡ file_trees size wanted pages))
      ⊎ ((numbers : List ℕ) × (own_trees numbers db ≡ read_by size objects pages)))

-- this holds for each store whose trees with some numbers are always a database, like those of a
-- connection
abbrev pub LeaveOwn : {D : Type 0} → Ghosts D → Type 0
LeaveOwn {D} g = (it : FileStore D g) (numbers : List ℕ) → length numbers < 65536
    → AreLow numbers → AreDatabases (recovers_own over_files it numbers)
    → LeavesAs it (recovers_own over_files it numbers) HoldsOwn

-- Files in which the trees of other programs stay as they were at an opening.

-- the files recover to these trees, read by some list of all of them
pub record HoldsTrees (image : Image) (db : Trees) : Type 0 where
  pub size : ℕ
  pub pages : PageMap
  pub wanted : List Wanted
  pub found : Adopts size image pages
  pub ours : ∥ IsOurs size false wanted pages ∥₁
  pub reads : db ≡ file_trees size wanted pages

-- both files hold the same rows in each tree without these numbers
pub record HaveSameOthers (numbers : List ℕ) (before after : Image) : Type 0 where
  pub was : Trees
  pub db : Trees
  pub held : HoldsTrees before was
  pub holds : HoldsTrees after db
  pub same : SameOthers numbers was db

-- A store that shows some trees was opened over files, and did some calls. Whatever the library did
-- next, a crash leaves the trees of other programs as they were in the files.
pub record CallsSpareOthers {D : Type 0} (g : Ghosts D)
    (own : trees.Ghosts (OwnTrees (FileStore D g) over_files)) : Type 0 where
  pub spared : (files : Files D) (first last : OwnTrees (FileStore D g) over_files)
      (calls : List (OwnTrees (FileStore D g) over_files × Option ℕ)) (it : FileStore D g)
      → IsReadByTheirs files first.store → AreCalls own first calls last
      → IsQuiet view faults recovers is_shielded last.store it → IsClean (view it)
      → (image : Image) → (state it).may_leave image
      → ∥ HaveSameOthers first.numbers.items (image_of g files) image ∥₁
