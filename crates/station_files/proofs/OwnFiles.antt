-- What files hold of the trees of a list: found at an opening, and left by a crash and by a close.
use Rattle.station_files.proofs.Common.{Adopts, AreBeside, AreClean, AreDatabases, AreLow, FileStore, Files, FindsBy, FindsOwn, Ghosts, HoldsByList, HoldsOwn, HoldsPages, HoldsShown, Image, IsFile, IsHeldAlone, IsListedBy, IsReadByTheirs, IsTrue, LeavesAs, List, Lists, ListsStation, Object, PageMap, Recovers, SeenMayStay, Trees, ap, ap₂, catalog_rows, catalog_tree, clean_of, coded_list, file_alone, file_trees, image_of, kept_schema, length, listed_from, log_frames, map, over_files, own_trees, plain_adopts, read_by, recovers_once, recovers_own, refl, rows_from, settled, state, station_schema, stays_at, subst, subst₂, sym, take, view, wanted_of, ℕ, ∥∥₁_elim, ∥∥₁_map, ◌%◌, ◌<◌, ◌∙◌, ◌≡◌, ◌≢◌}
use base.Stored.{Coded-set}
use Rattle.sqlite_value.specs.contracts.row.Row as row
use Rattle.sqlite.specs.State.{State}
use Rattle.station_schema.specs.Connection.{IsOwn}
use Rattle.station_files.proofs.ByList.{held_shown, leaves_shown}
use Rattle.station_files.proofs.OwnReading.{own_reading}
use Rattle.station_files.proofs.SameReading.{same_reading}
use Rattle.station_files.proofs.StationTrees.{same_rows}

-- what files with these pages hold by this list, all of it or some of its trees, is what the
-- pages read as by it
module _ (image : Image) (objects : List Object) (size : ℕ) (pages : PageMap) (plain : size % 16 ≢ 8) (found : Recovers size image pages)
    (sized : (n : ℕ) → HoldsPages n image → n ≡ size) where
  abbrev pub same_pages : {shows : Trees → Trees} {db : Trees} (held : HoldsShown shows image db) → (held.size ≡ size) × (held.pages ≡ pages)
  same_pages held =
      let same = sized held.size (record { valid = held.valid; pages = held.pages; found = held.found; sound = held.ours.file.sound }) in
      (same, recovers_once size image held.pages pages (plain_adopts size image held.pages plain (subst (λ n. Adopts n image held.pages) same held.found)) found)

  held_as : (shows : Trees → Trees) (db : Trees) (held : HoldsShown shows image db) → IsListedBy objects db
      → (shows (file_trees size held.wanted pages) catalog_tree ≡ listed_from 0 (map wanted_of objects) → shows (file_trees size held.wanted pages) ≡ read_by size objects pages)
      → read_by size objects pages ≡ db
  held_as shows db held listed alike =
      let same = same_pages held in
      let theirs = held.reads ∙ ap₂ (λ n found. shows (file_trees n held.wanted found)) same.0 same.1 in
      sym (theirs ∙ alike (sym (ap (λ (t : Trees). t catalog_tree) theirs) ∙ listed))

  pub held_by_list : (db : Trees) → HoldsByList image db → IsListedBy objects db → read_by size objects pages ≡ db
  held_by_list db held listed =
      held_as (λ trees. trees) db held listed (λ rows. same_reading size held.wanted (map wanted_of objects) pages (sym (catalog_rows size held.wanted _) ∙ rows))

  pub held_own : (db : Trees) → HoldsOwn image db → IsListedBy objects db → read_by size objects pages ≡ db
  held_own db own listed =
      let held = own.held in
      held_as (own_trees own.numbers) db held listed
      (λ rows. own_reading size own.numbers own.few own.low held.wanted (map wanted_of objects) pages (ap (rows_from 0 own.numbers) (sym (catalog_rows size held.wanted _)) ∙ rows))

  abbrev pub finds_by : {D : Type 0} (g : Ghosts D) (files : Files D) (s : State) → image ≡ image_of g files → AreClean g files.log files.db → s.committed.trees ≡ read_by size objects pages → FindsBy g files objects s
  finds_by g files s is honest reads = record {
    honest = honest;
    size = size;
    pages = pages;
    found = subst (λ i. Recovers size i pages) is found;
    reads = reads;
    holds = λ db held listed. reads ∙ held_by_list db (subst (λ i. HoldsByList i db) (sym is) held) listed;
    holds_own = λ db held listed. reads ∙ held_own db (subst (λ i. HoldsOwn i db) (sym is) held) listed;
  }

module _ {D : Type 0} {g : Ghosts D} (files : Files D) (objects : List Object) (made : ℕ) (it : FileStore D g) (r : IsReadByTheirs files it) (numbers : List ℕ) (few : length numbers < 65536)
    (low : AreLow numbers) (beside : AreBeside objects made numbers ((view it).trees catalog_tree)) where
  in_file : AreBeside objects made numbers (listed_from 0 r.wanted)
  in_file = subst (AreBeside objects made numbers) (ap (λ (t : Trees). t catalog_tree) r.by.reads ∙ catalog_rows r.by.size r.wanted _) beside

  pub reads_own : own_trees numbers (view it).trees ≡ read_by r.by.size (take made objects) (state it).committed
  reads_own = ap (own_trees numbers) r.by.reads ∙ own_reading r.by.size numbers few low r.wanted (map wanted_of (take made objects)) (state it).committed in_file.lists

  -- a database of a station has the trees of a list that names these
  station_listed : ListsStation (take made objects) → (db : Trees) (held : HoldsOwn (image_of g files) db) → IsOwn db → IsListedBy (take made objects) db
  station_listed names db its own =
      let size = r.by.size in
      let held = its.held in
      let same = same_pages (image_of g files) (take made objects) size (state it).committed r.by.plain r.by.found r.by.sized held in
      let theirs : IsFile size held.wanted (state it).committed = subst₂ (λ n p. IsFile n held.wanted p) same.0 same.1 held.ours.file in
      let listing : db catalog_tree ≡ rows_from 0 its.numbers (listed_from 0 held.wanted) =
      ap (λ (t : Trees). t catalog_tree) held.reads ∙ ap (rows_from 0 its.numbers) (catalog_rows held.size held.wanted _) in
      let sound = subst (λ rows. Lists rows station_schema) listing (subst (Lists (db catalog_tree)) (own.only held.schema held.sound) held.sound.lists) in
      ∥∥₁_elim r.by.ours (Coded-set (coded_list row.the_row.coded) _ _) (λ ours. listing ∙ same_rows size (state it).committed r.wanted held.wanted ours.file theirs (take made objects) names numbers its.numbers low its.low in_file.lists sound)

  pub finds_own : (s : State) → s.committed.trees ≡ own_trees numbers (view it).trees → FindsOwn g files objects made s
  finds_own s shown =
      let by = finds_by (image_of g files) (take made objects) r.by.size (state it).committed r.by.plain r.by.found r.by.sized g files s refl r.by.honest (shown ∙ reads_own) in
      record {
        by = by;
        wanted = r.wanted;
        numbers = numbers;
        beside = in_file;
        ours = r.by.ours;
        holds_station = λ names db held is. by.holds_own db held (station_listed names db held is);
      }

module _ {D : Type 0} {g : Ghosts D} (it : FileStore D g) (numbers : List ℕ) (few : length numbers < 65536) (low : AreLow numbers)
    (sound : AreDatabases (recovers_own over_files it numbers)) where
  as_own : {image : Image} {db : Trees} → HoldsShown (own_trees numbers) image db → HoldsOwn image db
  as_own held = record { numbers = numbers; few = few; low = low; held = held }

  -- each image that a crash may leave holds one of the databases that the store allows
  pub leaves_own : LeavesAs it (recovers_own over_files it numbers) HoldsOwn
  leaves_own left may =
      ∥∥₁_map (leaves_shown (own_trees numbers) it sound left may)
      (λ found. let r : (x : Trees) × recovers_own over_files it numbers x × HoldsOwn left x = (found.0, found.1, as_own found.2) in r)

  module _ (stays : SeenMayStay g) (is_open : IsTrue (view it).is_open) where
    holds_own : (left : Image) → Recovers (state it).page_size left (state it).committed → ∥ HoldsOwn left (own_trees numbers (view it).committed) ∥₁
    holds_own left found =
        let db = own_trees numbers (view it).committed in
        let reads : db ≡ own_trees numbers (file_trees (state it).page_size (kept_schema it.saved it.schema.items) (state it).committed) = rw (clean_of (state it) is_open) in
        ∥∥₁_map (held_shown (own_trees numbers) it left (state it).committed (kept_schema it.saved it.schema.items) db reads found
        (∥∥₁_map (it.stored is_open) (λ stored. stored.ours)) (sound db ((view it).committed, stays_at it stays is_open, refl))) (λ held. as_own held)

    -- with an empty log, each image that a crash may leave has the last commit in the database file
    pub copied_own : log_frames it ≡ 0 → (left : Image) → (state it).may_leave left → IsHeldAlone HoldsOwn left (own_trees numbers (view it).committed)
    copied_own empty left may = record {
      both = holds_own left ((settled it.pool stays is_open).durable left may);
      alone = holds_own _ (file_alone it.pool stays is_open empty left may);
    }
