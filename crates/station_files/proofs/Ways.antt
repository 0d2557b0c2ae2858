-- Files that an opening by a list refused.
use Rattle.station_files.proofs.Common.{Adopts, Err, Files, HoldsOwn, Ghosts, HoldsPages, HoldsShown, IfErr, Image, IsKept, IsTrue, Object, Ok, Result, SeenMayStay, Trees, ap, own_trees, clean_is, image_of, inl, inr, may_leave_is, state_of, subst, sym, true≢false, ℕ, ◌∙◌, ◌≡◌}
use Rattle.std.specs.Prelude.{◌⊎◌, Bool, List, [], ◌∷◌, false, take, true}
use Rattle.sqlite.specs.Closing.{files_left}
use Rattle.sqlite.specs.Files.{IsCleanLeft}
use Rattle.sqlite.specs.declared.file.Leftover.{Leftover}
use Rattle.sqlite.specs.declared.file.Leftover.TheVariants as left
use Rattle.sqlite.specs.State.{State}
use Rattle.sqlite_store.specs.Unopened.{files_of}
use Rattle.sqlite_store.specs.declared.store.open.Unopened.{Unopened}
use Rattle.sqlite_wal.specs.Files.{outcomes}
use Rattle.sqlite_wal.specs.Reads.{AreClean, are_clean}
use Rattle.sqlite.specs.Files.{over_files}
use Rattle.sqlite.specs.Held.{Held}
use Rattle.sqlite_store.specs.declared.store.FileStore.{FileStore}
use Rattle.sqlite_trees.specs.declared.store.Store as trees
use Rattle.station_files.specs.Opened.{AreKept, AreSettled, FindsBehind, ListsStation, SparesFiles, WereRefused}
use Rattle.station_files.specs.Ways.{IsConnected, IsOpened, SparesAll, SparesStation, is_listed, tries}
use Rattle.station_files.specs.declared.made.Connected.{Connected}
use Rattle.station_files.specs.declared.made.Shown.{Shown}
use Rattle.station_files.specs.declared.made.Shown.TheVariants as shown
use Rattle.station_files.specs.declared.own_trees.OwnTrees.{OwnTrees}

pub err_then : {A E : Type 0} (r : Result A E) (P Q : E → Type 0) → ((e : E) → P e → Q e) → IfErr r P → IfErr r Q
err_then (Ok a) P Q more none = tt
err_then (Err e) P Q more is = more e is

module _ {D : Type 0} {g : Ghosts D} (files : Files D) where
  kept_pages : (size : ℕ) (image : Image) → ((n : ℕ) → HoldsPages n (image_of g files) → n ≡ size) → IsKept g files size image
      → outcomes g files.log files.db image ⊎ ((n : ℕ) (held : HoldsPages n (image_of g files)) → Adopts n image held.pages)
  kept_pages size image sized kept = elim kept.same [
    | inl was ↦ inl was
    | inr stands ↦ inr (λ n held. subst (λ m. Adopts m image held.pages) (sym (sized n held)) (stands.1 held.pages (subst (λ m. Adopts m (image_of g files) held.pages) (sized n held) held.found)))
  ]

  pub refused_unopened : (it : Unopened D g) (now : Files D) → (now.log, now.db) ≡ files_of it → (IsTrue (state_of it).is_clean → AreKept files it) → WereRefused g files now
  refused_unopened it now same kept =
      let clean_of : AreClean g now.log now.db → IsTrue (state_of it).is_clean = λ clean. clean_is it.pool ∙ sym (ap (λ f. are_clean g f.0 f.1) same) ∙ clean in
      record {
        honest = λ clean. (kept (clean_of clean)).honest;
        kept = λ clean image may.
            let k = kept (clean_of clean) in
            kept_pages (state_of it).page_size image k.sized
            (k.left image (may_leave_is it.pool image (subst (λ f. IsTrue (are_clean g f.0 f.1)) same clean) (subst (λ f. outcomes g f.0 f.1 image) same may)));
      }

  pub clean_left : (it : Leftover D g) (now : Files D) → is_listed it ≡ false → (now.log, now.db) ≡ files_left it → AreClean g now.log now.db → IsCleanLeft it
  clean_left (left.Files f) now none same clean = subst (λ p. IsTrue (are_clean g p.0 p.1)) same clean
  clean_left (left.Unopened it) now none same clean = clean_is it.pool ∙ sym (ap (λ f. are_clean g f.0 f.1) same) ∙ clean
  clean_left (left.Store it) now none same clean = absurd (true≢false none)

  pub refused_left : (objects : List Object) (it : Leftover D g) (now : Files D) → is_listed it ≡ false → (now.log, now.db) ≡ files_left it → (IsCleanLeft it → SparesFiles files objects it) → WereRefused g files now
  refused_left objects (left.Files f) now none same kept = record {
    honest = λ clean. (kept (subst (λ p. IsTrue (are_clean g p.0 p.1)) same clean)).0;
    kept = λ clean image may. inl ((kept (subst (λ p. IsTrue (are_clean g p.0 p.1)) same clean)).1 image (subst (λ p. outcomes g p.0 p.1 image) same may));
  }
  refused_left objects (left.Unopened it) now none same kept = refused_unopened it now same kept
  refused_left objects (left.Store it) now none same kept = absurd (true≢false none)

-- Files that are on the disk as they are read, as those just opened, hold the same databases behind
-- an opening that refused them.
module _ {D : Type 0} {g : Ghosts D} (stays : SeenMayStay g) (files now : Files D) (settled : AreSettled g files)
    (refused : WereRefused g files now) (clean : AreClean g now.log now.db) where
  pub holds_behind : (shows : Trees → Trees) (db : Trees) → HoldsShown shows (image_of g files) db → HoldsShown shows (image_of g now) db
  holds_behind shows db held = elim (refused.kept clean (image_of g now) (stays now.log, stays now.db)) [
    | inl was ↦ subst (λ i. HoldsShown shows i db) (sym (settled _ was)) held
    | inr alike ↦ record {
      size = held.size;
      valid = held.valid;
      pages = held.pages;
      wanted = held.wanted;
      schema = held.schema;
      found = alike held.size (record { valid = held.valid; pages = held.pages; found = held.found; sound = held.ours.file.sound });
      ours = held.ours;
      reads = held.reads;
      sound = held.sound;
    }
  ]

pub own_behind : {D : Type 0} {g : Ghosts D} (stays : SeenMayStay g) (files : Files D) (objects : List Object) (made : ℕ) (s : State) (f : FindsBehind g files objects made s) (db : Trees)
    → HoldsOwn (image_of g files) db → HoldsOwn (image_of g f.now) db
own_behind {g = g} stays files objects made s f db own = elim f.behind [
  | inl same ↦ subst (λ x. HoldsOwn (image_of g x) db) (sym same) own
  | inr again ↦ record { numbers = own.numbers; few = own.few; low = own.low; held = holds_behind stays files f.now again.0 again.1 f.finds.by.honest (own_trees own.numbers) db own.held }
]

-- From a try that found other trees to the next.
module _ {D : Type 0} {g : Ghosts D} (own : trees.Ghosts (OwnTrees (FileStore D g) over_files)) (files last : Files D) (objects : List Object) where
  abbrev AnyShown : Type 0
  AnyShown = Shown (Held (FileStore D g)) (Held (OwnTrees (FileStore D g) over_files)) (Files D)

  abbrev AnyConnected : Type 0
  AnyConnected = Connected (Held (FileStore D g)) (Held (OwnTrees (FileStore D g) over_files))

  pub next_way : (made : ℕ) (more : List ℕ) (it : AnyShown) (conn : AnyConnected) → it ≡ shown.Neither last → IsOpened own files objects made it → IsConnected own last objects more conn
      → IsConnected own files objects (made ∷ more) conn
  next_way made more it conn is opened rest = inr (last, subst (IsOpened own files objects made) is opened, rest)

  pub next_spared : (made : ℕ) (more : List ℕ) (it : AnyShown) (left : Leftover D g) → it ≡ shown.Neither last → IsOpened own files objects made it → SparesAll last objects more left
      → SparesAll files objects (made ∷ more) left
  next_spared made more it left is opened rest = inr (last, subst (IsOpened own files objects made) is opened, rest)

  pub upgrade_way : (is_upgrade : Bool) (it : AnyShown) (conn : AnyConnected) → is_upgrade ≡ true → ListsStation objects → it ≡ shown.Neither last → IsOpened own files objects 23 it
      → IsConnected own last objects (22 ∷ []) conn → (x : List Object) × ListsStation x × IsConnected own files x (tries is_upgrade) conn
  upgrade_way is_upgrade it conn on lists is opened rest =
      (objects, lists, subst (λ b. IsConnected own files objects (tries b) conn) (sym on) (next_way 23 (22 ∷ []) it conn is opened rest))

  pub upgrade_spared : (is_upgrade : Bool) (it : AnyShown) (left : Leftover D g) → is_upgrade ≡ true → ListsStation objects → it ≡ shown.Neither last → IsOpened own files objects 23 it
      → SparesAll last objects (22 ∷ []) left → (x : List Object) × ListsStation x × SparesAll files x (tries is_upgrade) left
  upgrade_spared is_upgrade it left on lists is opened rest =
      (objects, lists, subst (λ b. SparesAll files objects (tries b) left) (sym on) (next_spared 23 (22 ∷ []) it left is opened rest))

pub upgrade_failed : {D : Type 0} {g : Ghosts D} (files : Files D) (objects : List Object) (is_upgrade : Bool) (left : Leftover D g) → is_upgrade ≡ true
    → ListsStation objects → SparesStation files (take 23 objects) left → (x : List Object) × ListsStation x × SparesAll files x (tries is_upgrade) left
upgrade_failed files objects is_upgrade left on lists spared = (objects, lists, subst (λ b. SparesAll files objects (tries b) left) (sym on) (inl spared))
