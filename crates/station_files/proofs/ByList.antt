-- What files hold by a list of their trees: found at an opening, left by a crash and by a close.
use Rattle.station_files.proofs.Common.{AreDatabases, Bool, FileStore, Files, Ghosts, Held, HoldsByList, HoldsDatabase, HoldsPages, HoldsShown, Image, IsCopiedAs, IsHeldAlone, IsIgnored, IsOurs, IsSound, LeavesAs, List, Names, Option, PageMap, Recovers, Some, Trees, Wanted, adopts_of, arith, bytes_of, cases_eq, false, file_state, file_trees, inl, inr, reading, recovers, refl, reserved, schema_in, size_by_file, size_by_log, size_in_file, size_is_allowed, state, stored_size, subst, sym, ℕ, ∥∥₁_elim, ∥∥₁_map, ◌≡◌, ◌≤◌}
use Rattle.std.specs.Prelude.{IsSome, None}
use Rattle.sqlite_wal.specs.Opening.{RefusesLog}
use Rattle.sqlite_wal.specs.Outcome.{HasCause}
use Rattle.sqlite_wal.specs.Recovery.{Replays}
use Rattle.sqlite_wal.specs.declared.error.Error.{Error}
use Rattle.sqlite_wal.specs.declared.error.Error.TheVariants as error
use Rattle.station_files.specs.Listed.{MayRefuse}
use Rattle.sqlite_schema.specs.declared.schema.Schema.{Schema}
use Rattle.sqlite_wal.specs.Format.{be32}
use Rattle.sqlite_wal.specs.declared.page_size.PageSize.{PageSize}
use Rattle.sqlite.specs.Closing.{HoldsAlone, IsCopied}

pub in_any_order : {size : ℕ} {is_numbered : Bool} {wanted : List Wanted} {pages : PageMap} → IsOurs size is_numbered wanted pages → IsOurs size false wanted pages
in_any_order ours = record { file = ours.file; numbered = λ never. absurd (cc) }

pub pages_of : (image : Image) (db : Trees) (held : HoldsDatabase image db) → HoldsPages held.0 image
pages_of image db held = record { valid = held.1; pages = held.2.pages; found = held.2.found; sound = held.2.ours.file.sound }

-- the probe finds the size of files with sound pages
module _ (image : Image) (found : Option PageSize) (by_log : ¬ IsIgnored image.log → Names found (be32 image.log 8)) (by_file : IsIgnored image.log → Names found (size_in_file image.db))
    (n : ℕ) (held : HoldsPages n image) where
  large : 504 ≤ n
  large = let few : reserved n ≤ 8 = grind arith in omega (arith, held.valid.0)

  names : ¬ (¬ Names found (stored_size n))
  names never =
      let read = λ (seen : ¬ IsIgnored image.log). never (subst (Names found) (size_by_log n image held.pages held.found seen) (by_log seen)) in
      read (λ ignored. never (subst (Names found) (size_by_file n image held.pages held.found large held.sound ignored) (by_file ignored)))

  pub probe_pages : (size : PageSize) → found ≡ Some size → stored_size n ≡ bytes_of size
  probe_pages size is = elim (cases_eq (stored_size n) (bytes_of size)) [ inl same ↦ same | inr other ↦ absurd (names (λ named. other (sym (rw is at named.1)))) ]

  pub not_named : found ≡ None → ⊥
  not_named none = names (λ named. let never = subst IsSome none (named.0.1 held.valid) in cc)

-- a log that the first page is read from is refused only if no frames of it count
pub refuses_pages : (e : Error) → MayRefuse e → (old new size : ℕ) (log : List ℕ) → HasCause old new (RefusesLog size log) e → (k : ℕ) → ¬ Replays size log k
refuses_pages (error.Io cause) may old new size log why k replays = absurd may
refuses_pages error.OutOfMemory may old new size log why k replays = absurd may
refuses_pages error.Full may old new size log why k replays = absurd may
refuses_pages error.Closed may old new size log why k replays = elim why [ inl a ↦ let h = a.0 in cc | inr b ↦ let h = b.0 in cc ]
refuses_pages error.NoSuchPage may old new size log why k replays = elim why [ inl a ↦ let h = a.0 in cc | inr b ↦ let h = b.0 in cc ]
refuses_pages error.Exists may old new size log why k replays = elim why [ inl a ↦ let h = a.0 in cc | inr b ↦ let h = b.0 in cc ]
refuses_pages error.Corrupt may old new size log why k replays = elim why [ inl a ↦ a.1 k replays | inr b ↦ let h = b.0 in cc ]

by_list_of : (image : Image) (db : Trees) → HoldsDatabase image db → HoldsByList image db
by_list_of image db held = record {
  size = held.0;
  valid = held.1;
  pages = held.2.pages;
  wanted = held.2.wanted;
  schema = held.2.schema;
  found = held.2.found;
  ours = in_any_order held.2.ours;
  reads = held.2.reads;
  sound = held.2.sound;
}

alone_by_list : (image : Image) (db : Trees) → HoldsAlone image db → IsHeldAlone HoldsByList image db
alone_by_list image db held = record { both = ∥∥₁_map held.both (λ h. by_list_of _ db h); alone = ∥∥₁_map held.alone (λ h. by_list_of _ db h) }

-- what the library reads of files that were closed, their list reads
pub copied_by_list : {D : Type 0} {g : Ghosts D} (c : Held (FileStore D g)) (files : Files D) → IsCopied c files → IsCopiedAs g HoldsByList (file_state c) files
copied_by_list c files copied = record {
  was_clean = copied.was_clean;
  was_open = copied.was_open;
  seen = alone_by_list _ _ copied.seen;
  left = λ image may. alone_by_list image _ (copied.left image may);
}

module _ {D : Type 0} {g : Ghosts D} (shows : Trees → Trees) (it : FileStore D g) where
  pub held_shown : {is_numbered : Bool} (left : Image) (pages : PageMap) (wanted : List Wanted) (db : Trees) → db ≡ shows (file_trees (state it).page_size wanted pages)
      → Recovers (state it).page_size left pages → ∥ IsOurs (state it).page_size is_numbered wanted pages ∥₁ → (schema : Schema) × IsSound schema db → ∥ HoldsShown shows left db ∥₁
  held_shown left pages wanted db reads found ours schema = ∥∥₁_elim (size_is_allowed it.pool) squash₁ (λ size. ∥∥₁_map ours (λ ours. let r : HoldsShown shows left db = record {
    size = (state it).page_size;
    valid = size;
    pages = pages;
    wanted = wanted;
    schema = schema.0;
    found = adopts_of _ left pages found;
    ours = in_any_order ours;
    reads = reads;
    sound = schema.1;
  } in r))

  abbrev may_show : Trees → Type 0
  may_show db = (whole : Trees) × recovers it whole × (db ≡ shows whole)

  -- each image that a crash may leave holds one of the databases that the store allows
  pub leaves_shown : AreDatabases may_show → LeavesAs it may_show (HoldsShown shows)
  leaves_shown sound left may = ∥∥₁_elim it.safe squash₁ (λ all.
      let found = all left may in
      let db = shows (reading it found.0) in
      let allowed : may_show db = (reading it found.0, (left, found.0, may, ∣ found.1 ∣₁, refl), refl) in
      ∥∥₁_map (held_shown left found.0 (schema_in it found.0) db refl found.1 found.2 (sound db allowed)) (λ held. let r : (x : Trees) × may_show x × HoldsShown shows left x = (db, allowed, held) in r))

pub leaves : {D : Type 0} {g : Ghosts D} (it : FileStore D g) → AreDatabases (recovers it) → LeavesAs it (recovers it) HoldsByList
leaves it sound left may =
    ∥∥₁_map (leaves_shown (λ trees. trees) it (λ db allowed. sound db (subst (recovers it) (sym allowed.2) allowed.1)) left may)
    (λ found. let r : (x : Trees) × recovers it x × HoldsByList left x = (found.0, subst (recovers it) (sym found.1.2) found.1.1, found.2) in r)
