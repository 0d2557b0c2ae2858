-- What a database that was only begun leaves of its files.
use Rattle.station_files.proofs.Common.{AreWhole, Files, Ghosts, HoldsDatabase, Image, IsBlankFile, IsEmpty, IsNew, IsOurs, IsPageSize, OnlyReads, PageMap, Recovers, Trees, [], adopts_of, all_trees, catalog_rows, file_trees, in_use, inl, inr, pair, refl, same_image, stored_size, subst, trimmed_whole, true, version_in, ℕ, ∥∥₁_map, ◌∙◌, ◌⊎◌}
use Rattle.sqlite_store.specs.Db.{trees_in}
use Rattle.sqlite_store.specs.Opening.{IsFresh}
use Rattle.sqlite_store.proofs.BuildLemmas.{new_is_empty}
use Rattle.sqlite_store.proofs.ListingLemmas.{past_version, named_tree}
use Rattle.sqlite.proofs.ListingLemmas.{empty_is_sound}
use Rattle.sqlite.specs.declared.file.Leftover.{Leftover}
use Rattle.sqlite.specs.declared.file.Leftover.TheVariants as rest
use Rattle.station_files.specs.Opened.{IsUnstarted, LeavesUnstarted}

empty_database : (size : ℕ) (image : Image) (pages : PageMap) → IsPageSize (stored_size size) → Recovers size image pages → IsOurs size true [] pages
    → (db : Trees) × HoldsDatabase image db × IsEmpty db
unfolding trees_in
empty_database size image pages valid found ours =
    let db = file_trees size [] pages in
    let unlisted = catalog_rows size [] (in_use size pages) in (
      db,
      (size, valid, record { pages = pages; wanted = []; schema = _; found = adopts_of size image pages found; ours = ours; reads = refl; sound = empty_is_sound db unlisted }),
      (λ tree low. past_version tree low (all_trees size [] (in_use size pages)) (version_in pages) ∙ named_tree tree low size [] (in_use size pages), unlisted),
    )

-- what `create` leaves on its way, with no tree asked for
pub unstarted : (size : ℕ) (image : Image) → IsPageSize (stored_size size)
    → IsBlankFile size image ⊎ ((pages : PageMap) × Recovers size image pages × (IsNew size pages ⊎ ∥ IsFresh size [] pages ∥₁))
    → IsUnstarted size image
unstarted size image valid (inl blank) = inl blank
unstarted size image valid (inr made) = inr (elim made.2 [
  | inl new ↦
      let whole : AreWhole size made.0 = subst (AreWhole size) made.1.shows (trimmed_whole size made.1.stored made.1.whole) in
      let empty = new_is_empty size made.0 whole new in
      ∣ empty_database size image made.0 valid made.1 (record { file = empty.0; numbered = λ _. record { listed = empty.1; spaced = refl; ordered = refl } }) ∣₁
  | inr fresh ↦ ∥∥₁_map fresh (λ it. empty_database size image made.0 valid made.1 it.0)
])

module _ {D : Type 0} {g : Ghosts D} where
  -- behind calls that only read
  pub unstarted_before : (size : ℕ) (files mid : Files D) (left : Leftover D g) → OnlyReads g files.log mid.log → OnlyReads g files.db mid.db
      → LeavesUnstarted size mid left → LeavesUnstarted size files left
  unstarted_before size files mid (rest.Files now) log db h = λ image may. let old = h image may in pair (log.crash _ old.0) (db.crash _ old.1)
  unstarted_before size files mid (rest.Unopened now) log db h = (
    subst (IsBlankFile size) (same_image log db) h.0,
    λ image may. elim (h.1 image may) [ inl old ↦ inl (pair (log.crash _ old.0) (db.crash _ old.1)) | inr way ↦ inr way ],
  )
  unstarted_before size files mid (rest.Store now) log db h = (subst (IsBlankFile size) (same_image log db) h.0, h.1)
