-- From the end of a connection to the next opening.
use Rattle.station_files.proofs.Common.{Err, FileStore, Files, Ghosts, Held, HoldsOwn, IfErr, IsListedBy, IsTrue, List, ListsStation, Object, Ok, Result, SeenMayStay, Trees, ap, arith, catalog_rows, catalog_tree, file_state, image_of, inl, inr, length, map, over_files, recovers, subst, sym, take, take-length, view, wanted_of, ∥∥₁_map, ◌∙◌, ◌≡◌}
use Rattle.sqlite.proofs.Theorems.{next_run}
use Rattle.sqlite.specs.Held.{state}
use Rattle.sqlite_trees.specs.declared.store.Store as trees
use Rattle.station_files.specs.Backing.{own_files, whole_files, HasEnded, LeadsOn, LeavesKnown}
use Rattle.station_files.proofs.OwnFiles.{leaves_own}
use Rattle.station_files.proofs.Ways.{own_behind}

-- files that are shown whole
module _ {D : Type 0} {g : Ghosts D} (stays : (it : FileStore D g) → IsTrue (view it).is_open → recovers it (view it).committed)
    (objects : List Object) (conn : Held (FileStore D g)) where
  pub whole_leads_on : (end : Result (Files D) (FileStore D g)) → HasEnded (whole_files g) conn end → (whole_files g).was_true end → IfErr end (whole_files g).numbered → LeadsOn over_files (whole_files g) objects conn end
  whole_leads_on (Ok files) ended honest none =
      let copied = (ended.copied honest).0 in
      record {
        clean = copied.was_clean;
        live = λ files other finds. finds.1;
        next = λ known files may other finds. ∥∥₁_map (copied.left _ may).both (λ held. subst (recovers conn.store) (sym (finds.0.holds _ held)) (stays conn.store copied.was_open));
      }
  whole_leads_on (Err it) ended honest numbered =
      let left = ended.left in
      record {
        clean = omega (arith, left.quiet.clean, honest);
        live = λ files other finds. finds.1;
        next = λ known files may other finds.
            ∥∥₁_map (next_run it numbered (left.sound honest) _ may (file_state other) (record { holds = finds.0.holds; reads = finds.0.reads })) (λ found. left.quiet.outcomes _ found);
      }

-- files of which only the trees of a list are shown
module _ {D S : Type 0} (g : Ghosts D) (seen : SeenMayStay g) (shown : trees.Ghosts S) (stays : (it : S) → IsTrue (shown.view it).is_open → shown.recovers it (shown.view it).committed)
    (objects : List Object) (conn : Held S) (lists : ListsStation objects) where
  abbrev objects_taken : List Object
  objects_taken = take (length objects) objects

  all_taken : objects ≡ objects_taken
  all_taken = sym (take-length objects)

  -- what an opening found is what the list names
  listed_by : (files : Files D) (was : Held S) → (own_files g shown).finds objects files was → IsListedBy objects_taken (state shown was).committed.trees
  listed_by files was finds = ap (λ (t : Trees). t catalog_tree) finds.0.finds.by.reads ∙ catalog_rows finds.0.finds.by.size (map wanted_of objects_taken) _

  found_again : LeavesKnown shown (own_files g shown) objects conn → (files : Files D) (other : Held S) → (own_files g shown).finds objects files other
      → (db : Trees) → HoldsOwn (image_of g files) db → (state shown conn).may_leave db → (state shown conn).may_leave (state shown other).committed.trees
  found_again known files other finds db held may = subst (state shown conn).may_leave (sym (elim (known db may) [
    | inl whole ↦ absurd whole
    | inr (inl own) ↦ finds.0.finds.holds_station (subst ListsStation all_taken lists) db (own_behind seen files objects _ _ finds.0 db held) own
    | inr (inr found) ↦ finds.0.finds.by.holds_own db (own_behind seen files objects _ _ finds.0 db held) (subst (IsListedBy objects_taken) (sym found.3) (listed_by found.0 found.1 found.2))
  ])) may

  pub own_leads_on : (end : Result (Files D) (FileStore D g)) → HasEnded (own_files g shown) conn end → (own_files g shown).was_true end → LeadsOn shown (own_files g shown) objects conn end
  own_leads_on (Ok files) ended honest =
      let copied = ended.copied honest in
      record {
        clean = copied.was_clean;
        live = λ files other finds. finds.1;
        next = λ known files may other finds. ∥∥₁_map (copied.left _ may).both (λ held. found_again known files other finds _ held (stays conn.store copied.was_open));
      }
  own_leads_on (Err it) ended honest =
      let left = ended.left in
      record {
        clean = left.clean honest;
        live = λ files other finds. finds.1;
        next = λ known files may other finds. ∥∥₁_map (leaves_own {g = g} it left.numbers left.few left.low (left.sound honest) _ may) (λ found.
            found_again known files other finds found.0 found.2 (left.outcomes found.0 found.1));
      }
