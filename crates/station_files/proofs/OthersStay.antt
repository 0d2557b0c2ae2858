-- Calls of a store leave the trees of other programs in its files as they were.
use Rattle.station_files.proofs.Common.{FileStore, Files, Ghosts, Has, IsReadByTheirs, List, MayShow, Option, SeenMayStay, Snapshot, SparesOthers, Trees, adopts_of, ap, arith, inl, inr, over_files, reading, recovers, refl, schema_in, settled_at, state, subst, sym, view, ℕ, ∥∥₁_elim, ∥∥₁_map, ◌∙◌, ◌≡◌}
use Rattle.sqlite_trees.specs.declared.store.Store as trees
use Rattle.station_files.specs.declared.own_trees.OwnTrees.{OwnTrees}
use Rattle.station_files.specs.Opened.{CallsSpareOthers}
use Rattle.station_files.proofs.ByList.{in_any_order}
use Rattle.station_files.proofs.Others.{calls_spare}

module _ {D : Type 0} (g : Ghosts D) (stays : SeenMayStay g) where
  -- a store that was just opened shows what it found, and a crash leaves it
  found_only : (files : Files D) (it : FileStore D g) → IsReadByTheirs files it → (db : Trees) → MayShow over_files it db → db ≡ (view it).trees
  found_only files it r db (inl (inl now)) = now.1
  found_only files it r db (inl (inr (on, m))) = absurd (subst (λ (ms : List Snapshot). Has ms m.0) r.fresh.unmarked m.1)
  found_only files it r db (inr left) = settled_at it stays db r.by.is_open left ∙ sym r.fresh.clean

  pub files_stay : (own : trees.Ghosts (OwnTrees (FileStore D g) over_files))
      → ((old new : OwnTrees (FileStore D g) over_files) (tree : Option ℕ) → own.is_step old new tree
      → SparesOthers over_files old.numbers.items old.store new.store × (new.numbers ≡ old.numbers)) → CallsSpareOthers g own
  files_stay own steps = record {
    spared = λ files first last calls it r are quiet clean image may. ∥∥₁_elim it.safe squash₁ (λ all.
        let found = all image may in
        let whole = reading it found.0 in
        let allowed : recovers it whole = (image, found.0, may, ∣ found.1 ∣₁, refl) in
        let spared = calls_spare over_files own (λ x. x.store) (λ x. x.numbers.items)
        (λ old new tree step. let one = steps old new tree step in (one.0, ap (λ n. n.items) one.1)) first calls last are in
        let was = spared.others (omega (arith, quiet.clean, clean)) whole (inr (quiet.outcomes whole allowed)) in
        ∣ record {
          was = was.0;
          db = whole;
          held = record {
            size = r.by.size;
            pages = (state first.store).committed;
            wanted = r.wanted;
            found = adopts_of r.by.size _ _ r.by.found;
            ours = r.by.ours;
            reads = found_only files first.store r was.0 was.1 ∙ r.by.reads;
          };
          holds = record {
            size = (state it).page_size;
            pages = found.0;
            wanted = schema_in it found.0;
            found = adopts_of _ image found.0 found.1;
            ours = ∥∥₁_map found.2 (λ ours. in_any_order ours);
            reads = refl;
          };
          same = was.2;
        } ∣₁);
  }
