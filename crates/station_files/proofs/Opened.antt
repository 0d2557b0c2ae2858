-- Files that are opened behind a call that read them.
use Rattle.station_files.proofs.Common.{BeginsWell, Bool, FileStore, Files, Ghosts, Image, IsKept, IsOurs, IsReadBy, IsTrue, IsUnopened, IsUnreadable, List, Object, Opens, PageMap, Recovers, RecoversAs, RecoversAs-from, Row, SeenMayStay, Wanted, adopts_of, ap, ap₂, arith, bytes_of, carried, cond-true, false, file_trees, image, image_of, inl, inr, kept_schema, no_doubt, no_trees, pair, plain_adopts, readable, settled, state, state_of, stays_something, stored_size, stored_used, subst, subst₂, sym, view, ∥∥₁_map, ◌%◌, ◌∙◌, ◌≡◌, ◌≢◌}
use Rattle.sqlite_pool.proofs.OpenLemmas.{Reopens-keeps}
use Rattle.sqlite_store.proofs.OpenLemmas.{opens_after}
use Rattle.sqlite_pool.specs.Stored.{Keeps}
use Rattle.sqlite_store.specs.FileStore.{IsReady}
use Rattle.sqlite_store.specs.Unopened.{IsCatalogOf}
use Rattle.sqlite_store.specs.declared.store.open.Unopened.{Unopened}
use Rattle.sqlite_wal.specs.State.{State}
use Rattle.station_files.specs.Opened.{AreKept}

module _ {D : Type 0} {g : Ghosts D} (old mid : Unopened D g) (new : State) (pages : PageMap) where
  -- both calls leave what they found
  pub opens_on : Recovers (state_of old).page_size (image old) pages → Recovers (state_of old).page_size (image mid) pages → Opens old (state_of mid) → Opens mid new → Opens old new
  opens_on before behind first second =
      let size = (state_of old).page_size in
      record {
        size = second.size ∙ first.size;
        counts = omega (arith, first.counts, second.counts);
        crash = λ left may.
            elim (second.crash left may).same [
              | inl was ↦ first.crash left was
              | inr same ↦ let now = carried size (image mid) left (subst (λ n. RecoversAs n (image mid) left) first.size same) pages behind in
                  record {
                    same = inr (RecoversAs-from size (image old) left pages before now);
                    unread = λ unreadable. absurd (readable size (image old) pages before unreadable);
                  }
            ];
      }

-- an opening that gave up leaves the files as the library's own opening does
module _ {D : Type 0} {g : Ghosts D} (files : Files D) (objects : List Object) (fresh : Unopened D g) (u : IsUnopened files objects fresh) (clean : IsTrue (state_of fresh).is_clean) (new : State) (kept : Opens fresh new) where
  pub kept_files : (left : Image) → new.may_leave left → IsKept g files new.page_size left
  kept_files left may =
      let start = image_of g files in
      let now = new.page_size in
      let sized : now ≡ bytes_of u.size = kept.size ∙ u.sized in
      let whole : stored_size now ≡ bytes_of u.size = ap stored_size sized ∙ stored_used u.size false in
      let well : BeginsWell (stored_size now) start = subst (λ n. BeginsWell n start) (sym whole) (u.begins clean) in
      let one = kept.crash left may in
      let plain : now % 16 ≢ 8 = λ h. omega (arith, u.size.aligned, h, sized) in
      let alike = λ (same : RecoversAs (state_of fresh).page_size (image fresh) left). subst₂ (λ n i. RecoversAs n i left) (sym kept.size) u.seen same in
      let stands = λ (same : RecoversAs (state_of fresh).page_size (image fresh) left). let now_alike = alike same in
      pair (inl now_alike) (λ pages found. adopts_of now left pages (carried now start left now_alike pages (plain_adopts now start pages plain found))) in
      let unread = λ (bad : IsUnreadable now start). u.left left (one.unread (subst₂ IsUnreadable kept.size (sym u.seen) bad)) in
      record {
        same = elim one.same [ inl was ↦ inl (u.left left was) | inr same ↦ inr (stands same) ];
        unread = unread;
        something = λ other. elim one.same [
          | inl was ↦ absurd (other (u.left left was))
          | inr same ↦ stays_something now start left (omega (arith, u.size.smallest, whole)) well (stands same) (λ bad. other (unread bad))
        ];
      }

  pub are_kept : (left : Unopened D g) → state_of left ≡ new → AreKept files left
  are_kept left is = record {
    honest = u.honest clean;
    sized = λ n held. u.only clean n held ∙ sym (ap (λ (s : State). s.page_size) is ∙ kept.size ∙ u.sized);
    left = λ image may. subst (λ (s : State). IsKept g files s.page_size image) (sym is) (kept_files image (subst (λ (s : State). s.may_leave image) is may));
  }

-- a store that was opened by a list of trees shows what the files recover to
module _ {D : Type 0} {g : Ghosts D} (files : Files D) (objects : List Object) (fresh : Unopened D g) (u : IsUnopened files objects fresh) (it : FileStore D g) (ready : IsReady it)
    (opens : Opens fresh (state it)) (found : Recovers (state_of fresh).page_size (image fresh) (state it).committed) (clean : IsTrue (state_of fresh).is_clean) (now : IsTrue (view it).is_clean) where
  pub read_by_store : (is_numbered : Bool) (wanted : List Wanted) → kept_schema it.saved it.schema.items ≡ wanted
      → (IsOurs (state it).page_size (view it).is_numbered (kept_schema it.saved it.schema.items) (state it).committed
      → IsOurs (state it).page_size is_numbered (kept_schema it.saved it.schema.items) (state it).committed) → IsReadBy files is_numbered wanted it
  read_by_store is_numbered wanted listing numbered =
      let is_open = ready.is_open (no_doubt _ now) in
      let sized : (state it).page_size ≡ bytes_of u.size = opens.size ∙ u.sized in
      record {
        honest = u.honest clean;
        is_open = is_open;
        size = bytes_of u.size;
        plain = λ h. omega (arith, u.size.aligned, h);
        found = subst₂ (λ n i. Recovers n i (state it).committed) u.sized u.seen found;
        ours = ∥∥₁_map (it.stored is_open) (λ s. subst₂ (λ n x. IsOurs n is_numbered x (state it).committed) sized listing (numbered s.ours));
        reads = ready.clean
            ∙ cond-true _ (file_trees (state it).page_size (kept_schema it.saved it.schema.items) (state it).committed) no_trees now
            ∙ ap₂ (λ n s. file_trees n s (state it).committed) sized listing;
        sized = u.only clean;
      }

-- a call that only reads, after the catalogue was read, leaves what both found
pub reads_on : {D : Type 0} {g : Ghosts D} → SeenMayStay g → (old mid : Unopened D g) (rows : List Row) (end : State) → Opens old (state_of mid) → IsCatalogOf old mid rows → Keeps (state_of mid) end
    → Opens old end
reads_on stays old mid rows end first cat keeps =
    opens_after old (state_of mid) end first (settled mid.pool stays cat.shows.clean.is_open)
    (subst (Recovers (state_of old).page_size (image old)) (sym cat.shows.committed) cat.found) (Reopens-keeps _ _ keeps)
