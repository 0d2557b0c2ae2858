-- A file of version 1 that was looked at, and its tables of version 2.
use Rattle.station_tables.proofs.Common.{AttachFault, Bool, Database, Err, First, FoundState, HasCleanDisk, IfErr, IfOk, IsBreakdown, IsFoundIn, IsJudged, IsOldOwn, IsOldStateIn, IsOldStation, IsOwn, IsSettled, IsTrue, IsUndone, Means, Ok, RefusesAs, Result, Some, State, Stops, Tables, Trees, Unfit, ap, arith, false, inl, inr, not, old_same_tables, old_tables_of, read_as, refl, subst, sym, tables_of, true, upgraded, ⊎_elim, ◌∙◌, ◌≡◌, ◌≢◌, ◌⊎◌}
use Rattle.sqlite.specs.State as sqlite
use Rattle.station_schema.specs.Schema.{station_schema}
use Rattle.table_load.specs.Upgrade.{IsUpgraded, MeansUpgraded}
use Rattle.station_tables.specs.Attached.{IsMigrated, HasMigrated}
use Rattle.station_tables.specs.declared.attaching.AttachFault.TheVariants as fault
use Rattle.station_tables.proofs.Attached.{means, is_lawful, in_state, old_breaks_down}
use Rattle.station_tables.proofs.Looked.{IsSeen, clean_before, either, survives_both, was_clean}

-- tables that are those of version 1 upgraded mean what a file of version 1 meant
same_meaning : (old : Database) (t : Tables) → IsOldStation old → t ≡ upgraded (old_tables_of old.trees) → (s : State) → IsOldStateIn old s → Means t (Some s)
same_meaning old t was is s in_ = subst (λ u. Means u (Some s)) (sym (is ∙ old_same_tables old in_.tables was in_.is_station)) (means (read_as First old) s in_)

pub migrated_by : (old : Database) (db : Trees) → IsOldStation old → MeansUpgraded old.trees db → IsMigrated old db
migrated_by old db was up = record { own = up.own; means = same_meaning old (tables_of db) was up.tables }

pub has_migrated : (old new : sqlite.State) → IsOldStation old.now → IsUpgraded old new → (IsTrue new.is_open → new.now.schema ≡ station_schema → IsOwn new.now.trees)
    → ((db : Trees) → IsTrue new.is_open → new.may_leave db → db ≡ new.committed.trees) → HasMigrated old.now new
has_migrated old new was up own alone =
    let same = same_meaning old.now (tables_of new.now.trees) was up.tables in
    record {
      is_open = up.is_open;
      settled = record { outside = up.outside; settled = λ _. sym up.settled };
      migrated = record { own = own up.is_open up.station.schema; means = same };
      kept = λ s in_. in_state new.now s up.station (record { means = same s in_ }) (is_lawful (read_as First old.now) s in_);
      alone = λ db left. alone db up.is_open left ∙ ap (λ (d : Database). d.trees) up.settled;
    }

-- nothing was written in between
pub left_of : (a d : sqlite.State) → sqlite.Survives a d (λ _. ⊥) → HasCleanDisk d → (db : Trees) → d.may_leave db → a.may_leave db
left_of a d first clean db left = either (first.crash clean db left)

-- the connection was looked at before: what it was is what it is
module _ {K C : Type 0} (at_ok : K → sqlite.State) (at_err : C → sqlite.State) (a d : sqlite.State) (judged : Result FoundState Unfit)
    (look : HasCleanDisk d → IsSeen a d × IsJudged (read_as First d.now) judged) where
  pub was_on : (r : Result K (C × AttachFault)) → IfOk r (λ k. HasCleanDisk (at_ok k) → HasCleanDisk d)
      → (IsJudged (read_as First d.now) judged → IfOk r (λ k. (s : State) × IsOldStateIn d.now s)) → IfOk r (λ k. HasCleanDisk (at_ok k) → (s : State) × IsOldStateIn a.now s)
  was_on (Ok k) clean was = λ on.
      let l = look (clean on) in
      let it = was l.1 in
      (it.0, subst (λ db. IsOldStateIn db it.0) l.0.same it.1)
  was_on (Err e) clean was = tt

  pub moved_on : (L : Type 0) (r : Result K (C × AttachFault)) → IfOk r (λ k. HasCleanDisk (at_ok k) → HasCleanDisk d)
      → IfOk r (λ k. HasCleanDisk (at_ok k) → IsOldStation d.now → HasMigrated d.now (at_ok k))
      → (IsOldOwn a.now.trees → IsTrue a.is_open → a.now ≡ a.committed → L → IsOldStation a.now)
      → IfOk r (λ k. HasCleanDisk (at_ok k) → IsOldOwn a.now.trees → L → HasMigrated a.now (at_ok k))
  moved_on L (Ok k) clean moved own = λ on is lies.
      let l = look (clean on) in
      let was = own is l.0.was_open l.0.was_at_rest lies in
      subst (λ db. HasMigrated db (at_ok k)) l.0.same (moved on (subst IsOldStation (sym l.0.same) was))
  moved_on L (Err e) clean moved own = tt

  pub refused_old : (r : Result K (C × AttachFault)) → (Commits : Trees → Type 0) → IfErr r (λ e. sqlite.Survives d (at_err e.0) Commits)
      → (IsJudged (read_as First d.now) judged → IfErr r (λ e. RefusesAs First d.now e.1)) → IfErr r (λ e. HasCleanDisk (at_err e.0) → RefusesAs First a.now e.1)
  refused_old (Ok k) Commits survives why = tt
  refused_old (Err e) Commits survives why = λ clean.
      let l = look (clean_before d (at_err e.0) Commits survives clean) in
      subst (λ db. RefusesAs First db e.1) l.0.same (why l.1)

  pub fit_old : (r : Result K (C × AttachFault)) → (Commits : Trees → Type 0) → IfErr r (λ e. sqlite.Survives d (at_err e.0) Commits)
      → (IsJudged (read_as First d.now) judged → IfErr r (λ e. RefusesAs First d.now e.1))
      → IfErr r (λ e. HasCleanDisk (at_err e.0) → (s : State) → IsOldStateIn a.now s → IsBreakdown e.1)
  fit_old (Ok k) Commits survives why = tt
  fit_old (Err e) Commits survives why = λ clean s in_.
      let l = look (clean_before d (at_err e.0) Commits survives clean) in
      old_breaks_down a.now s e.1 in_ (subst (λ db. RefusesAs First db e.1) l.0.same (why l.1))

  -- nothing is written to tables that weren't lawful ones of version 1
  pub only_old : sqlite.Survives a d (λ _. ⊥) → (r : Result K (C × AttachFault)) → (Commits : Trees → Type 0) → IfErr r (λ e. sqlite.Survives d (at_err e.0) Commits)
      → (IsJudged (read_as First d.now) judged → ¬ ((s : State) × IsOldStateIn d.now s) → IfErr r (λ e. sqlite.Survives d (at_err e.0) (λ _. ⊥)))
      → IfErr r (λ e. HasCleanDisk (at_err e.0) → ¬ ((s : State) × IsOldStateIn a.now s) → sqlite.Survives a (at_err e.0) (λ _. ⊥))
  only_old first (Ok k) Commits survives only = tt
  only_old first (Err e) Commits survives only = λ clean other.
      let l = look (clean_before d (at_err e.0) Commits survives clean) in
      survives_both a d (at_err e.0) first (only l.1 (λ it. other (it.0, subst (λ db. IsOldStateIn db it.0) l.0.same it.1)))

  -- and a crash leaves what it left, or the tables of version 2
  pub leaves_old : (L : Type 0) → sqlite.Survives a d (λ _. ⊥) → (IsOldOwn a.now.trees → IsTrue a.is_open → a.now ≡ a.committed → L → IsOldStation a.now)
      → (r : Result K (C × AttachFault)) → IfErr r (λ e. sqlite.Survives d (at_err e.0) (λ db. IsOldStation d.now → MeansUpgraded d.now.trees db))
      → IfErr r (λ e. HasCleanDisk (at_err e.0) → IsOldOwn a.now.trees → L → (db : Trees) → (at_err e.0).may_leave db → a.may_leave db ⊎ IsMigrated a.now db)
  leaves_old L first own (Ok k) survives = tt
  leaves_old L first own (Err e) survives = λ clean is lies db left.
      let on = clean_before d (at_err e.0) _ survives clean in
      let l = look on in
      let was = own is l.0.was_open l.0.was_at_rest lies in
      let was_d = subst IsOldStation (sym l.0.same) was in
      ⊎_elim
      (λ at_d. inl (left_of a d first on db at_d))
      (λ up. inr (subst (λ d_db. IsMigrated d_db db) l.0.same (migrated_by d.now db was_d (up was_d))))
      (survives.crash clean db left)

pub spares_old : {K C : Type 0} (at_err : C → sqlite.State) (a d : sqlite.State) → sqlite.Survives a d (λ _. ⊥) → (r : Result K (C × AttachFault))
    → IfErr r (λ e. (e.1 ≢ fault.Store) → sqlite.Survives d (at_err e.0) (λ _. ⊥)) → IfErr r (λ e. (e.1 ≢ fault.Store) → sqlite.Survives a (at_err e.0) (λ _. ⊥))
spares_old at_err a d first (Ok k) spares = tt
spares_old at_err a d first (Err e) spares = λ other. survives_both a d (at_err e.0) first (spares other)

-- what was found is the state that it had
pub found_was : {K E : Type 0} (db : Database) (found : FoundState) → IsFoundIn (read_as First db) found → (r : Result K E) → IfOk r (λ _. (s : State) × IsOldStateIn db s)
found_was db found at (Ok k) = (at.state, at.is_in)
found_was db found at (Err e) = tt

pub store_says : {K C : Type 0} (db : Database) (r : Result K (C × AttachFault)) → IfErr r (λ e. e.1 ≡ fault.Store) → IfErr r (λ e. RefusesAs First db e.1)
store_says db (Ok k) is = tt
store_says db (Err e) is = subst (RefusesAs First db) (sym is) tt

pub not_store : {K C : Type 0} (P : C → Type 0) (r : Result K (C × AttachFault)) → IfErr r (λ e. e.1 ≡ fault.Store) → IfErr r (λ e. (e.1 ≢ fault.Store) → P e.0)
not_store P (Ok k) is = tt
not_store P (Err e) is = λ other. absurd (other is)

-- a state was found, so there is one
pub found_only : (A : Type 0) (db : Database) (found : FoundState) → IsFoundIn (read_as First db) found → ¬ ((s : State) × IsOldStateIn db s) → A
found_only A db found at none = absurd (none (at.state, at.is_in))

-- a connection that nothing was done to
pub same_after : (s : sqlite.State) (Commits : Trees → Type 0) → sqlite.Survives s s Commits
same_after s Commits = record { clean = omega arith; shield = λ h. h; counts = omega arith; limit = refl; closes = λ clean is. inl is; crash = λ clean db left. inl left }

-- a connection that shows the last commit is back at it
pub undone_same : (s : sqlite.State) → IsSettled s → IsUndone s s
undone_same s rest = record { outside = rest.outside; was_open = λ is. is; committed = λ _. refl; now = rest.settled }

-- an error by which nothing was done, or a transaction was undone
pub undone_by : (a b : sqlite.State) → IsSettled a → Stops a b → IsUndone a b
undone_by a b rest (inl same) =
    let one = same.0 in
    record { outside = one.mode ∙ rest.outside; was_open = λ _. one.was_open; committed = λ _. one.committed_is; now = λ _. one.now_is ∙ rest.settled one.was_open }
undone_by a b rest (inr back) =
    record { outside = back.autocommit; was_open = back.was_open; committed = λ is. (back.undone is).1; now = λ is. (back.undone is).0 }

-- a connection outside a transaction shows the last commit
settled_outside : (a : sqlite.State) → (IsTrue a.is_open → a.now ≡ a.committed) → a.in_transaction ≡ false → IsSettled a
settled_outside a rest outside = record { outside = outside; settled = rest }

-- one that was seen to
pub settled_seen : (a d : sqlite.State) → IsSeen a d → IsSettled d
settled_seen a d seen = record { outside = seen.outside; settled = λ _. seen.rest }

-- what was undone behind a look is undone as it was before
undone_seen : (a d e : sqlite.State) → IsSeen a d → IsUndone d e → IsUndone a e
undone_seen a d e seen back =
    let last = sym seen.rest ∙ seen.same ∙ seen.was_at_rest in
    record { outside = back.outside; was_open = λ _. seen.was_open; committed = λ is. back.committed is ∙ last; now = λ is. back.now is ∙ last }

-- what was refused behind a look, with no fault of the store
pub unmoved_seen : {K C : Type 0} (at_err : C → sqlite.State) (a d : sqlite.State) → (HasCleanDisk d → IsSeen a d) → (r : Result K (C × AttachFault))
    → IfErr r (λ e. sqlite.Survives d (at_err e.0) (λ _. ⊥)) → IfErr r (λ e. (e.1 ≢ fault.Store) → IsSettled d → IsUndone d (at_err e.0))
    → IfErr r (λ e. HasCleanDisk (at_err e.0) → (e.1 ≢ fault.Store) → IsUndone a (at_err e.0))
unmoved_seen at_err a d look (Ok k) survives unmoved = tt
unmoved_seen at_err a d look (Err e) survives unmoved = λ clean other.
    let seen = look (was_clean d (at_err e.0) survives clean) in
    undone_seen a d (at_err e.0) seen (unmoved other (settled_seen a d seen))

-- a transaction is open, so nothing is said
pub none_open : {P : Type 0} (in_ auto : Bool) → auto ≡ not in_ → auto ≡ false → in_ ≡ false → P
none_open true auto says shut outside = absurd (cc)
none_open false auto says shut outside = absurd (cc)

module _ (a : sqlite.State) (rest : IsTrue a.is_open → a.now ≡ a.committed) (outside : a.in_transaction ≡ false) where
  -- a connection that serves no more
  pub undone_dead : (b : sqlite.State) → Stops a b → IsUndone a b
  undone_dead b stops = undone_by a b (settled_outside a rest outside) stops

  -- a read of it that failed
  pub undone_read : (b d : sqlite.State) → sqlite.IsUnchanged a b → Stops b d → IsUndone a d
  undone_read b d same (inl still) =
      let one = same.0 in
      let two = still.0 in
      record {
        outside = two.mode ∙ one.mode ∙ outside;
        was_open = λ _. one.was_open;
        committed = λ _. two.committed_is ∙ one.committed_is;
        now = λ _. two.now_is ∙ one.now_is ∙ rest one.was_open;
      }
  undone_read b d same (inr back) =
      let one = same.0 in
      record {
        outside = back.autocommit;
        was_open = λ _. one.was_open;
        committed = λ is. (back.undone is).1 ∙ one.committed_is;
        now = λ is. (back.undone is).0 ∙ one.committed_is;
      }

-- a file that was judged, and then upgraded or refused
module _ {K C : Type 0} (at_ok : K → sqlite.State) (at_err : C → sqlite.State) (a d : sqlite.State) (judged : Result FoundState Unfit)
    (look : HasCleanDisk d → IsSeen a d × IsJudged (read_as First d.now) judged) where
  pub clean_on : sqlite.Survives a d (λ _. ⊥) → (r : Result K (C × AttachFault)) → IfOk r (λ k. HasCleanDisk (at_ok k) → HasCleanDisk d)
      → IfOk r (λ k. HasCleanDisk (at_ok k) → HasCleanDisk a)
  clean_on first (Ok k) clean = λ on. was_clean a d first (clean on)
  clean_on first (Err e) clean = tt

  pub undone_on : (L : Type 0) → (IsOldOwn a.now.trees → IsTrue a.is_open → a.now ≡ a.committed → L → IsOldStation a.now)
      → (r : Result K (C × AttachFault)) → (Commits : Trees → Type 0) → IfErr r (λ e. sqlite.Survives d (at_err e.0) Commits)
      → IfErr r (λ e. HasCleanDisk (at_err e.0) → IsOldStation d.now → IsSettled d → IsUndone d (at_err e.0))
      → IfErr r (λ e. HasCleanDisk (at_err e.0) → IsOldOwn a.now.trees → L → IsUndone a (at_err e.0))
  undone_on L own (Ok k) Commits survives undone = tt
  undone_on L own (Err e) Commits survives undone = λ clean is lies.
      let l = look (clean_before d (at_err e.0) Commits survives clean) in
      let was = own is l.0.was_open l.0.was_at_rest lies in
      undone_seen a d (at_err e.0) l.0 (undone clean (subst IsOldStation (sym l.0.same) was) (settled_seen a d l.0))

  pub unmoved_on : (r : Result K (C × AttachFault)) → (Commits : Trees → Type 0) → IfErr r (λ e. sqlite.Survives d (at_err e.0) Commits)
      → IfErr r (λ e. (e.1 ≢ fault.Store) → IsSettled d → IsUndone d (at_err e.0))
      → IfErr r (λ e. HasCleanDisk (at_err e.0) → (e.1 ≢ fault.Store) → IsUndone a (at_err e.0))
  unmoved_on (Ok k) Commits survives unmoved = tt
  unmoved_on (Err e) Commits survives unmoved = λ clean other.
      let l = look (clean_before d (at_err e.0) Commits survives clean) in
      undone_seen a d (at_err e.0) l.0 (unmoved other (settled_seen a d l.0))
