-- From what the tables of a store show to the state that they mean.
use Rattle.table_state.proofs.Common.{AreBoarded, AreKnown, Changes, Displays, Err, Finds, HasOpen, HaveAsked, HaveSpans, IfGivenBack, IfOk, IsCounted, IsShowing, KnownCounts, Knows, List, MayCommit, Means, Ok, OnErr, OnOk, OpenLines, Option, Reads, ReadsAtRest, Result, Seen, Shows, ShowsStill, Some, Stands, State, Storing, Survives, TableState, Tables, View, WasOpen, at_rest, false, in_tables, inl, inr, refl, running, same_meaning, subst, sym, true, ℕ, ⊎_elim, ◌∙◌, ◌≡◌, ◌⊎◌}
use Rattle.station_schema.specs.Store as row
use Rattle.row_codec.specs.declared.known.KnownSums.{KnownSums}
use Rattle.station_rows.specs.Shown as rows
use Rattle.state_store.specs.Store.{inside}
use Rattle.table_state.specs.declared.flown.Missed.{Missed}

-- what is said of each answer of a call is said of its result
pub of_answer : {X E : Type 0} (Q : X → Type 0) (r : Result X E) → ((x : X) → r ≡ Ok x → Q x) → IfOk r Q
of_answer Q (Ok x) so = so x refl
of_answer Q (Err e) so = tt

-- what follows from an answer follows if the call is answered
pub on_answer : {X E A B C : Type 0} (r : Result X E) → ((A → B) → C) → (A → OnOk r B) → OnOk r C
on_answer (Ok x) so done = so done
on_answer (Err e) so done = tt

answered : {X E A : Type 0} (r : Result X E) → A → OnOk r A
answered (Ok x) a = a
answered (Err e) a = tt

-- what a view shows
abbrev pub seen_in : View → row.Seen
seen_in v = record { now = v.now; committed = v.committed; in_transaction = v.in_transaction }

displays : (v : View) → v.is_open ≡ true → Displays v (seen_in v)
displays v up = record { is_open = up; now_is = refl; committed_is = refl; mode = refl }

-- the crash clauses

pub finds_on : (old new : View) → row.Survives old new → new.IsSound → (found : Option State) → Finds new found → Finds old found
finds_on old new survives sound found finds = record { tables = finds.tables; left = survives.crash sound finds.tables finds.left; means = finds.means }

-- what an open store gives back when its transaction is undone
pub given_back : (old new : View) (here : List ℕ) (counted : KnownCounts) (confirmed : ℕ) (x : Seen) → Shows old here counted confirmed x → (new.IsSound → old.IsSound)
    → (new.IsSound → new.is_open ≡ true → row.Shows old new old.committed old.committed false) → IfGivenBack new x.committed
given_back old new here counted confirmed x was down undone sound up =
    let d = undone sound up in
    let stands = (was (down sound)).holds.stands d.was_open in
    (d.mode, subst (λ t. Means t (Some x.committed)) (sym d.now_is) stands.committed)

pub may_find_on : (old new : View) (here : List ℕ) (counted : KnownCounts) (confirmed : ℕ) (before s : State)
    → Shows old here counted confirmed (inside before s) → MayCommit old new → new.IsSound → (found : Option State) → Finds new found → Finds old found ⊎ (found ≡ Some s)
may_find_on old new here counted confirmed before s was may sound found finds =
    let h = (was (may.sound sound)).holds in
    ⊎_elim
    (λ left. inl (record { tables = finds.tables; left = left; means = finds.means }))
    (λ e. inr (same_meaning old.now s found (h.stands (h.inside refl)).now (subst (λ t. Means t found) e finds.means)))
    (may.crash sound finds.tables finds.left)

-- another number that is kept
pub keeps_number : (v : View) (here : List ℕ) (counted : KnownCounts) (confirmed : ℕ) (x : Seen) → Shows v here counted confirmed x → (later : KnownCounts) → later.sizes ≡ counted.sizes → (v.IsSound → IsCounted later x.now.cargo.book x.now.cargo.expected x.now.cargo.declared x.now.cargo.outbox) → Shows v here later confirmed x
keeps_number v here counted confirmed x was later same number sound =
    let k = was sound in
    record {
      holds = k.holds;
      knows = record { here_is = k.knows.here_is; sizes_are = same ∙ k.knows.sizes_are; confirmed_is = k.knows.confirmed_is };
      kept = number sound;
    }

module _ (old new : View) (here : List ℕ) (counted : KnownCounts) (confirmed : ℕ) where
  stands_on : (x : Seen) → Stands old x → new.now ≡ old.now → new.committed ≡ old.committed → new.in_transaction ≡ old.in_transaction → Stands new x
  stands_on x m now committed mode = record {
    mode = mode ∙ m.mode;
    rest = λ e. now ∙ m.rest e ∙ sym committed;
    now = subst (λ t. Means t (Some x.now)) (sym now) m.now;
    committed = subst (λ t. Means t (Some x.committed)) (sym committed) m.committed;
  }

  -- a read that was answered
  pub reads_on : (x : Seen) → Shows old here counted confirmed x → row.Survives old new → ((seen : row.Seen) → IsShowing old seen → IsShowing new seen) → (new.IsSound → old.is_open ≡ true) → Shows new here counted confirmed x
  reads_on x was survives same up sound =
      let k = was (survives.sound sound) in
      let d : Displays new (seen_in old) = same (seen_in old) (λ _. displays old (up sound)) sound in
      record {
        holds = record {
          inside = λ _. d.is_open;
          stands = λ _. stands_on x (k.holds.stands (up sound)) d.now_is d.committed_is d.mode;
          found = λ t left. k.holds.found t (survives.crash sound t left);
        };
        knows = k.knows;
        kept = k.kept;
      }

  -- the same of what it returned
  pub reads_so : {X E : Type 0} (r : Result X E) (x : Seen) → Shows old here counted confirmed x → row.Survives old new → ShowsStill old new r → WasOpen old new r → OnOk r (Shows new here counted confirmed x)
  reads_so (Ok a) x was survives same up = reads_on x was survives same up
  reads_so (Err e) x was survives same up = tt

  -- a read between two transactions, whatever it answered
  pub rests_on : (s : State) → Shows old here counted confirmed (at_rest s) → row.Survives old new → (new.IsSound → row.Rests old new) → Shows new here counted confirmed (at_rest s)
  rests_on s was survives rests sound =
      let k = was (survives.sound sound) in
      let r = rests sound in
      record {
        holds = record {
          inside = λ e. absurd (cc);
          stands = λ up.
              let m = k.holds.stands (r.was_open up) in
              let step = r.same (record { mode = m.mode; same = m.rest refl }) up in
              stands_on (at_rest s) m step.now_is step.committed_is step.mode;
          found = λ t left. k.holds.found t (survives.crash sound t left);
        };
        knows = k.knows;
        kept = k.kept;
      }

  pub begins : {X E : Type 0} (r : Result X E) (s : State) → Shows old here counted confirmed (at_rest s) → row.Survives old new → OnOk r (new.IsSound → row.Shows old new old.now old.committed true) → OnOk r (Shows new here counted confirmed (inside s s))
  begins (Ok a) s was survives ok = λ sound.
      let k = was (survives.sound sound) in
      let step = ok sound in
      let m = k.holds.stands step.was_open in
      record {
        holds = record {
          inside = λ _. step.is_open;
          stands = λ _. record {
            mode = step.mode;
            rest = λ e. absurd (cc);
            now = subst (λ t. Means t (Some s)) (sym step.now_is) m.now;
            committed = subst (λ t. Means t (Some s)) (sym step.committed_is) m.committed;
          };
          found = λ t left. k.holds.found t (survives.crash sound t left);
        };
        knows = record { here_is = k.knows.here_is; sizes_are = k.knows.sizes_are; confirmed_is = k.knows.confirmed_is };
        kept = k.kept;
      }
  begins (Err e) s was survives ok = tt

  pub commits : (before s : State) → Shows old here counted confirmed (inside before s) → (new.IsSound → old.IsSound) → (new.IsSound → row.Shows old new old.now old.now false)
      → ((t : Tables) → new.is_open ≡ true → new.IsSound → new.may_leave t → t ≡ new.committed) → Shows new here counted confirmed (at_rest s)
  commits before s was down ok settled sound =
      let k = was (down sound) in
      let step = ok sound in
      let m = k.holds.stands step.was_open in
      let after : Means new.committed (Some s) = subst (λ t. Means t (Some s)) (sym step.committed_is) m.now in
      record {
        holds = record {
          inside = λ e. absurd (cc);
          stands = λ _. record {
            mode = step.mode;
            rest = λ _. step.now_is ∙ sym step.committed_is;
            now = subst (λ t. Means t (Some s)) (sym step.now_is) m.now;
            committed = after;
          };
          found = λ t left. subst (λ u. Means u (Some s)) (sym (settled t step.is_open sound left)) after;
        };
        knows = record { here_is = k.knows.here_is; sizes_are = k.knows.sizes_are; confirmed_is = k.knows.confirmed_is };
        kept = k.kept;
      }

  -- in a transaction the tables became others
  pub reached : (change : Tables → Tables) (later : KnownCounts) (confirmed_then : ℕ) (before s after : State) → Shows old here counted confirmed (inside before s) → row.Survives old new
      → (new.IsSound → Displays new (row.inside old.committed (change old.now)))
      → (new.IsSound → Means old.now (Some s) → Means (change old.now) (Some after))
      → (Knows here counted.sizes confirmed (inside before s) → Knows here later.sizes confirmed_then (inside before after))
      → (IsCounted counted s.cargo.book s.cargo.expected s.cargo.declared s.cargo.outbox → IsCounted later after.cargo.book after.cargo.expected after.cargo.declared after.cargo.outbox)
      → Shows new here later confirmed_then (inside before after)
  reached change later confirmed_then before s after was survives shown means knows kept sound =
      let k = was (survives.sound sound) in
      let m = k.holds.stands (k.holds.inside refl) in
      let d = shown sound in
      record {
        holds = record {
          inside = λ _. d.is_open;
          stands = λ _. record {
            mode = d.mode;
            rest = λ e. absurd (cc);
            now = subst (λ t. Means t (Some after)) (sym d.now_is) (means sound m.now);
            committed = subst (λ t. Means t (Some before)) (sym d.committed_is) m.committed;
          };
          found = λ t left. k.holds.found t (survives.crash sound t left);
        };
        knows = knows k.knows;
        kept = kept k.kept;
      }

  -- one change of the tables
  pub writes_on : (change : Tables → Tables) (later : KnownCounts) (confirmed_then : ℕ) (before s after : State) → Shows old here counted confirmed (inside before s) → row.Survives old new
      → (IsShowing old (row.inside old.committed old.now) → IsShowing new (row.inside old.committed (change old.now)))
      → (new.IsSound → Means old.now (Some s) → Means (change old.now) (Some after))
      → (Knows here counted.sizes confirmed (inside before s) → Knows here later.sizes confirmed_then (inside before after))
      → (IsCounted counted s.cargo.book s.cargo.expected s.cargo.declared s.cargo.outbox → IsCounted later after.cargo.book after.cargo.expected after.cargo.declared after.cargo.outbox)
      → Shows new here later confirmed_then (inside before after)
  writes_on change later confirmed_then before s after was survives done =
      reached change later confirmed_then before s after was survives (λ sound.
      let k = was (survives.sound sound) in
      let up = k.holds.inside refl in
      done (λ _. record { is_open = up; now_is = refl; committed_is = refl; mode = (k.holds.stands up).mode }) sound)

  -- what a read of an open store returned
  pub told : (P : Tables → Type 0) (x : Seen) → Shows old here counted confirmed x → row.Survives old new → (IsShowing old (seen_in old) → new.IsSound → P old.now) → (new.IsSound → old.is_open ≡ true) → new.IsSound → P old.now × Means old.now (Some x.now)
  told P x was survives tells up sound = (tells (λ _. displays old (up sound)) sound, ((was (survives.sound sound)).holds.stands (up sound)).now)

-- the same of a state in tables

pub survives_so : {S : Type 0} (view : S → View) (old new : TableState S) → row.Survives (view old.store) (view new.store) → Survives (in_tables view) old new
survives_so view old new survives = record {
  clean = survives.clean;
  still = survives.still;
  sound = survives.sound;
  leaves = λ sound found finds. finds_on (view old.store) (view new.store) survives sound found finds;
}

-- a write
pub writes_so : {S E : Type 0} (view : S → View) (old new : TableState S) (r : Result (Unit {0}) E) (change : State → State) → row.Survives (view old.store) (view new.store)
    → ((before s : State) → (in_tables view).shows old (inside before s) → OnOk r ((in_tables view).shows new (inside before (change s)))) → Changes (in_tables view) old new r change
writes_so view old new r change survives done = record { done = done; survives = survives_so view old new survives }

-- after a read of the store, with what is kept beside it from then on
abbrev after : {S : Type 0} → TableState S → S → KnownCounts → Missed → TableState S
after old store counted missed = record old { store = store; counted = counted; missed = missed }

module _ {S A E : Type 0} (view : S → View) (old : TableState S) (store : S) where
  -- what was read is said of the tables, which mean the state
  pub counted_by : {X F : Type 0} {found : X} {P : Tables → X → Type 0} (later : KnownCounts) (missed : Missed) (r : Result A E) (Is : State → A → Type 0) → later.sizes ≡ old.counted.sizes → rows.Reads {E = F} (view old.store) (view store) (Ok found) P
      → ((s : State) → Means (view old.store).now (Some s) → P (view old.store).now found → IsCounted old.counted s.cargo.book s.cargo.expected s.cargo.declared s.cargo.outbox → IsCounted later s.cargo.book s.cargo.expected s.cargo.declared s.cargo.outbox)
      → ((s : State) → Means (view old.store).now (Some s) → P (view old.store).now found → IfOk r (Is s))
      → Reads (in_tables view) old (after old store later missed) r Is
  counted_by {found = found} {P = P} later missed r Is sizes read kept value = record {
    value = λ x shown sound. let t = tells x shown sound in value x.now t.1 t.0;
    same = λ x shown. answered r (keeps x shown (reads_on (view old.store) (view store) old.here old.counted old.confirmed x shown read.survives read.same read.was_open));
    rests = λ s shown. at_rest_then s shown (rests_on (view old.store) (view store) old.here old.counted old.confirmed s shown read.survives read.rests);
    survives = survives_so view old (after old store later missed) read.survives;
  }
    where
      tells : (x : Seen) → (in_tables view).shows old x → (view store).IsSound → P (view old.store).now found × Means (view old.store).now (Some x.now)
      tells x shown = told (view old.store) (view store) old.here old.counted old.confirmed (λ t. P t found) x shown read.survives (read.read (seen_in (view old.store))) read.was_open

      keeps : (x : Seen) → (in_tables view).shows old x → Shows (view store) old.here old.counted old.confirmed x → Shows (view store) old.here later old.confirmed x
      keeps x shown now = keeps_number (view store) old.here old.counted old.confirmed x now later sizes (λ sound. let t = tells x shown sound in kept x.now t.1 t.0 (now sound).kept)

      at_rest_then : (s : State) → (in_tables view).shows old (at_rest s) → Shows (view store) old.here old.counted old.confirmed (at_rest s) → Shows (view store) old.here later old.confirmed (at_rest s)
      at_rest_then s = keeps (at_rest s)

  -- the same where nothing else is kept
  pub read_by : {X F : Type 0} {found : X} {P : Tables → X → Type 0} (missed : Missed) (r : Result A E) (Is : State → A → Type 0) → rows.Reads {E = F} (view old.store) (view store) (Ok found) P
      → ((s : State) → Means (view old.store).now (Some s) → P (view old.store).now found → IfOk r (Is s)) → Reads (in_tables view) old (after old store old.counted missed) r Is
  read_by missed r Is read = counted_by old.counted missed r Is refl read (λ _ _ _ kept. kept)

  -- a fault
  failed : {X F : Type 0} {P : Tables → X → Type 0} (r : Result X F) (missed : Missed) (e : E) (Is : State → A → Type 0) → rows.Reads (view old.store) (view store) r P → Reads (in_tables view) old (after old store old.counted missed) (Err e) Is
  failed r missed e Is read = record {
    value = λ _ _ _. tt;
    same = λ _ _. tt;
    rests = λ s shown. rests_on (view old.store) (view store) old.here old.counted old.confirmed s shown read.survives read.rests;
    survives = survives_so view old (after old store old.counted missed) read.survives;
  }

  -- what was read is returned
  pub read_so : {P : Tables → A → Type 0} (missed : Missed) (r : Result A E) (Is : State → A → Type 0) → rows.Reads (view old.store) (view store) r P
      → ((s : State) → Means (view old.store).now (Some s) → (a : A) → P (view old.store).now a → Is s a) → Reads (in_tables view) old (after old store old.counted missed) r Is
  read_so missed (Ok a) Is read value = read_by missed (Ok a) Is read (λ s means. value s means a)
  read_so missed (Err e) Is read value = failed (Err e) missed e Is read

  -- where more is known of sums, and nothing else
  module _ (later : KnownCounts) (missed : Missed) (r : Result A E) (Is : State → A → Type 0) (sizes : later.sizes ≡ old.counted.sizes) (boarded : later.boarded ≡ old.counted.boarded) (waybills : later.waybills ≡ old.counted.waybills) (open_lines : later.open_lines ≡ old.counted.open_lines) (spans : later.spans ≡ old.counted.spans) where
    counts_so : (s : State) → IsCounted old.counted s.cargo.book s.cargo.expected s.cargo.declared s.cargo.outbox → AreKnown later.known (running s.cargo.book) → IsCounted later s.cargo.book s.cargo.expected s.cargo.declared s.cargo.outbox
    counts_so s kept known = record {
      boarded = subst (λ o. AreBoarded o s.cargo.book) (sym boarded) kept.boarded;
      known = known;
      waybills = subst (λ o. HaveAsked o s.cargo.book s.cargo.declared) (sym waybills) kept.waybills;
      open_lines = subst (λ (o : OpenLines). HasOpen o.kept s.cargo.expected) (sym open_lines) kept.open_lines;
      spans = subst (λ o. HaveSpans o s.cargo.book s.cargo.outbox) (sym spans) kept.spans;
    }

    pub sums_by : {X F : Type 0} {found : X} {P : Tables → X → Type 0} → rows.Reads {E = F} (view old.store) (view store) (Ok found) P
        → ((s : State) → Means (view old.store).now (Some s) → P (view old.store).now found → IfOk r (Is s) × (AreKnown old.counted.known (running s.cargo.book) → AreKnown later.known (running s.cargo.book)))
        → Reads (in_tables view) old (after old store later missed) r Is
    sums_by read value = counted_by later missed r Is sizes read (λ s means tells kept. counts_so s kept ((value s means tells).1 kept.known)) (λ s means tells. (value s means tells).0)

    -- a fault, after which no more is known
    sums_failed : {X : Type 0} {P : Tables → X → Type 0} (e : E) → rows.Reads (view old.store) (view store) (Err e) P → later.known ≡ old.counted.known → Reads (in_tables view) old (after old store later missed) (Err e) Is
    sums_failed e read is = record {
      value = λ _ _ _. tt;
      same = λ _ _. tt;
      rests = λ s shown.
          let now = rests_on (view old.store) (view store) old.here old.counted old.confirmed s shown read.survives read.rests in
          keeps_number (view store) old.here old.counted old.confirmed (at_rest s) now later sizes (λ sound. counts_so s (now sound).kept (subst (λ (k : KnownSums). AreKnown k (running s.cargo.book)) (sym is) (now sound).kept.known));
      survives = survives_so view old (after old store later missed) read.survives;
    }

  pub sums_so : {P : Tables → A → Type 0} (later : KnownCounts) (missed : Missed) (r : Result A E) (Is : State → A → Type 0) → later.sizes ≡ old.counted.sizes → later.boarded ≡ old.counted.boarded → later.waybills ≡ old.counted.waybills → later.open_lines ≡ old.counted.open_lines → later.spans ≡ old.counted.spans
      → rows.Reads (view old.store) (view store) r P → OnErr r (later.known ≡ old.counted.known)
      → ((s : State) → Means (view old.store).now (Some s) → (a : A) → P (view old.store).now a → Is s a × (AreKnown old.counted.known (running s.cargo.book) → AreKnown later.known (running s.cargo.book)))
      → Reads (in_tables view) old (after old store later missed) r Is
  sums_so later missed (Ok a) Is sizes boarded waybills open_lines spans read is value = sums_by later missed (Ok a) Is sizes boarded waybills open_lines spans read (λ s means. value s means a)
  sums_so later missed (Err e) Is sizes boarded waybills open_lines spans read is value = sums_failed later missed (Err e) Is sizes boarded waybills open_lines spans e read is

pub at_rest_of : {K A E : Type 0} {k : Storing K} {old new : K} {r : Result A E} {Is : State → A → Type 0} → Reads k old new r Is → ReadsAtRest k old new r Is
at_rest_of read = record { value = λ s. read.value (at_rest s); rests = read.rests; survives = read.survives }
