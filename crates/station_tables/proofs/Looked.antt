-- What is seen of a connection that was looked at and not changed.
use Rattle.station_tables.proofs.Common.{AttachFault, Bool, Database, Err, Finds, FoundState, HasCleanDisk, IfErr, IfOk, IsBreakdown, IsJudged, IsLawfulState, IsOwn, IsStateIn, IsStation, IsTrue, IsTypedState, Ok, Option, Reads, Refuses, Result, Second, State, Tables, Trees, Unfit, View, arith, false, inl, inr, not, read_as, refl, subst, sym, true, view_of, ℕ, ◌∙◌, ◌≡◌, ◌≤◌, ◌⊎◌}
use Rattle.table_load.specs.declared.station.FileVersion.{FileVersion}
use Rattle.sqlite.specs.State as sqlite
use Rattle.sqlite.proofs.Callers.{unchanged_then}
use Rattle.sqlite.proofs.StateLemmas.{survives_then}
use Rattle.sqlite_trees.specs.View.{doubt}
use Rattle.station_schema.specs.Store as store
use Rattle.table_state.specs.Shown as tables
use Rattle.station_tables.proofs.Attached.{breaks_down, in_state}
use Rattle.station_tables.proofs.Made.{finds_up}

no_less : (a b : ℕ) → a ≤ b → b ≡ 0 → a ≡ 0
no_less a b below none = omega (arith, below, none)

-- a disk that is clean was clean
pub was_clean : (a b : sqlite.State) → sqlite.Survives a b (λ _. ⊥) → HasCleanDisk b → HasCleanDisk a
was_clean a b s clean = no_less (doubt a.is_clean) (doubt b.is_clean) s.clean clean

-- whatever it may have written
pub clean_before : (a b : sqlite.State) (Commits : Trees → Type 0) → sqlite.Survives a b Commits → HasCleanDisk b → HasCleanDisk a
clean_before a b Commits s clean = no_less (doubt a.is_clean) (doubt b.is_clean) s.clean clean

-- a call that did nothing
pub survives_same : (s : sqlite.State) → sqlite.Survives s s (λ _. ⊥)
survives_same s = record { clean = omega arith; shield = λ h. h; counts = omega arith; limit = refl; closes = λ clean is. inl is; crash = λ clean db left. inl left }

-- two calls of which neither wrote
pub survives_both : (a b c : sqlite.State) → sqlite.Survives a b (λ _. ⊥) → sqlite.Survives b c (λ _. ⊥) → sqlite.Survives a c (λ _. ⊥)
survives_both a b c s u = survives_then a b c _ _ _ (λ _ db none. none) (λ _ db none. none) s u

pub unwritten_on : {K E : Type 0} (state_of : K → sqlite.State) (a b : sqlite.State) (r : Result K E) → sqlite.Survives a b (λ _. ⊥) → IfOk r (λ k. sqlite.Survives b (state_of k) (λ _. ⊥))
    → IfOk r (λ k. sqlite.Survives a (state_of k) (λ _. ⊥))
unwritten_on state_of a b (Ok k) s u = survives_both a b (state_of k) s u
unwritten_on state_of a b (Err e) s u = tt

pub unwritten_at : {K C F : Type 0} (state_of : C → sqlite.State) (a b : sqlite.State) (r : Result K (C × F)) → sqlite.Survives a b (λ _. ⊥) → IfErr r (λ e. sqlite.Survives b (state_of e.0) (λ _. ⊥))
    → IfErr r (λ e. sqlite.Survives a (state_of e.0) (λ _. ⊥))
unwritten_at state_of a b (Ok k) s u = tt
unwritten_at state_of a b (Err e) s u = survives_both a b (state_of e.0) s u

-- a connection that was looked at twice, and then handed on as it was
pub seen_on : {K E : Type 0} (state_of : K → sqlite.State) (a b c : sqlite.State) (r : Result K E) → (HasCleanDisk b → sqlite.IsUnchanged a b) → sqlite.Survives b c (λ _. ⊥) → (HasCleanDisk c → IsTrue b.is_open → sqlite.IsUnchanged b c)
    → IfOk r (λ k. sqlite.Survives c (state_of k) (λ _. ⊥)) → IfOk r (λ k. HasCleanDisk (state_of k) → sqlite.IsUnchanged c (state_of k)) → IfOk r (λ k. HasCleanDisk (state_of k) → sqlite.IsUnchanged a (state_of k))
seen_on state_of a b c (Ok k) live kept read w same = λ clean.
    let mid = was_clean c (state_of k) w clean in
    let first = live (was_clean b c kept mid) in
    unchanged_then a b (state_of k) first (unchanged_then b c (state_of k) (read mid first.0.is_open) (same clean))
seen_on state_of a b c (Err e) live kept read w same = tt

pub either : {X : Type 0} → X ⊎ ⊥ → X
either (inl x) = x
either (inr never) = absurd never

-- and a crash leaves what it left before
pub left_before : (a b : sqlite.State) → sqlite.Survives a b (λ _. ⊥) → HasCleanDisk b → (t : Tables) → (view_of b).may_leave t → (view_of a).may_leave t
left_before a b s clean t left = (left.0, either (s.crash clean left.0 left.1), left.2)

-- so that a reopening finds what it found before
pub finds_before : (old new : View) → ((t : Tables) → new.may_leave t → old.may_leave t) → (found : Option State) → Finds new found → Finds old found
finds_before old new back found = finds_up (tables.Finds new) (tables.Finds old) (λ f x. record { tables = x.tables; left = back x.tables x.left; means = x.means }) found

pub finds_after_one : (a b : sqlite.State) → sqlite.Survives a b (λ _. ⊥) → HasCleanDisk b → (found : Option State) → Finds (view_of b) found → Finds (view_of a) found
finds_after_one a b s clean found = finds_before (view_of a) (view_of b) (left_before a b s clean) found

pub finds_after : (a b c : sqlite.State) → sqlite.Survives a b (λ _. ⊥) → sqlite.Survives b c (λ _. ⊥) → HasCleanDisk c → (found : Option State) → Finds (view_of c) found → Finds (view_of a) found
finds_after a b c s u clean found finds = finds_after_one a b s (was_clean b c u clean) found (finds_after_one b c u clean found finds)

pub finds_after_store : (a b c : sqlite.State) (v : View) → sqlite.Survives a b (λ _. ⊥) → sqlite.Survives b c (λ _. ⊥) → store.Survives (view_of c) v → v.IsSound → (found : Option State) → Finds v found → Finds (view_of a) found
finds_after_store a b c v s u w sound found finds = finds_after a b c s u (w.sound sound) found (finds_before (view_of c) v (w.crash sound) found finds)

-- A connection that was outside a transaction and open, was looked at twice, and is as it was.
pub record IsSeen (a d : sqlite.State) : Type 0 where
  pub was_open : IsTrue a.is_open
  pub was_at_rest : a.now ≡ a.committed
  pub same : d.now ≡ a.now
  pub outside : d.in_transaction ≡ false
  pub rest : d.now ≡ d.committed

is_outside : (auto in_ : Bool) → auto ≡ not in_ → IsTrue auto → in_ ≡ false
is_outside auto true says is = absurd (cc)
is_outside auto false says is = refl

module _ (a b d : sqlite.State) (auto : Bool) (value : auto ≡ not a.in_transaction) (settled : IsTrue auto → IsTrue a.is_open → a.now ≡ a.committed) (is_auto : IsTrue auto)
    (live : HasCleanDisk b → sqlite.IsUnchanged a b) (survived : sqlite.Survives b d (λ _. ⊥)) where
  pub is_open : HasCleanDisk d → IsTrue b.is_open
  is_open clean = (live (was_clean b d survived clean)).0.is_open

  seen : HasCleanDisk d → sqlite.IsUnchanged b d → IsSeen a d
  seen clean same =
      let one = (live (was_clean b d survived clean)).0 in
      let two = same.0 in
      let rest = settled is_auto one.was_open in
      record {
        was_open = one.was_open;
        was_at_rest = rest;
        same = two.now_is ∙ one.now_is;
        outside = two.mode ∙ one.mode ∙ is_outside auto a.in_transaction value is_auto;
        rest = two.now_is ∙ one.now_is ∙ rest ∙ sym one.committed_is ∙ sym two.committed_is;
      }

  -- what is judged of it is so of it as it was and as it is
  pub judged_there : (version : FileVersion) (r : Result FoundState Unfit) → (HasCleanDisk d → IsTrue b.is_open → Reads b d (Ok r) (IsJudged (read_as version b.now)))
      → HasCleanDisk d → IsSeen a d × IsJudged (read_as version d.now) r
  judged_there version r reads clean =
      let read = reads clean (is_open clean) in
      (seen clean read.1, subst (λ db. IsJudged (read_as version db) r) (sym read.1.0.now_is) read.0)

-- what holds of a station that goes on, in terms of the connection before
module _ {K E : Type 0} (a d : sqlite.State) (judged : Result FoundState Unfit) (Clean : K → Type 0) (look : HasCleanDisk d → IsSeen a d × IsJudged (read_as Second d.now) judged) where
  pub found_on : (keeps : K → State → Type 0) (r : Result K E) → IfOk r (λ k. Clean k → HasCleanDisk d)
      → (d.in_transaction ≡ false → d.now ≡ d.committed → IsJudged (read_as Second d.now) judged → IfOk r (λ k. (s : State) × IsStateIn d.now s × keeps k s))
      → IfOk r (λ k. Clean k → (s : State) × IsStateIn a.now s × keeps k s)
  found_on keeps (Ok k) clean goes = λ on.
      let l = look (clean on) in
      let at = goes l.0.outside l.0.rest l.1 in
      (at.0, subst (λ db. IsStateIn db at.0) l.0.same at.1, at.2)
  found_on keeps (Err e) clean goes = tt

  pub own_on : (D : K → Type 0) (r : Result K E) → IfOk r (λ k. Clean k → HasCleanDisk d)
      → IfOk r (λ k. Clean k → IsOwn d.now.trees → D k) → IfOk r (λ k. Clean k → IsOwn a.now.trees → D k)
  own_on D (Ok k) clean own = λ on is. own on (subst (λ (db : Database). IsOwn db.trees) (sym (look (clean on)).0.same) is)
  own_on D (Err e) clean own = tt

  pub typed_on : (r : Result K E) → IfOk r (λ k. Clean k → HasCleanDisk d)
      → IfOk r (λ k. Clean k → d.now ≡ d.committed → (s : State) → IsStateIn d.now s → IsTypedState d.now s)
      → IfOk r (λ k. Clean k → (s : State) → IsStateIn a.now s → IsTypedState a.now s)
  typed_on (Ok k) clean typed = λ on s in_.
      let l = look (clean on) in
      subst (λ db. IsTypedState db s) l.0.same (typed on l.0.rest s (subst (λ db. IsStateIn db s) (sym l.0.same) in_))
  typed_on (Err e) clean typed = tt

-- an error of a call that a crash survives
module _ {K C : Type 0} (view : C → View) (a d : sqlite.State) (judged : Result FoundState Unfit) (look : HasCleanDisk d → IsSeen a d × IsJudged (read_as Second d.now) judged) where
  pub refused_on : (r : Result K (C × AttachFault)) → IfErr r (λ e. store.Survives (view_of d) (view e.0))
      → (IsJudged (read_as Second d.now) judged → IfErr r (λ e. Refuses d.now e.1)) → IfErr r (λ e. (view e.0).IsSound → Refuses a.now e.1)
  refused_on (Ok k) spares why = tt
  refused_on (Err e) spares why = λ sound.
      let l = look (spares.sound sound) in
      subst (λ db. Refuses db e.1) l.0.same (why l.1)

  pub fit_on : (r : Result K (C × AttachFault)) → IfErr r (λ e. store.Survives (view_of d) (view e.0))
      → (IsJudged (read_as Second d.now) judged → IfErr r (λ e. Refuses d.now e.1)) → IfErr r (λ e. (view e.0).IsSound → (s : State) → IsStateIn a.now s → IsBreakdown e.1)
  fit_on (Ok k) spares why = tt
  fit_on (Err e) spares why = λ sound s in_.
      let l = look (spares.sound sound) in
      breaks_down a.now s e.1 in_ (subst (λ db. Refuses db e.1) l.0.same (why l.1))

  -- the same of what a station wrote
  pub own_fit_on : (L : Type 0) (r : Result K (C × AttachFault)) → IfErr r (λ e. store.Survives (view_of d) (view e.0))
      → (IsJudged (read_as Second d.now) judged → IfErr r (λ e. Refuses d.now e.1)) → (IsOwn a.now.trees → IsTrue a.is_open → a.now ≡ a.committed → L → IsStation a.now)
      → IfErr r (λ e. (view e.0).IsSound → IsOwn a.now.trees → L → (s : State) → IsTypedState a.now s → IsLawfulState s → IsBreakdown e.1)
  own_fit_on L (Ok k) spares why own = tt
  own_fit_on L (Err e) spares why own = λ sound is lies s typed lawful.
      let l = look (spares.sound sound) in
      let in_ = in_state a.now s (own is l.0.was_open l.0.was_at_rest lies) typed lawful in
      breaks_down a.now s e.1 in_ (subst (λ db. Refuses db e.1) l.0.same (why l.1))

pub leaves_on : {K C F : Type 0} (view : C → View) (a b c : sqlite.State) → sqlite.Survives a b (λ _. ⊥) → sqlite.Survives b c (λ _. ⊥) → (r : Result K (C × F))
    → IfErr r (λ e. store.Survives (view_of c) (view e.0)) → IfErr r (λ e. (view e.0).IsSound → (found : Option State) → Finds (view e.0) found → Finds (view_of a) found)
leaves_on view a b c s u (Ok k) w = tt
leaves_on view a b c s u (Err e) w = λ sound found finds. finds_after_store a b c (view e.0) s u w sound found finds
