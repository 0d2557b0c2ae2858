-- What a station that stopped may leave, and what is found of it.
use Rattle.station_tables.proofs.Common.{AttachFault, Bool, Database, Err, Finds, IfErr, IfOk, Input, IsAfterAnswered, IsBreakdown, IsLawfulState, IsOwn, IsReadable, IsStateIn, IsTypedState, List, LocalMinute, None, Ok, Option, Result, Second, Some, State, Trees, View, are_balances, are_declared, connection_in, false, inl, inr, is_conserved, meaning_of, read_as, refl, rows_view, state, tables_of, ℕ, ◌≡◌}
use Rattle.sqlite_trees.specs.declared.store.Store.{Ghosts}
use Rattle.station_core.specs.declared.answer.ActFault.{ActFault}
use Rattle.station_tables.proofs.Attached.{is_lawful}
use Rattle.station_tables.specs.Called.{IsRestored}
use Rattle.station_tables.specs.declared.attaching.AttachFault.TheVariants as fault
use Rattle.station_tables.specs.declared.station.Station.{Station}

-- trees that a station leaves have the schema of one
pub leaves_own : {S : Type 0} (g : Ghosts S) (station : Station S g) → (rows_view g (connection_in station) (are_declared station.stored.store.store)).IsSound
    → (db : Trees) → (state g (connection_in station)).may_leave db → IsOwn db
leaves_own g station sound db left = station.stored.store.store.leaves sound.0 sound.1 sound.2 db left

-- a state that is found in what a crash may leave
pub finds : (v : View) (found : Database) (it : State) → v.may_leave (tables_of found.trees) → IsStateIn found it → IsTypedState found it → Finds v (Some it)
finds v found it left in_ typed = (record { tables = tables_of found.trees; left = left; means = typed.means }, is_lawful (read_as Second found) it in_)

restored : (s : State) (inputs : List (Input × LocalMinute)) (answered : ℕ) (ended : Option ActFault) (db : Database) (broken : Bool) (keeps : State → Type 0) (it : State)
    → IsAfterAnswered s inputs answered ended (Some it) → IsStateIn db it → IsTypedState db it → broken ≡ false → keeps it → IsRestored s inputs answered ended db broken keeps
restored s inputs answered ended db broken keeps it after in_ means works kept = record {
  state = it;
  works = works;
  is_after = after;
  is_meant = means;
  is_kept = kept;
  is_lawful = is_lawful (read_as Second db) it in_;
  conserved = λ w. is_conserved it.cargo w (is_lawful (read_as Second db) it in_).cargo;
  shown = λ w. are_balances it.cargo w (is_lawful (read_as Second db) it in_).cargo;
}

pub restored_on : {K E : Type 0} (s : State) (inputs : List (Input × LocalMinute)) (answered : ℕ) (ended : Option ActFault) (db : Database)
    (Clean Declared Sound : K → Type 0) (is_broken : K → Bool) (keeps : K → State → Type 0) (r : Result K E)
    → IfOk r (λ k. is_broken k ≡ false) → IfOk r (λ k. Clean k → (it : State) × IsStateIn db it × keeps k it) → IfOk r (λ k. Clean k → IsOwn db.trees → Declared k)
    → IfOk r (λ k. Sound k → (it : State) → IsStateIn db it → IsTypedState db it) → IsOwn db.trees → ((k : K) → Clean k → Declared k → Sound k)
    → ((it : State) → IsStateIn db it → IsTypedState db it → IsAfterAnswered s inputs answered ended (Some it))
    → IfOk r (λ k. Clean k → IsRestored s inputs answered ended db (is_broken k) (keeps k))
restored_on s inputs answered ended db Clean Declared Sound is_broken keeps (Ok k) works found own typed is_own make after = λ clean.
    let f = found clean in
    let t = typed (make k clean (own clean is_own)) f.0 f.1 in
    restored s inputs answered ended db (is_broken k) (keeps k) f.0 (after f.0 f.1 t) f.1 t works f.2
restored_on s inputs answered ended db Clean Declared Sound is_broken keeps (Err e) works found own typed is_own make after = tt

-- a station that was opened over it keeps a state that was left
pub goes_on : {K E : Type 0} (db : Database) (Clean Declared Sound : K → Type 0) (is_broken : K → Bool) (keeps : K → State → Type 0) (Left : Option State → Type 0) (r : Result K E)
    → IfOk r (λ k. is_broken k ≡ false) → IfOk r (λ k. Clean k → (it : State) × IsStateIn db it × keeps k it) → IfOk r (λ k. Clean k → IsOwn db.trees → Declared k)
    → IfOk r (λ k. Sound k → (it : State) → IsStateIn db it → IsTypedState db it) → IsOwn db.trees → ((k : K) → Clean k → Declared k → Sound k)
    → ((it : State) → IsStateIn db it → IsTypedState db it → Left (Some it))
    → IfOk r (λ k. Clean k → (s : State) × Left (Some s) × keeps k s × (is_broken k ≡ false))
goes_on db Clean Declared Sound is_broken keeps Left (Ok k) works found own typed is_own make left = λ clean.
    let f = found clean in
    let t = typed (make k clean (own clean is_own)) f.0 f.1 in
    (f.0, left f.0 f.1 t, f.2, works)
goes_on db Clean Declared Sound is_broken keeps Left (Err e) works found own typed is_own make left = tt

pub sounds_on : {K E : Type 0} (Clean Declared Sound : K → Type 0) (Own : Type 0) (r : Result K E) → IfOk r (λ k. Clean k → Own → Declared k) → Own → ((k : K) → Clean k → Declared k → Sound k)
    → IfOk r (λ k. Clean k → Sound k)
sounds_on Clean Declared Sound Own (Ok k) own is_own make = λ clean. make k clean (own clean is_own)
sounds_on Clean Declared Sound Own (Err e) own is_own make = tt

-- ---- what a crash leaves is a station's

pub none_after : (s : State) (inputs : List (Input × LocalMinute)) (answered : ℕ) (ended : Option ActFault) → IsAfterAnswered s inputs answered ended None → ⊥
none_after s inputs answered ended (inl none) = absurd (cc)
none_after s inputs answered ended (inr (stopped, more, none)) = absurd (cc)

pub settled_none : {s : State} → ◌≡◌ {A = Option State} None (Some s) → ⊥
settled_none none = absurd (cc)

-- a fault that can't but be a breakdown is one
surely : (f : AttachFault) → ¬ ¬ IsBreakdown f → IsBreakdown f
surely (fault.Unlawful name) so = so (λ is. is)
surely fault.NoStation so = so (λ is. is)
surely (fault.Version n) so = so (λ is. is)
surely fault.Occupied so = so (λ is. is)
surely fault.Store so = tt
surely fault.Memory so = tt

-- tables that a crash may leave, and of which a reopening doesn't find none, mean a lawful state
surely_lawful : (v : View) (db : Database) → v.may_leave (tables_of db.trees) → ¬ Finds v None → ¬ ¬ ((s : State) × IsTypedState db s × IsLawfulState s)
surely_lawful v db left some_ refuted =
    let m : State = meaning_of (tables_of db.trees) in
    some_ (inl (record {
      tables = tables_of db.trees;
      left = left;
      means = λ (readable : IsReadable (tables_of db.trees)).
          some_ (inr (
            m,
            record { tables = tables_of db.trees; left = left; means = (readable, refl) },
            λ (lawful : IsLawfulState m). refuted (m, record { means = (readable, refl) }, lawful),
          ));
    }))

pub opens_on : {K C : Type 0} (v : View) (db : Database) (Clean : C → Type 0) (r : Result K (C × AttachFault)) → v.may_leave (tables_of db.trees) → ¬ Finds v None
    → IfErr r (λ e. Clean e.0 → (s : State) → IsTypedState db s → IsLawfulState s → IsBreakdown e.1) → IfErr r (λ e. Clean e.0 → IsBreakdown e.1)
opens_on v db Clean (Ok k) left some_ fit = tt
opens_on v db Clean (Err e) left some_ fit = λ clean. surely e.1 (λ not. surely_lawful v db left some_ (λ found. not (fit clean found.0 found.1 found.2)))

pub fits_on : {K C : Type 0} (Clean : C → Type 0) (Own Lies : Type 0) (Fits : AttachFault → Type 0) (r : Result K (C × AttachFault)) → IfErr r (λ e. Clean e.0 → Own → Lies → Fits e.1) → Own → Lies → IfErr r (λ e. Clean e.0 → Fits e.1)
fits_on Clean Own Lies Fits (Ok k) fit own lies = tt
fits_on Clean Own Lies Fits (Err e) fit own lies = λ clean. fit clean own lies
