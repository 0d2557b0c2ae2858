-- A station whose tables were found goes on from what they mean.
use Rattle.station_tables.proofs.Common.{AttachFault, Database, Err, First, FoundState, IfErr, IfOk, IsBreakdown, IsFoundIn, IsJudged, IsLawfulState, IsOldStateIn, IsReadable, IsStateIn, IsStateOf, IsStation, IsTypedState, IsUnchanged, Judges, Means, Message, Ok, Reading, Reads, Refuses, RefusesAs, Result, Second, Some, State, Tables, Tells, Unfit, View, ap, each_lawful, false, meaning_of, read_as, refl, same_tables, subst, sym, tables_of, view_of, ◌∙◌, ◌≡◌}
use Rattle.std.proofs.lemmas.List.{length-map}
use Rattle.sqlite.specs.State as sqlite
use Rattle.row_codec.specs.Stored.{line_by, move_by}
use Rattle.state_store.specs.Store.{at_rest}
use Rattle.table_state.specs.Shown.{Knows, HasThese}
use Rattle.table_audits.proofs.LawfulTables.{lawful_each}
use Rattle.table_audits.proofs.Judged.{fit}
use Rattle.table_audits.proofs.Typed.{station_held_whole}
use Rattle.table_audits.specs.Verdict.{IsStationOf}
use Rattle.table_audits.specs.declared.rows.Unfit.TheVariants as unfit
use Rattle.sqlite.specs.declared.error.Error.{Error}
use Rattle.station_tables.specs.declared.attaching.AttachFault.TheVariants as fault

both : (db : Reading) (t : Tables) → IsStationOf db t → IsReadable t × IsLawfulState (meaning_of t)
both db t all = (lawful_each t).0 (each_lawful db t all)

-- the state that a station's tables mean is lawful
pub is_lawful : (db : Reading) (s : State) → IsStateOf db s → IsLawfulState s
is_lawful db s in_ = subst IsLawfulState in_.means (both db in_.tables in_.is_station).1

-- they mean it
pub means : (db : Reading) (s : State) (in_ : IsStateOf db s) → Means in_.tables (Some s)
means db s in_ = ((both db in_.tables in_.is_station).0, in_.means)

-- where a station declared the tables, they are the typed ones
pub means_typed : (db : Database) (s : State) → IsStation db → IsStateIn db s → IsTypedState db s
means_typed db s was in_ = record { means = subst (λ t. Means t (Some s)) (sym (same_tables db in_.tables was in_.is_station)) (means (read_as Second db) s in_) }

-- and where typed tables mean a lawful state, they are a station's
pub in_state : (db : Database) (s : State) → IsStation db → IsTypedState db s → IsLawfulState s → IsStateIn db s
in_state db s was typed lawful = record {
  tables = tables_of db.trees;
  is_station = station_held_whole db was ((lawful_each (tables_of db.trees)).1 (typed.means.0, subst IsLawfulState (sym typed.means.1) lawful));
  means = typed.means.1;
}

-- what was counted is known of it
known : (found : FoundState) (t : Tables) → Tells found t → Knows found.here found.sizes found.confirmed (at_rest (meaning_of t))
known found t tells = record {
  here_is = tells.here;
  sizes_are = λ i. record {
    moves = (tells.moves ∙ sym (length-map t.moves move_by)) i;
    lines = (tells.lines ∙ sym (length-map t.trail line_by)) i;
    messages = (tells.messages ∙ sym (length-map t.outbox (λ (row : Message). row.body))) i;
  };
  confirmed_is = tells.confirmed;
}

pub knows : (found : FoundState) (db : Reading) (s : State) (in_ : IsStateOf db s) → Tells found in_.tables → Knows found.here found.sizes found.confirmed (at_rest s)
knows found db s in_ tells = subst (λ x. Knows found.here found.sizes found.confirmed (at_rest x)) in_.means (known found in_.tables tells)

-- what is judged, with a state in place of its tables
judged : (db : Reading) (r : Result FoundState Unfit) → Judges db r → IsJudged db r
judged db (Ok found) was = record { state = meaning_of was.0; is_in = record { tables = was.0; is_station = was.1; means = refl }; tells = was.2 }
judged db (Err why) was = was

pub reads : (old new : sqlite.State) (db : Reading) (r : Result (Result FoundState Unfit) Error) → Reads old new r (Judges db) → Reads old new r (IsJudged db)
reads old new db (Ok r) read = (judged db r read.0, read.1)
reads old new db (Err e) read = read

-- tables that were read and not changed since
pub has : (s : sqlite.State) (v : View) (t : Tables) → tables_of s.now.trees ≡ t → s.in_transaction ≡ false → s.now ≡ s.committed → IsUnchanged (view_of s) v → HasThese t v
has s v t same outside rest was = record {
  is_open = was.is_open;
  at_rest = record { mode = was.mode ∙ outside; same = was.now_is ∙ ap (λ (d : Database). tables_of d.trees) rest ∙ sym was.committed_is };
  now_is = was.now_is ∙ same;
}

pub has_these : (c : sqlite.State) (v : View) (s : State) (in_ : IsStateIn c.now s) → IsStation c.now → c.in_transaction ≡ false → c.now ≡ c.committed → IsUnchanged (view_of c) v → HasThese in_.tables v
has_these c v s in_ was outside rest unchanged = has c v in_.tables (same_tables c.now in_.tables was in_.is_station) outside rest unchanged

-- what is refused is no station's, unless the fault says nothing of it
pub breaks_down : (db : Database) (s : State) (fault : AttachFault) → IsStateIn db s → Refuses db fault → IsBreakdown fault
breaks_down db s (fault.Unlawful name) in_ why = absurd (fit (read_as Second db) in_.tables in_.is_station (unfit.Unlawful name) why)
breaks_down db s fault.NoStation in_ why = absurd (fit (read_as Second db) in_.tables in_.is_station unfit.NoStation why)
breaks_down db s (fault.Version n) in_ why = absurd (fit (read_as Second db) in_.tables in_.is_station (unfit.OtherVersion n) why)
breaks_down db s fault.Occupied in_ why = why
breaks_down db s fault.Store in_ why = tt
breaks_down db s fault.Memory in_ why = tt

-- nor is a file of version 1 refused that is a station's
pub old_breaks_down : (db : Database) (s : State) (fault : AttachFault) → IsOldStateIn db s → RefusesAs First db fault → IsBreakdown fault
old_breaks_down db s (fault.Unlawful name) in_ (audited, is, why) = absurd (fit (read_as First db) in_.tables in_.is_station (unfit.Unlawful audited) why)
old_breaks_down db s fault.NoStation in_ why = absurd (fit (read_as First db) in_.tables in_.is_station unfit.NoStation why)
old_breaks_down db s (fault.Version n) in_ why = absurd (fit (read_as First db) in_.tables in_.is_station (unfit.OtherVersion n) why)
old_breaks_down db s fault.Occupied in_ why = why
old_breaks_down db s fault.Store in_ why = tt
old_breaks_down db s fault.Memory in_ why = tt

-- a station that goes on from what was found
pub kept_on : {K E : Type 0} (db : Reading) (found : FoundState) (keeps : K → State → Type 0) (r : Result K E) → IsFoundIn db found
    → ((s : State) (in_ : IsStateOf db s) → Tells found in_.tables → IfOk r (λ k. keeps k s)) → IfOk r (λ k. (s : State) × IsStateOf db s × keeps k s)
kept_on db found keeps (Ok k) at goes = (at.state, at.is_in, goes at.state at.is_in at.tells)
kept_on db found keeps (Err e) at goes = tt

pub store_says_nothing : {K C : Type 0} (db : Database) (r : Result K (C × AttachFault)) → IfErr r (λ e. e.1 ≡ fault.Store) → IfErr r (λ e. Refuses db e.1)
store_says_nothing db (Ok k) is = tt
store_says_nothing db (Err e) is = subst (Refuses db) (sym is) tt
