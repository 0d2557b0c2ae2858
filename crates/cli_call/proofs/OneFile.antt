-- Calls of the program over one file: from one to the next, and all of them.
use Rattle.std.proofs.Common.{◌<◌, ◌≤◌, length, ◌≡◌, ◌⊎◌, ℕ, zero, suc, ◌+◌, Bool, true, false, IsTrue, inl, inr, ⊎_elim, Option, Some, None, Result, Ok, Err, List, [], ◌∷◌, ◌++◌, take, All, refl, sym, ap, subst, ◌∙◌, arith}
use Rattle.std.specs.Prelude.{Contains, IfErr, OnErr, OnOk}
use Rattle.std.specs.List.{AllByRecursion}
use Rattle.std.proofs.Math.Logic.{∥∥₁_elim, ∥∥₁_map}
use Rattle.std.proofs.lemmas.Bool.{cases_Bool, cases_lt}
use Rattle.std.proofs.lemmas.List.{append_cancel_left, append-nil}
use Rattle.shipment_machine.proofs.Conserved.{is_conserved}
use Rattle.shipment_machine.proofs.Shown.{are_balances}
use Rattle.sqlite.specs.Effect.{Database, IsDatabase}
use Rattle.sqlite.specs.Order.{Row}
use Rattle.sqlite.specs.Schema.{Schema}
use Rattle.sqlite.specs.Table.{Table}
use Rattle.sqlite.specs.Held.{state, Held}
use Rattle.sqlite.specs.State as conn
use Rattle.sqlite_catalog.proofs.ReadLemmas.{lists_once}
use Rattle.sqlite_catalog.specs.Listing.{IsSound}
use Rattle.sqlite_tied.specs.Compute.{everything}
use Rattle.sqlite_trees.specs.declared.schema.Object.{Object}
use Rattle.sqlite_trees.specs.declared.store.Store.{Ghosts}
use Rattle.sqlite_trees.specs.Objects.{catalog_tree}
use Rattle.sqlite_trees.specs.Tree.{Trees}
use Rattle.station_days.specs.Date.{LocalMinute}
use Rattle.station_core.specs.declared.answer.Answer.{Answer}
use Rattle.station_core.specs.declared.answer.ActFault.TheVariants as fault
use Rattle.station_core.specs.declared.answer.Input.{Input}
use Rattle.station_core.specs.Keeping.{Keeping, KeepsSound}
use Rattle.station_core.specs.Retries.{RetryEvent, World, after_events, world_after, ActsOnce}
use Rattle.station_core.specs.Step.{State, IsLawfulState, step, after_all, opening}
use Rattle.station_files.specs.Backing.{Backing, HasEnded, LeadsOn, LeavesKnown}
use Rattle.station_schema.proofs.Owned.{owned, owned_old}
use Rattle.station_schema.specs.Connection.{connection_view, IsOwn, LiesInOrder}
use Rattle.station_schema.specs.Schema.{no_schema, old_schema, station_schema, waybill2}
use Rattle.station_tables.specs.Attached.{connection_in, IsOldStateIn, IsStateIn, IsStateOf, IsTypedState, IsMigrated}
use Rattle.station_tables.specs.Called.{GoesOn, HasFound, HasMade, HasMoved, HasReleased}
use Rattle.station_tables.specs.Lives.{Life, AreCounted, AreLives, Counts, in_order, IsAfterLife, IsAfterLives}
use Rattle.station_tables.specs.declared.attaching.AttachFault.{AttachFault}
use Rattle.station_tables.specs.declared.attaching.AttachFault.TheVariants as attach
use Rattle.station_tables.specs.declared.station.Station.{Station}
use Rattle.cli_run.specs.declared.telling.RunFault.{RunFault}
use Rattle.table_audits.proofs.Declared.{each_lawful}
use Rattle.table_audits.proofs.LawfulTables.{lawful_each}
use Rattle.table_load.specs.Held.{waybill_columns, waybill_name, found, found_at, no_table, rows_of, table_by_name, Reading}
use Rattle.cli_words.specs.declared.line.LineCommand.{LineCommand}
use Rattle.cli_words.specs.declared.line.LineCommand.TheVariants as command
use Rattle.cli_run.specs.Done.{HasDone, station_fault, AsksAt, HasLeft, HasSaid, IfAnswers, answers_inputs, Turn, turns_inputs, turns_text}
use Rattle.cli_run.specs.Ends.{reached, Ends, Reached, here_of, is_migration, is_new}
use Rattle.cli_words.specs.declared.line.Line.{Line}
use Rattle.desk_server.specs.Served.{store_fault, HasServedInputs, Exchange, GoesOn as ServesOn, HaveServed}
use Rattle.cli_call.specs.declared.run.FileEnd.{FileEnd}
use Rattle.cli_call.specs.declared.ended.DeskFault.{DeskFault}
use Rattle.cli_call.specs.declared.ended.DeskFault.TheVariants as told
use Rattle.cli_call.specs.Ran.{HasEndedService, HasServedStation, HasEndedCall, HasRunLine}
use Rattle.cli_call.specs.Ended.{run_ended, status_of, HasNoStation, HasEndedMigration}
use Rattle.line_opening.specs.Opened.{HasOpened}
use Rattle.cli_call.specs.OneFile.{HasPrintedLife, HasSaidLife, life_events, makes_station, ran_in, with_station, after_upgrade, after_init, AreBetween, AreEventsOf, AreInputsOf, AreLivesOf, AreRuns, Begins, by_command, by_service, by_upgrade, CallOn, DidOver, FailsIn, FindsIn, HaveLed, IsAfterCalls, IsFailedInit, IsLifeOf, IsNext, IsUpgrade, IsVain, last_of, MayBegin, NoneLost, OpenedOn, Reopens, RunOn, UpgradesIn, WasTrue}

abbrev Inputs : Type 0
Inputs = List (Input × LocalMinute)

either : {X : Type 0} → X ⊎ ⊥ → X
either (inl x) = x
either (inr never) = absurd never

abbrev fault_or : {A E : Type 0} → E → Result A E → E
fault_or e (Ok a) = e
fault_or e (Err f) = f

-- what counts of some lives

after_append : (s : State) (xs ys : Inputs) → after_all s (xs ++ ys) ≡ after_all (after_all s xs) ys
after_append s [] ys = refl
after_append s (x ∷ xs) ys = after_append (step s x.0 x.1).state xs ys

abbrev value_or : State → Option State → State
value_or s None = s
value_or s (Some t) = t

some_is : (a b : State) → Some a ≡ Some b → a ≡ b
some_is a b is = ap (value_or a) is

record Counted (s : State) (life : Life) (found : State) : Type 0 where
  pub inputs : Inputs
  pub counts : Counts life inputs
  pub state : found ≡ after_all s inputs

counted : (s : State) (life : Life) (found : State) → IsAfterLife s life found → Counted s life found
counted s life found (inl is) = record { inputs = take life.answered life.inputs; counts = inl refl; state = some_is _ _ is }
counted s life found (inr (stopped, more, is)) = record { inputs = take (life.answered + 1) life.inputs; counts = inr (stopped, more, refl); state = some_is _ _ is }

record AllCounted (s : State) (lives : List Life) (found : State) : Type 0 where
  pub counted : List Inputs
  pub each : AreCounted lives counted
  pub state : found ≡ after_all s (in_order counted)

all_counted : (s : State) (lives : List Life) (found : State) → AreLives s lives found → AllCounted s lives found
all_counted s [] found is = record { counted = []; each = tt; state = is }
all_counted s (life ∷ lives) found (mid, first, more) =
    let one = counted s life mid first in
    let rest = all_counted mid lives found more in
    record {
      counted = one.inputs ∷ rest.counted;
      each = (one.counts, rest.each);
      state = rest.state ∙ ap (λ t. after_all t (in_order rest.counted)) one.state ∙ sym (after_append s one.inputs (in_order rest.counted));
    }

after_lives : (first : State) (lives : List Life) (found : State) → IsLawfulState found → AreLives first lives found → IsAfterLives first lives found
after_lives first lives found lawful is =
    let all = all_counted first lives found is in
    record {
      counted = all.counted;
      each = all.each;
      state = all.state;
      lawful = lawful;
      conserved = λ w. is_conserved found.cargo w lawful.cargo;
      shown = λ w. are_balances found.cargo w lawful.cargo;
    }

-- the events of some lives

abbrev up : State → List (Input × Answer) → World
up s told = record { state = s; is_up = true; told = told }

events_append : (w : World) (xs ys : List RetryEvent) → after_events w (xs ++ ys) ≡ after_events (after_events w xs) ys
events_append w [] ys = refl
events_append w (x ∷ xs) ys = events_append (world_after w x) xs ys

abbrev so_many : ℕ → Bool → ℕ
so_many n false = n
so_many n true = suc n

abbrev IsUp : State → World → Type 0
IsUp s w = (told : List (Input × Answer)) × (w ≡ up s told)

after_life : (n : ℕ) (cut : Bool) (xs : Inputs) (s : State) (told : List (Input × Answer)) → IsUp (after_all s (take (so_many n cut) xs)) (after_events (up s told) (life_events n cut xs))
after_life zero false xs s told = (told, refl)
after_life zero true [] s told = (told, refl)
after_life zero true (x ∷ xs) s told = (told, refl)
after_life (suc n) false [] s told = (told, refl)
after_life (suc n) true [] s told = (told, refl)
after_life (suc n) false (x ∷ xs) s told = after_life n false xs (step s x.0 x.1).state (told ++ (x.0, (step s x.0 x.1).answer) ∷ [])
after_life (suc n) true (x ∷ xs) s told = after_life n true xs (step s x.0 x.1).state (told ++ (x.0, (step s x.0 x.1).answer) ∷ [])

record Events (s : State) (lives : List Life) (found : State) (told : List (Input × Answer)) : Type 0 where
  pub events : List RetryEvent
  pub stand : AreEventsOf lives events
  pub led : IsUp found (after_events (up s told) events)

-- of one life, in front of those of the others
events_by : (s mid : State) (life : Life) (lives : List Life) (found : State) (told : List (Input × Answer)) → ((told : List (Input × Answer)) → Events mid lives found told)
    → (cut : Bool) → (cut ≡ true → life.ended ≡ Some fault.Store) → mid ≡ after_all s (take (so_many life.answered cut) life.inputs) → Events s (life ∷ lives) found told
events_by s mid life lives found told others cut why is =
    let here = after_life life.answered cut life.inputs s told in
    let rest = others here.0 in
    let events = life_events life.answered cut life.inputs in
    record {
      events = events ++ rest.events;
      stand = (cut, (rest.events, why, refl, rest.stand));
      led = (
        rest.led.0,
        events_append (up s told) events rest.events ∙ ap (λ w. after_events w rest.events) (here.1 ∙ ap (λ t. up t here.0) (sym is)) ∙ rest.led.1,
      );
    }

one_more : (n : ℕ) → n + 1 ≡ suc n
one_more n = omega arith

events_life : (s mid : State) (life : Life) (lives : List Life) (found : State) (told : List (Input × Answer)) → ((told : List (Input × Answer)) → Events mid lives found told)
    → IsAfterLife s life mid → Events s (life ∷ lives) found told
events_life s mid life lives found told others (inl is) = events_by s mid life lives found told others false (λ never. absurd (cc)) (some_is _ _ is)
events_life s mid life lives found told others (inr (stopped, less, is)) =
    events_by s mid life lives found told others true (λ _. stopped) (some_is _ _ is ∙ ap (λ n. after_all s (take n life.inputs)) (one_more life.answered))

events_of : (s : State) (lives : List Life) (found : State) (told : List (Input × Answer)) → AreLives s lives found → Events s lives found told
events_of s [] found told is = record { events = []; stand = refl; led = (told, ap (λ t. up t told) (sym is)) }
events_of s (life ∷ lives) found told (mid, first, more) = events_life s mid life lives found told (λ t. events_of mid lives found t more) first

after_calls : ((start : State) (events : List RetryEvent) → ActsOnce start events) → (first : State) (lives : List Life) (found : State) → IsLawfulState found → AreLives first lives found → IsAfterCalls first lives found
after_calls once first lives found lawful is =
    let all = events_of first lives found [] is in
    let acts = once first all.events in
    record {
      after = after_lives first lives found lawful is;
      events = all.events;
      stand = all.stand;
      once = acts;
      state = sym (ap (λ (w : World). w.state) all.led.1) ∙ acts.state;
    }

-- a call that ended well answered all that it was given
ends_well : (ended : Result Bool RunFault) (inputs : Inputs) (answered status ran : ℕ) → ran ≡ status_of (run_ended ended) → (1 < ran → status ≡ ran) → OnOk ended (answered ≡ length inputs)
    → status ≤ 1 → (answered ≡ length inputs) × (station_fault ended ≡ None)
ends_well (Ok good) inputs answered status ran is stays all low = (all, refl)
ends_well (Err e) inputs answered status ran is stays all low =
    let failed : 1 < ran = omega (arith, is) in
    absurd (omega (arith, low, stays failed, is))

-- what was said, after a call that closed its file
went_well : (P : Type 0) (ended : Result Bool RunFault) (status ran : ℕ) → ran ≡ status_of (run_ended ended) → (1 < ran → status ≡ ran) → OnOk ended P → status ≤ 1 → P
went_well P (Ok good) status ran is stays all low = all
went_well P (Err e) status ran is stays all low =
    let failed : 1 < ran = omega (arith, is) in
    absurd (omega (arith, low, stays failed, is))

map_answers : (answers : Bool) {X Y : Type 0} → (X → Y) → IfAnswers answers X → IfAnswers answers Y
map_answers true f x = f x
map_answers false f x = tt

said_life : (s : State) (at : LocalMinute) (life : Life) (before mid after : List ℕ) (status ran : ℕ) (ended : Result Bool RunFault) (turns : List Turn)
    → take life.answered life.inputs ≡ turns_inputs at turns → HasSaid s at turns before mid ended → after ≡ mid → ran ≡ status_of (run_ended ended) → (1 < ran → status ≡ ran)
    → HasPrintedLife s at life before after status
said_life s at life before mid after status ran ended turns are said same is stays = record {
  turns = turns;
  are = are;
  rest = said.rest;
  part = said.part ∙ ap (λ x. x ++ said.rest) (sym same);
  whole = λ low. let w = went_well (mid ≡ before ++ turns_text s at turns) ended status ran is stays said.whole low in
      append_cancel_left mid said.rest [] (sym said.part ∙ sym w ∙ sym (append-nil mid));
}

-- a service that ended well went on after each connection
fault_status : (e : DeskFault) → 1 < status_of (Err e)
fault_status told.Clock = omega arith
fault_status (told.Run e) = omega arith
fault_status (told.Attach attach.Store) = omega arith
fault_status (told.Attach attach.Memory) = omega arith
fault_status (told.Attach attach.NoStation) = omega arith
fault_status (told.Attach attach.Occupied) = omega arith
fault_status (told.Attach (attach.Version version)) = omega arith
fault_status (told.Attach (attach.Unlawful table)) = omega arith

went_on : (P : Type 0) (ended : Result Bool DeskFault) (status ran : ℕ) → ran ≡ status_of ended → (1 < ran → status ≡ ran) → OnOk ended P → status ≤ 1 → P
went_on P (Ok good) status ran is stays all low = all
went_on P (Err e) status ran is stays all low =
    let failed : 1 < ran = omega (arith, is, fault_status e) in
    absurd (omega (arith, low, stays failed, failed))

-- what a service keeps of its premise
sound_twice : {K : Type 0} (k : Keeping K) (a b c : K) → KeepsSound k a b → KeepsSound k b c → KeepsSound k a c
sound_twice k a b c first second = record {
  clean = λ clean. first.clean (second.clean clean);
  still = λ sound clean. second.still (first.still sound (second.clean clean)) clean;
  sound = λ sound. first.sound (second.sound sound);
}

kept_served : {K : Type 0} (k : Keeping K) (all : List Exchange) (old new : K) → HaveServed k all old new → KeepsSound k old new
kept_served k [] old new same = record {
  clean = λ clean. subst k.is_clean same clean;
  still = λ sound clean. subst k.is_sound (sym same) sound;
  sound = λ sound. subst k.is_sound same sound;
}
kept_served k (one ∷ all) old new (mid, before, goes, has) = sound_twice k old mid new (kept_served k all old mid before) has.premise

-- the state that a station's tables mean is lawful
is_lawful : (db : Reading) (s : State) → IsStateOf db s → IsLawfulState s
is_lawful db s in_ = subst IsLawfulState in_.means ((lawful_each in_.tables).0 (each_lawful db in_.tables in_.is_station)).1

-- no station of version 2 is in a database whose schema has no table of its waybills
abbrev IsBare : Schema → Type 0
IsBare schema = table_by_name schema waybill_name ≡ None

not_rows : (db : Database) (rows : List Row) → IsBare db.schema → found db waybill_name waybill_columns ≡ rows_of rows → ⊥
not_rows db rows bare is = absurd (let never : no_table ≡ rows_of rows = sym (ap (found_at db.trees waybill_columns) bare) ∙ is in cc)

is_bare : (db : Database) (s : State) → IsStateIn db s → IsBare db.schema → ⊥
is_bare db s in_ bare = let held = in_.is_station.1.1.1.1.1.1.1.1.1.1.1.0.held in not_rows db held.rows bare held.found_is

none_bare : IsBare no_schema
unfolding everything
none_bare = refl

old_bare : IsBare old_schema
unfolding everything
old_bare = refl

-- the two versions are declared differently
new_waybills : table_by_name station_schema waybill_name ≡ Some waybill2
unfolding everything
new_waybills = refl

two_versions : old_schema ≡ station_schema → ⊥
two_versions same = absurd (let never : ◌≡◌ {A = Option Table} (Some waybill2) None = sym new_waybills ∙ subst IsBare same old_bare in cc)

-- `init` makes a station
init_is_new : {A : Type 0} (db : Option A) (c : LineCommand) → c ≡ command.Init → is_new db c ≡ true
init_is_new None c is = refl
init_is_new (Some path) c is = ap (is_new (Some path)) is

given : {A B X : Type 0} (r : Result A B) → X → OnErr r X
given (Ok a) x = tt
given (Err e) x = x

-- the connection that an upgrade returned
abbrev moved_to : {C F : Type 0} → Result C (C × F) → C
moved_to (Ok moved) = moved
moved_to (Err none) = none.0

-- the trees of a new or upgraded station, with a state that may be its first
record IsBegun (May : State → Type 0) (db : Trees) : Type 0 where
  pub own : IsOwn db
  pub first : State
  pub may : May first
  pub typed : (schema : Schema) → IsTypedState (record { schema = schema; trees = db }) first
  pub law : IsLawfulState first

-- one call, and the next
module _ {S F L I W E : Type 0} {g : Ghosts S} (b : Backing (Held S) F L) (trees : List Object) (k : Keeping (Station S g)) (e : Ends I W E)
    (lies : LiesInOrder g)
    (settles : (it : S) (db : Trees) → IsTrue (g.view it).is_open → g.recovers it db → db ≡ (g.view it).committed)
    (closes : (ran : Held S) (end : Result F L) → HasEnded b ran end → b.was_true end → IfErr end b.numbered → LeadsOn g b trees ran end)
    (clean_is : (it : Station S g) → conn.HasCleanDisk (state g (connection_in it)) → k.is_clean it)
    (clean_was : (it : Station S g) → k.is_clean it → conn.HasCleanDisk (state g (connection_in it)))
    (sound_is : (at : Held S) (it : Station S g) → HasFound g k at (Ok it) → conn.HasCleanDisk (state g (connection_in it)) → IsOwn (state g at).now.trees → k.is_sound it)
    (own : (last : Station S g) (ran : Held S) → k.is_sound last → HasReleased k last ran → conn.HasCleanDisk (state g ran) → (db : Trees) → (state g ran).may_leave db → IsOwn db)
    (lawful : (it : Station S g) (s : State) → k.is_sound it → k.may_find it (Some s) → IsLawfulState s)
    (left_of : (c : LineCommand) (here : List ℕ) (at : LocalMinute) (s : State) (old new : Station S g × Reached I W E) (r : Result Bool RunFault)
    → k.keeps old.0 s → k.is_broken old.0 ≡ false → k.is_sound new.0 → HasDone c here k e at old new r
    → HasLeft (AsksAt c at) at (answers_inputs c) s (e.printed old.1.output).bytes (e.printed new.1.output).bytes (k.may_find new.0) r)
    (served_of : (all : List Exchange) (s : State) (old new : Station S g) → HaveServed k all old new → k.keeps old s → k.is_broken old ≡ false → k.is_sound new
    → HasServedInputs all s (k.is_broken new) (k.may_find new))
    (goes_on : (last : Station S g) (ran other : Held S) (opened : Result (Station S g) (Held S × AttachFault))
    → k.is_sound last → HasReleased k last ran → conn.HasCleanDisk (state g ran) → (state g ran).may_leave (state g other).now.trees
    → HasFound g k other opened → GoesOn g k last opened) where
  -- what a call leaves of its station, and the inputs that it answered there
  record Lived {line : Line} {conn : Held S} {end : FileEnd F L} (did : DidOver b k e line conn end) (s : State) (last : Station S g) : Type 0 where
    pub life : Life
    pub asked : AreInputsOf did life.inputs
    pub whole : end.status ≤ 1 → NoneLost did → (life.answered ≡ length life.inputs) × (life.ended ≡ None)
    pub is : (found : State) → k.may_find last (Some found) → IsAfterLife s life found
    pub said : HasSaidLife did s life

  record Ran {line : Line} {conn : Held S} {end : FileEnd F L} (did : DidOver b k e line conn end) (station : Station S g) : Type 0 where
    pub last : Station S g
    pub premise : KeepsSound k station last
    pub released : HasReleased k last (ran_in did).1
    pub lived : (s : State) → k.keeps station s → k.is_broken station ≡ false → k.is_sound last → Lived did s last

  -- a store that was given back was opened by a list in the order of its trees
  listed : (status : ℕ) (files : Result F L) → (1 < status → IfErr files (λ it. b.was_true (Err it) → b.numbered it)) → (status ≤ 1 → IfErr files b.numbered) → b.was_true files → IfErr files b.numbered
  listed status (Ok files) given known honest = tt
  listed status (Err it) given known honest = elim (cases_lt 1 status) [ inl more ↦ given more honest | inr few ↦ known few ]

  module _ (line : Line) (conn : Held S) (end : FileEnd F L) where
    abbrev Opened : Result (Station S g) (Held S × AttachFault) → Type 0
    Opened o = HasOpened g k (is_new line.db line.command) conn (here_of line.station) o

    opens_in : (did : DidOver b k e line conn end) (it : Station S g) → FindsIn did it → Opened (Ok it)
    opens_in (by_command ran runs) it is = subst Opened is (ran.has.called.called runs).opens
    opens_in (by_upgrade ran runs) it never = absurd never
    opens_in (by_service served) it is = subst Opened is served.has.called.opens

    moves_to : (r : Result (Held S) (Held S × AttachFault)) (old new : Reached I W E) (result : ℕ × Held S) → HasEndedMigration e.printed e.told r old new result → result.1 ≡ moved_to r
    moves_to (Ok moved) old new result ended = ended.conn
    moves_to (Err none) old new result ended = ended.conn

    moves_in : (did : DidOver b k e line conn end) (r : Result (Held S) (Held S × AttachFault)) → UpgradesIn did r → HasMoved g conn r × ((ran_in did).1 ≡ moved_to r)
    moves_in (by_command ran runs) r never = absurd never
    moves_in (by_upgrade ran runs) r is =
        let has = ran.has.called.migrated runs in
        (subst (λ r. HasMoved g conn r) is has.moves, moves_to has.migrated ran.from ran.has.behind ran.has.ran has.ended ∙ ap moved_to is)
    moves_in (by_service served) r never = absurd never

    is_upgrade : (did : DidOver b k e line conn end) (r : Result (Held S) (Held S × AttachFault)) → UpgradesIn did r → is_migration line.command ≡ true
    is_upgrade (by_command ran runs) r never = absurd never
    is_upgrade (by_upgrade ran runs) r is = runs
    is_upgrade (by_service served) r never = absurd never

    -- a call that found no station returns the connection of its fault
    fails_in : (did : DidOver b k e line conn end) (none : Held S × AttachFault) → FailsIn did none → (Opened (Err none) ⊎ UpgradesIn did (Err none)) × ((ran_in did).1 ≡ none.0)
    fails_in (by_command ran runs) none is =
        let has = ran.has.called.called runs in
        let ended : HasNoStation e.told none ran.from ran.has.behind ran.has.ran = subst (λ o. HasEndedCall line k e ran.at o ran.from ran.has.behind ran.has.ran) is has.ended in
        (inl (subst Opened is has.opens), ended.conn)
    fails_in (by_upgrade ran runs) none is = (inr is, (moves_in (by_upgrade ran runs) (Err none) is).1)
    fails_in (by_service served) none is =
        let has = served.has.called in
        let ended : HasEndedService k (e.printed, e.told) served.count has.all has.is_declared (Err none) (served.from, served.has.behind) served.has.ran =
        subst (λ o. HasEndedService k (e.printed, e.told) served.count has.all has.is_declared o (served.from, served.has.behind) served.has.ran) is has.ended in
        (inl (subst Opened is has.opens), ended.1.conn)

    closed_in : (did : DidOver b k e line conn end) → b.was_true end.files → ((ran_in did).0 ≤ 1 → IfErr end.files b.numbered) → LeadsOn g b trees (ran_in did).1 end.files
    closed_in (by_command ran runs) honest numbered =
        closes ran.has.ran.1 end.files ran.has.closed.ended honest (listed ran.has.ran.0 end.files ran.has.closed.numbered numbered honest)
    closed_in (by_upgrade ran runs) honest numbered =
        closes ran.has.ran.1 end.files ran.has.closed.ended honest (listed ran.has.ran.0 end.files ran.has.closed.numbered numbered honest)
    closed_in (by_service served) honest numbered =
        closes served.has.ran.1 end.files served.has.closed.ended honest (listed served.has.ran.0 end.files served.has.closed.numbered numbered honest)

    ends_in : (did : DidOver b k e line conn end) (station : Station S g) → FindsIn did station → Ran did station
    ends_in (by_upgrade ran runs) station never = absurd never
    ends_in (by_command ran runs) station is =
        let has = ran.has.called.called runs in
        let run : HasRunLine line k e ran.at station ran.from ran.has.behind ran.has.ran = subst (λ o. HasEndedCall line k e ran.at o ran.from ran.has.behind ran.has.ran) is has.ended in
        record {
          last = run.last;
          premise = run.ran.service.premise;
          released = run.released;
          lived = λ s kept works sound.
              let left = left_of line.command (here_of line.station) ran.at s (station, ran.from) (run.last, reached ran.has.behind.reader ran.has.behind.output run.ran.between) run.ran.ended kept works sound run.ran.done in
              record {
                life = record { inputs = left.inputs; answered = left.answered; ended = station_fault run.ran.ended };
                asked = left.asked;
                whole = λ low none. ends_well run.ran.ended left.inputs left.answered end.status ran.has.ran.0 run.ran.told.status_is (λ more. ap (λ (p : ℕ × E). p.0) (ran.has.closed.stopped more).0) left.all low;
                is = λ found may. left.left (Some found) may;
                said = map_answers (answers_inputs line.command) (λ sd. said_life s ran.at (record { inputs = left.inputs; answered = left.answered; ended = station_fault run.ran.ended })
                    (e.printed ran.from.output).bytes (e.printed ran.has.behind.output).bytes (e.printed ran.to.output).bytes end.status ran.has.ran.0 run.ran.ended left.turns left.are sd
                    (ap (λ out. (e.printed out).bytes) ran.has.unprinted) run.ran.told.status_is (λ more. ap (λ (p : ℕ × E). p.0) (ran.has.closed.stopped more).0)) left.said;
              };
        }
    ends_in (by_service served) station is =
        let has = served.has.called in
        let run : HasServedStation k (e.printed, e.told) served.count has.all has.is_declared station (served.from, served.has.behind) served.has.ran =
        subst (λ o. HasEndedService k (e.printed, e.told) served.count has.all has.is_declared o (served.from, served.has.behind) served.has.ran) is has.ended in
        let heard = run.ran.listened in
        let on = kept_served k has.all run.filled run.last heard.served in
        record {
          last = run.last;
          premise = sound_twice k station run.filled run.last run.reads.premise on;
          released = run.released;
          lived = λ s kept works sound.
              let still = run.reads.same s kept (on.sound sound) in
              let left = served_of has.all s run.filled run.last heard.served still (run.reads.breaks ∙ works) sound in
              record {
                life = record { inputs = left.inputs; answered = left.answered; ended = store_fault (k.is_broken run.last) };
                asked = left.asked;
                whole = λ low none.
                    let goes = went_on (All ServesOn has.all) run.ran.ended end.status served.has.ran.0 run.ran.status_is (λ more. ap (λ (p : ℕ × E). p.0) (served.has.closed.stopped more).0) heard.goes low in
                    let works_on = left.works goes none in
                    (left.whole works_on, ap store_fault works_on);
                is = λ found may. left.left (Some found) may;
                said = tt;
              };
        }

  -- what the opening of a run found or made
  found_by : (c : RunOn b k e) → makes_station c.call ≡ false → HasFound g k c.call.conn (Ok c.station)
  found_by c old =
      subst (λ new. HasOpened g k new c.call.conn (here_of c.call.line.station) (Ok c.station)) old (opens_in c.call.line c.call.conn c.call.end c.call.did c.station c.found)

  works_by : (c : RunOn b k e) → k.is_broken c.station ≡ false
  works_by c = go (makes_station c.call) (opens_in c.call.line c.call.conn c.call.end c.call.did c.station c.found)
    where
      go : (new : Bool) → HasOpened g k new c.call.conn (here_of c.call.line.station) (Ok c.station) → k.is_broken c.station ≡ false
      go true made = made.works
      go false found = found.works

  ends_by : (c : RunOn b k e) → Ran c.call.did c.station
  ends_by c = ends_in c.call.line c.call.conn c.call.end c.call.did c.station c.found

  closed_by : (c : CallOn b k e) → WasTrue c → LeadsOn g b trees (ran_in c.did).1 c.end.files
  closed_by c honest = closed_in c.line c.conn c.end c.did honest.0 honest.1

  -- what a run leaves is a station's
  leaves_own : (c : RunOn b k e) → WasTrue c.call → k.is_sound (ends_by c).last → LeavesKnown g b trees (ran_in c.call.did).1
  leaves_own c honest sound db may = inr (inl (own (ends_by c).last (ran_in c.call.did).1 sound (ends_by c).released (closed_by c.call honest).clean db may))

  last_clean : (c : RunOn b k e) → WasTrue c.call → k.is_clean (ends_by c).last
  last_clean c honest = clean_is _ ((ends_by c).released.clean (closed_by c.call honest).clean)

  station_clean : (c : RunOn b k e) → WasTrue c.call → conn.HasCleanDisk (state g (connection_in c.station))
  station_clean c honest = clean_was _ ((ends_by c).premise.clean (last_clean c honest))

  -- no station is made where there is one, and the connection is returned as it came
  left_alone : (conn : Held S) (here : List ℕ) (none : Held S × AttachFault) → HasMade g k conn here (Err none) → none.1 ≡ attach.Occupied → none.0 ≡ conn
  left_alone conn here none made occupied = elim (cases_Bool (connection_view g conn).in_transaction) [
    | inl inside ↦ absurd (let store = ap (λ r. (fault_or none r).1) (made.inside inside) in cc)
    | inr outside ↦ ap (λ r. (fault_or none r).0) (made.occupied outside (made.taken occupied))
  ]

  -- a vain call leaves what it found
  vain_leaves : (c : CallOn b k e) → IsVain c → conn.Opens (state g c.conn) → WasTrue c → (db : Trees) → (state g (ran_in c.did).1).may_leave db → db ≡ (state g c.conn).committed.trees
  vain_leaves c vain opens honest db may =
      let failed = fails_in c.line c.conn c.end c.did vain.none vain.failed in
      let clean = subst (λ (h : Held S). conn.HasCleanDisk (state g h)) failed.1 (closed_by c honest).clean in
      let there = subst (λ (h : Held S). (state g h).may_leave db) failed.1 may in
      settles c.conn.store db opens.is_open (elim failed.0 [
        | inl opened ↦ elim (cases_Bool (makes_station c)) [
          | inl new ↦
              let made = subst (λ new. HasOpened g k new c.conn (here_of c.line.station) (Err vain.none)) new opened in
              subst (λ (h : Held S). (state g h).may_leave db) (left_alone c.conn (here_of c.line.station) vain.none made (vain.occupied new)) there
          | inr old ↦
              let found = subst (λ new. HasOpened g k new c.conn (here_of c.line.station) (Err vain.none)) old opened in
              either (found.unwritten_at_err.crash clean db there)
        ]
        | inr moves ↦
            let has = (moves_in c.line c.conn c.end c.did (Err vain.none) moves).0 in
            either ((⊎_elim has.spares (has.only clean) (vain.refused moves)).crash clean db there)
      ])

  -- any database of files that are shown whole, one of a station, or what an opening found
  abbrev Known : Trees → Type 0
  Known db = b.is_whole ⊎ (IsOwn db ⊎ ((files : F) × (was : Held S) × b.finds trees files was × (db ≡ (state g was).committed.trees)))

  -- a call leaves only such databases, of which P holds
  abbrev Leaves : (Trees → Type 0) → CallOn b k e → Type 0
  Leaves P c = (db : Trees) → (state g (ran_in c.did).1).may_leave db → P db × Known db

  -- and P holds of what an opening of these files shows
  abbrev Shows : (Trees → Type 0) → F → Type 0
  Shows P files = (other : Held S) → b.finds trees files other → ∥ P (state g other).committed.trees ∥₁

  shows_next : (P : Trees → Type 0) (c : CallOn b k e) → WasTrue c → Leaves P c → (files : F) → b.may_hold c.end.files files → Shows P files
  shows_next P c honest leaves files may other finds =
      ∥∥₁_map ((closed_by c honest).next (λ db left. (leaves db left).1) files may other finds) (λ left. (leaves (state g other).committed.trees left).0)

  -- what each call of a kind keeps is kept through calls of that kind
  through : (P : Trees → Type 0) (Kind : CallOn b k e → Type 0) → ((c : OpenedOn b trees k e) → Kind c.call → WasTrue c.call → P (state g c.call.conn).committed.trees → Leaves P c.call)
      → (from : Result F L) (cs : List (OpenedOn b trees k e)) (files : F) → ((f : F) → b.may_hold from f → Shows P f)
      → AllByRecursion (λ (c : OpenedOn b trees k e). Kind c.call) cs → AreBetween trees from cs files → Shows P files
  through P Kind keeps from [] files base each may = base files may
  through P Kind keeps from (c ∷ cs) files base (one, each) (may, honest, rest) =
      through P Kind keeps c.call.end.files cs files (λ f may_f other finds.
      ∥∥₁_elim (base c.reopens.files may c.call.conn c.reopens.finds) squash₁ (λ here. shows_next P c.call honest (keeps c one honest here) f may_f other finds)) each rest

  keeps_vain : (P : Trees → Type 0) (c : OpenedOn b trees k e) → IsVain c.call → WasTrue c.call → P (state g c.call.conn).committed.trees → Leaves P c.call
  keeps_vain P c vain honest here db may =
      let same = vain_leaves c.call vain c.reopens.opens honest db may in
      (subst P (sym same) here, inr (inr (c.reopens.files, c.call.conn, c.reopens.finds, same)))

  record Next (s : State) (c d : RunOn b k e) : Type 0 where
    pub mid : State
    pub kept : k.keeps d.station mid
    pub sound : k.is_sound d.station
    pub law : IsLawfulState mid
    pub life : Life
    pub of : IsLifeOf s c life
    pub is : IsAfterLife s life mid

  next : (s : State) (c d : RunOn b k e) → IsNext trees IsVain c.call.end.files d → k.keeps c.station s → k.is_sound c.station → WasTrue c.call → WasTrue d.call → ∥ Next s c d ∥₁
  next s c d n kept sound honest honest_d =
      let run = ends_by c in
      let ran = ran_in c.call.did in
      let last_sound = run.premise.still sound (last_clean c honest) in
      let lived = run.lived s kept (works_by c) last_sound in
      let closed = closed_by c.call honest in
      let Left = (state g ran.1).may_leave in
      let leaves : Leaves Left c.call = λ db may. (may, leaves_own c honest last_sound db may) in
      ∥∥₁_map (through Left IsVain (keeps_vain Left) c.call.end.files n.between n.reopens.files (shows_next Left c.call honest leaves) n.each n.hold d.call.conn n.reopens.finds) (λ may_leave.
      let shown = subst (λ (db : Database). (state g ran.1).may_leave db.trees) (sym n.reopens.opens.clean) may_leave in
      let on = goes_on run.last ran.1 d.call.conn (Ok d.station) last_sound run.released closed.clean shown (found_by d n.old) in
      let clean = station_clean d honest_d in
      let it = on.found clean in
      record {
        mid = it.0;
        kept = it.2;
        sound = on.sound clean;
        law = lawful run.last it.0 last_sound it.1;
        life = lived.life;
        of = record { said = lived.said; asked = lived.asked; whole = lived.whole };
        is = lived.is it.0 it.1;
      })

  record Chain (s : State) (c : RunOn b k e) (ds : List (RunOn b k e)) : Type 0 where
    pub last : State
    pub kept : k.keeps (last_of c ds).station last
    pub law : IsLawfulState last
    pub lives : List Life
    pub each : AreLivesOf s c ds lives
    pub are : AreLives s lives last

  first_true : (d : RunOn b k e) (ds : List (RunOn b k e)) → AreRuns trees d ds → WasTrue d.call
  first_true d [] are = are
  first_true d (more ∷ ds) are = are.0

  chain : (s : State) (c : RunOn b k e) (ds : List (RunOn b k e)) → k.keeps c.station s → k.is_sound c.station → IsLawfulState s → AreRuns trees c ds → ∥ Chain s c ds ∥₁
  chain s c [] kept sound law are = ∣ record { last = s; kept = kept; law = law; lives = []; each = tt; are = refl } ∣₁
  chain s c (d ∷ ds) kept sound law (honest, may, are) =
      ∥∥₁_elim (next s c d may kept sound honest (first_true d ds are)) squash₁ (λ one.
      ∥∥₁_map (chain one.mid d ds one.kept one.sound one.law are) (λ rest. record {
        last = rest.last;
        kept = rest.kept;
        law = rest.law;
        lives = one.life ∷ rest.lives;
        each = (one.of, (one.mid, one.kept, one.is, rest.each));
        are = (one.mid, one.is, rest.are);
      }))

  -- ---- the first run

  record Started (May : State → Type 0) (run : RunOn b k e) : Type 0 where
    pub first : State
    pub may : May first
    pub law : IsLawfulState first
    pub kept : k.keeps run.station first
    pub sound : k.is_sound run.station

  -- a run that finds the tables of a new or upgraded station keeps its first state
  started : (May : State → Type 0) (run : RunOn b k e) → WasTrue run.call → makes_station run.call ≡ false → conn.Opens (state g run.call.conn) → IsBegun May (state g run.call.conn).committed.trees → Started May run
  started May run honest old opens begun =
      let found = found_by run old in
      let clean = station_clean run honest in
      let sound = sound_is run.call.conn run.station found clean (subst (λ (db : Database). IsOwn db.trees) (sym opens.clean) begun.own) in
      let it = found.found clean in
      let typed = subst (λ (db : Database). IsTypedState db it.0) opens.clean (found.typed sound it.0 it.1) in
      let same : it.0 ≡ begun.first = sym typed.means.1 ∙ (begun.typed (state g run.call.conn).committed.schema).means.1 in
      record { first = begun.first; may = begun.may; law = begun.law; kept = subst (k.keeps run.station) same it.2; sound = sound }

  -- the connection of a call that was just opened, over a database that is known
  record IsShown (c : CallOn b k e) : Type 0 where
    pub opens : conn.Opens (state g c.conn)
    pub now : IsDatabase (state g c.conn).now
    pub known : Known (state g c.conn).committed.trees

  shown_by : (first : CallOn b k e) → WasTrue first → (c : CallOn b k e) → Reopens b trees k e c → IsShown c
  shown_by first honest c re = record {
    opens = re.opens;
    now = ((closed_by first honest).live re.files c.conn re.finds re.opens.is_open).0;
    known = inr (inr (re.files, c.conn, re.finds, refl));
  }

  -- After a first call, an opening shows what that call found, or a new or upgraded station.
  abbrev Left : CallOn b k e → (State → Type 0) → Trees → Type 0
  Left first May db = (IsShown first × (db ≡ (state g first.conn).committed.trees)) ⊎ IsBegun May db

  known : (first : CallOn b k e) (May : State → Type 0) (db : Trees) → Left first May db → Left first May db × Known db
  known first May db (inl (at, is)) = (inl (at, is), subst Known (sym is) at.known)
  known first May db (inr begun) = (inr begun, inr (inl begun.own))

  -- the same trees have one schema
  same_now : (first c : CallOn b k e) → IsShown first → IsShown c → (state g c.conn).committed.trees ≡ (state g first.conn).committed.trees → (state g c.conn).now ≡ (state g first.conn).now
  same_now first c at shown is =
      let was = (state g first.conn).now in
      let now = (state g c.conn).now in
      let same : now.trees ≡ was.trees = ap (λ (db : Database). db.trees) shown.opens.clean ∙ is ∙ sym (ap (λ (db : Database). db.trees) at.opens.clean) in
      let schema = lists_once (was.trees catalog_tree) now.schema was.schema (subst (IsSound now.schema) same shown.now).lists at.now.lists in
      λ i. record { schema = schema i; trees = same i }

  or_vain : (P : Trees → Type 0) (Kind : CallOn b k e → Type 0) → ((c : OpenedOn b trees k e) → Kind c.call → WasTrue c.call → P (state g c.call.conn).committed.trees → Leaves P c.call)
      → (c : OpenedOn b trees k e) → IsVain c.call ⊎ Kind c.call → WasTrue c.call → P (state g c.call.conn).committed.trees → Leaves P c.call
  or_vain P Kind keeps c (inl vain) honest here = keeps_vain P c vain honest here
  or_vain P Kind keeps c (inr is) honest here = keeps c is honest here

  begins : (first : CallOn b k e) → WasTrue first → (May : State → Type 0) → (IsShown first → IsBare (state g first.conn).now.schema) → (Kind : CallOn b k e → Type 0)
      → ((c : OpenedOn b trees k e) → Kind c.call → WasTrue c.call → Left first May (state g c.call.conn).committed.trees → Leaves (Left first May) c.call) → Leaves (Left first May) first
      → (run : RunOn b k e) → IsNext trees (λ c. IsVain c ⊎ Kind c) first.end.files run → WasTrue run.call → ∥ Started May run ∥₁
  begins first honest May bare Kind keeps leaves run next honest_run =
      ∥∥₁_map (through (Left first May) (λ c. IsVain c ⊎ Kind c) (or_vain (Left first May) Kind keeps) first.end.files next.between next.reopens.files
      (shows_next (Left first May) first honest leaves) next.each next.hold run.call.conn next.reopens.finds) (λ shown. elim shown as (λ _. Started May run) [
        | inl (at, is) ↦
            let found = (found_by run next.old).found (station_clean run honest_run) in
            let same = same_now first run.call at (shown_by first honest run.call next.reopens) is in
            absurd (is_bare (state g first.conn).now found.0 (subst (λ db. IsStateIn db found.0) same found.1) (bare at))
        | inr begun ↦ started May run honest_run next.old next.reopens.opens begun
      ])

  -- what an upgrade leaves of tables that mean a state
  upgraded : (c : CallOn b k e) (up : IsUpgrade c) (s : State) → IsOldStateIn (state g c.conn).now s → WasTrue c → (Re : Type 0) → OnErr up.migrated Re → (db : Trees) → (state g (ran_in c.did).1).may_leave db
      → (Re × (state g c.conn).may_leave db) ⊎ IsBegun (λ t. t ≡ s) db
  upgraded c up s in_ honest Re re db may = go up.migrated up.upgrades re
    where
      begun : IsMigrated (state g c.conn).now db → IsBegun (λ t. t ≡ s) db
      begun it = record { own = it.own; first = s; may = refl; typed = λ schema. record { means = it.means s in_ }; law = is_lawful _ s in_ }

      go : (r : Result (Held S) (Held S × AttachFault)) → UpgradesIn c.did r → OnErr r Re → (Re × (state g c.conn).may_leave db) ⊎ IsBegun (λ t. t ≡ s) db
      go (Ok moved) is re =
          let moves = moves_in c.line c.conn c.end c.did (Ok moved) is in
          let clean = subst (λ (h : Held S). conn.HasCleanDisk (state g h)) moves.1 (closed_by c honest).clean in
          let has = moves.0.moved clean up.old lies in
          inr (begun (subst (IsMigrated (state g c.conn).now) (sym (has.alone db (subst (λ (h : Held S). (state g h).may_leave db) moves.1 may))) has.migrated))
      go (Err none) is re =
          let moves = moves_in c.line c.conn c.end c.did (Err none) is in
          let clean = subst (λ (h : Held S). conn.HasCleanDisk (state g h)) moves.1 (closed_by c honest).clean in
          elim (moves.0.leaves clean up.old lies db (subst (λ (h : Held S). (state g h).may_leave db) moves.1 may)) [ inl was ↦ inl (re, was) | inr it ↦ inr (begun it) ]

  -- what an `init` that failed leaves
  init_leaves : (c : CallOn b k e) (airports : List (List ℕ)) → IsFailedInit c airports → conn.Opens (state g c.conn) → WasTrue c → (db : Trees) → (state g (ran_in c.did).1).may_leave db
      → (db ≡ (state g c.conn).committed.trees) ⊎ IsBegun (λ t. (here : List ℕ) × Contains airports here × (t ≡ opening here)) db
  init_leaves c airports init opens honest db may =
      let failed = fails_in c.line c.conn c.end c.did init.none init.failed in
      let clean = subst (λ (h : Held S). conn.HasCleanDisk (state g h)) failed.1 (closed_by c honest).clean in
      let there = subst (λ (h : Held S). (state g h).may_leave db) failed.1 may in
      elim failed.0 [
        | inl opened ↦
            let made = subst (λ new. HasOpened g k new c.conn (here_of c.line.station) (Err init.none)) (init_is_new c.line.db c.line.command init.init) opened in
            elim (made.survives.crash clean db there) [
              | inl was ↦ inl (settles c.conn.store db opens.is_open was)
              | inr file ↦
                  let it = file init.vacant in
                  inr (record { own = it.own; first = opening (here_of c.line.station); may = (here_of c.line.station, init.here, refl); typed = λ schema. record { means = it.means }; law = it.lawful })
            ]
        | inr moves ↦ absurd (let never : true ≡ false = sym (is_upgrade c.line c.conn c.end c.did (Err init.none) moves) ∙ ap is_migration init.init in cc)
      ]

  -- the same, and the next upgrades
  module _ (first : CallOn b k e) (honest : WasTrue first) (up : IsUpgrade first) (s : State) (means : IsOldStateIn (state g first.conn).now s)
      (reopens : OnErr up.migrated (Reopens b trees k e first)) where
    abbrev May : State → Type 0
    May t = t ≡ s

    upgrade_first : Leaves (Left first May) first
    upgrade_first db may = known first May db (elim (upgraded first up s means honest (Reopens b trees k e first) reopens db may) [
      | inl (re, was) ↦ inl (shown_by first honest first re, settles first.conn.store db re.opens.is_open was)
      | inr begun ↦ inr begun
    ])

    upgrade_again : (c : OpenedOn b trees k e) → IsUpgrade c.call → WasTrue c.call → Left first May (state g c.call.conn).committed.trees → Leaves (Left first May) c.call
    upgrade_again c again honest_c (inl (at, is)) db may =
        let in_ = subst (λ db. IsOldStateIn db s) (sym (same_now first c.call at (shown_by first honest c.call c.reopens) is)) means in
        known first May db (elim (upgraded c.call again s in_ honest_c (Unit {0}) (given again.migrated tt) db may) [
          | inl (nothing, was) ↦ inl (at, settles c.call.conn.store db c.reopens.opens.is_open was ∙ is)
          | inr begun ↦ inr begun
        ])
    upgrade_again c again honest_c (inr begun) db may =
        let now = (state g c.call.conn).now in
        let shown = shown_by first honest c.call c.reopens in
        let is_own = subst (λ (db : Database). IsOwn db.trees) (sym shown.opens.clean) begun.own in
        absurd (two_versions (sym (owned_old now again.old shown.now) ∙ owned now is_own shown.now))

    upgrade_bare : IsShown first → IsBare (state g first.conn).now.schema
    upgrade_bare at = subst IsBare (sym (owned_old (state g first.conn).now up.old at.now)) old_bare

  module _ (first : CallOn b k e) (honest : WasTrue first) (airports : List (List ℕ)) (init : IsFailedInit first airports)
      (opens : conn.Opens (state g first.conn)) (live : conn.IsLive (state g first.conn)) (whole : b.is_whole) where
    abbrev MayMake : State → Type 0
    MayMake t = (here : List ℕ) × Contains airports here × (t ≡ opening here)

    init_first : Leaves (Left first MayMake) first
    init_first db may = known first MayMake db (elim (init_leaves first airports init opens honest db may) [
      | inl is ↦ inl (record { opens = opens; now = (live opens.is_open).0; known = inl whole }, is)
      | inr begun ↦ inr begun
    ])

    init_again : (c : OpenedOn b trees k e) → IsFailedInit c.call airports → WasTrue c.call → Left first MayMake (state g c.call.conn).committed.trees → Leaves (Left first MayMake) c.call
    init_again c again honest_c here db may = known first MayMake db (elim (init_leaves c.call airports again c.reopens.opens honest_c db may) [
      | inl is ↦ subst (Left first MayMake) (sym is) here
      | inr begun ↦ inr begun
    ])

  start : (run : RunOn b k e) (begins : Begins trees run) → WasTrue run.call → ∥ Started (MayBegin begins) run ∥₁
  start run (with_station s law kept sound) honest = ∣ record { first = s; may = refl; law = law; kept = kept; sound = sound } ∣₁
  start run (after_upgrade it) honest = begins it.first it.honest (λ t. t ≡ it.was) (upgrade_bare it.first it.honest it.upgrade it.was it.means it.reopens) IsUpgrade
      (upgrade_again it.first it.honest it.upgrade it.was it.means it.reopens) (upgrade_first it.first it.honest it.upgrade it.was it.means it.reopens) run it.next honest
  start run (after_init it) honest = begins it.first it.honest (λ t. (here : List ℕ) × Contains it.airports here × (t ≡ opening here)) (λ at. subst IsBare (sym it.init.vacant) none_bare) (λ c. IsFailedInit c it.airports)
      (init_again it.first it.honest it.airports it.init it.opens.0 it.opens.1 it.whole) (init_first it.first it.honest it.airports it.init it.opens.0 it.opens.1 it.whole) run it.next honest

  pub have_led : ((start : State) (events : List RetryEvent) → ActsOnce start events) → (run : RunOn b k e) (begins : Begins trees run) (runs : List (RunOn b k e)) → AreRuns trees run runs → ∥ HaveLed begins runs ∥₁
  have_led once run begins runs are =
      ∥∥₁_elim (start run begins (first_true run runs are)) squash₁ (λ it.
      ∥∥₁_map (chain it.first run runs it.kept it.sound it.law are) (λ all. record {
        first = it.first;
        begun = it.may;
        last = all.last;
        kept = all.kept;
        lives = all.lives;
        each = all.each;
        are = after_calls once it.first all.lives all.last all.law all.are;
      }))
