-- Calls of the program over one file, one after another.
use Rattle.std.specs.Prelude.{◌≤◌, ◌≡◌, ◌≢◌, ◌⊎◌, ℕ, zero, suc, Bool, true, false, Result, Ok, Err, IfErr, OnErr, Option, Some, None, length, List, [], ◌∷◌, ◌++◌, All, Contains, take}
use Rattle.cli_call.specs.Common.{AllByRecursion, state, Held, IsLive, Opens, Object, Ghosts, LocalMinute, Input, Keeping, RetryEvent, sent, cut_after, reopened, started, ActsOnce, committed, State, IsLawfulState, after_all, opening, Backing, IsVacant, IsOldOwn, IsOldStateIn, Life, IsAfterLife, IsAfterLives, IfAnswers, answers_inputs, Turn, turns_inputs, turns_text, AttachFault, Station, Line, Ends, Reached, AsksAt, here_of, is_migration, is_new, AreAskedBy, WasWritten, FileEnd}
use Rattle.station_core.specs.declared.answer.ActFault.TheVariants as fault
use Rattle.station_tables.specs.declared.attaching.AttachFault.TheVariants as attach
use Rattle.cli_words.specs.declared.line.LineCommand.TheVariants as command
use Rattle.cli_call.specs.Ran.{HasCalledFile, HasServedFile}

module _ {S F L I W E : Type 0} {g : Ghosts S} (b : Backing (Held S) F L) (k : Keeping (Station S g)) (e : Ends I W E)
    (line : Line) (conn : Held S) (end : FileEnd F L) where
  -- a command line ran over a connection to a file, which was then closed
  pub record RanOver : Type 0 where
    pub at : LocalMinute
    pub from : Reached I W E
    pub to : Reached I W E
    pub has : HasCalledFile b line k e at conn (from, to) end

  -- connections were served over a connection to a file, which was then closed
  pub record ServedOver : Type 0 where
    pub count : Option ℕ
    pub from : W × E
    pub to : W × E
    pub has : HasServedFile b line k (e.printed, e.told) count conn (from, to) end

  -- one of the two; a command line may be an upgrade
  pub data DidOver : Type 0 where
    by_command : RanOver → is_migration line.command ≡ false → DidOver
    by_upgrade : RanOver → is_migration line.command ≡ true → DidOver
    by_service : ServedOver → DidOver

module _ {S F L I W E : Type 0} {g : Ghosts S} {b : Backing (Held S) F L} {k : Keeping (Station S g)} {e : Ends I W E}
    {line : Line} {conn : Held S} {end : FileEnd F L} where
  -- the opening found this station or made it
  abbrev pub FindsIn : DidOver b k e line conn end → Station S g → Type 0
  FindsIn (by_command ran runs) it = (ran.has.called.called runs).opened ≡ Ok it
  FindsIn (by_upgrade ran runs) it = ⊥
  FindsIn (by_service served) it = served.has.called.opened ≡ Ok it

  -- it returned this connection and this fault
  abbrev pub FailsIn : DidOver b k e line conn end → Held S × AttachFault → Type 0
  FailsIn (by_command ran runs) none = (ran.has.called.called runs).opened ≡ Err none
  FailsIn (by_upgrade ran runs) none = (ran.has.called.migrated runs).migrated ≡ Err none
  FailsIn (by_service served) none = served.has.called.opened ≡ Err none

  -- the call was an upgrade with this result
  abbrev pub UpgradesIn : DidOver b k e line conn end → Result (Held S) (Held S × AttachFault) → Type 0
  UpgradesIn (by_command ran runs) result = ⊥
  UpgradesIn (by_upgrade ran runs) result = (ran.has.called.migrated runs).migrated ≡ result
  UpgradesIn (by_service served) result = ⊥

  -- the exit status before the file was closed, and its connection
  abbrev pub ran_in : DidOver b k e line conn end → ℕ × Held S
  ran_in (by_command ran runs) = ran.has.ran
  ran_in (by_upgrade ran runs) = ran.has.ran
  ran_in (by_service served) = served.has.ran

  -- the inputs are those of the command, at its moment, an upgrade has none; or those of the
  -- connections that were served, each at its moment, in their order
  abbrev pub AreInputsOf : DidOver b k e line conn end → List (Input × LocalMinute) → Type 0
  AreInputsOf (by_command ran runs) inputs = AllByRecursion (AsksAt line.command ran.at) inputs
  AreInputsOf (by_upgrade ran runs) inputs = inputs ≡ []
  AreInputsOf (by_service served) inputs = AreAskedBy served.has.called.all inputs

  -- no write of a service's answer failed
  abbrev pub NoneLost : DidOver b k e line conn end → Type 0
  NoneLost (by_command ran runs) = Unit {0}
  NoneLost (by_upgrade ran runs) = Unit {0}
  NoneLost (by_service served) = All WasWritten served.has.called.all

module _ {S F L I W E : Type 0} {g : Ghosts S} (b : Backing (Held S) F L) (k : Keeping (Station S g)) (e : Ends I W E) where
  -- A call of the program: it ran a command line over a connection to a file or served, and closed
  -- the file. Any fault may have ended it.
  pub record CallOn : Type 0 where
    pub conn : Held S
    pub line : Line
    pub end : FileEnd F L
    pub did : DidOver b k e line conn end

module _ {S F L I W E : Type 0} {g : Ghosts S} {b : Backing (Held S) F L} {k : Keeping (Station S g)} {e : Ends I W E} where
  -- the call makes a station, as `init` does
  abbrev pub makes_station : CallOn b k e → Bool
  makes_station call = is_new call.line.db call.line.command

  -- The disk returned what was written. If the log couldn't be copied, the store was opened by a
  -- list in the order of its trees.
  abbrev pub WasTrue : CallOn b k e → Type 0
  WasTrue call = b.was_true call.end.files × ((ran_in call.did).0 ≤ 1 → IfErr call.end.files b.numbered)

module _ {S F L I W E : Type 0} {g : Ghosts S} (b : Backing (Held S) F L) (k : Keeping (Station S g)) (e : Ends I W E) where
  -- a call that found a station or made it, and ran its command or served there
  pub record RunOn : Type 0 where
    pub call : CallOn b k e
    pub station : Station S g
    pub found : FindsIn call.did station

-- What was printed is the answers to exactly the inputs that were answered, each at the state after
-- those before it, and to what can't be read; or a prefix, if a fault ended the call.
pub record HasPrintedLife (s : State) (at : LocalMinute) (life : Life) (before after : List ℕ) (status : ℕ) : Type 0 where
  pub turns : List Turn
  pub are : take life.answered life.inputs ≡ turns_inputs at turns
  pub rest : List ℕ
  pub part : before ++ turns_text s at turns ≡ after ++ rest
  pub whole : status ≤ 1 → rest ≡ []

module _ {S F L I W E : Type 0} {g : Ghosts S} {b : Backing (Held S) F L} {k : Keeping (Station S g)} {e : Ends I W E}
    {line : Line} {conn : Held S} {end : FileEnd F L} where
  -- the same of a command that answers inputs
  abbrev pub HasSaidLife : DidOver b k e line conn end → State → Life → Type 0
  HasSaidLife (by_command ran runs) s life =
      IfAnswers (answers_inputs line.command) (HasPrintedLife s ran.at life (e.printed ran.from.output).bytes
      (e.printed ran.to.output).bytes end.status)
  HasSaidLife (by_upgrade ran runs) s life = Unit {0}
  HasSaidLife (by_service served) s life = Unit {0}

-- The inputs of a life are those of its call, which began with this state. What it printed is the
-- answers to those that were answered. A call that succeeded answered all of them; a service did if
-- no write of an answer failed.
pub record IsLifeOf {S F L I W E : Type 0} {g : Ghosts S} {b : Backing (Held S) F L} {k : Keeping (Station S g)} {e : Ends I W E}
    (s : State) (c : RunOn b k e) (life : Life) : Type 0 where
  pub said : HasSaidLife c.call.did s life
  pub asked : AreInputsOf c.call.did life.inputs
  pub whole : c.call.end.status ≤ 1 → NoneLost c.call.did
      → (life.answered ≡ length life.inputs) × (life.ended ≡ None)

module _ {S F L I W E : Type 0} {g : Ghosts S} (b : Backing (Held S) F L) (trees : List Object) (k : Keeping (Station S g))
    (e : Ends I W E) where
  -- the call opened these two files by the list of their trees
  pub record Reopens (call : CallOn b k e) : Type 0 where
    pub files : F
    pub opens : Opens (state g call.conn)
    pub finds : b.finds trees files call.conn

  -- a call that opened two files
  pub record OpenedOn : Type 0 where
    pub call : CallOn b k e
    pub reopens : Reopens call

module _ {S F L I W E : Type 0} {g : Ghosts S} {b : Backing (Held S) F L} {k : Keeping (Station S g)} {e : Ends I W E}
    (call : CallOn b k e) where
  -- A vain call: it found no station, or a fault stopped its opening. An `init` or an upgrade is
  -- vain if it was refused, an upgrade also if the tables weren't lawful ones of version 1.
  pub record IsVain : Type 0 where
    pub none : Held S × AttachFault
    pub failed : FailsIn call.did none
    pub occupied : makes_station call ≡ true → none.1 ≡ attach.Occupied
    pub refused : UpgradesIn call.did (Err none)
        → (none.1 ≢ attach.Store) ⊎ ¬ ((s : State) × IsOldStateIn (state g call.conn).now s)

  -- an upgrade, however it ended, of a file whose tables a station of version 1 declared
  pub record IsUpgrade : Type 0 where
    pub migrated : Result (Held S) (Held S × AttachFault)
    pub upgrades : UpgradesIn call.did migrated
    pub old : IsOldOwn (state g call.conn).now.trees

  -- an `init` at one of these airports that failed, over a database without tables
  pub record IsFailedInit (airports : List (List ℕ)) : Type 0 where
    pub none : Held S × AttachFault
    pub failed : FailsIn call.did none
    pub init : call.line.command ≡ command.Init
    pub here : Contains airports (here_of call.line.station)
    pub vacant : IsVacant g call.conn

module _ {S F L I W E : Type 0} {g : Ghosts S} {b : Backing (Held S) F L} (trees : List Object) {k : Keeping (Station S g)}
    {e : Ends I W E} where
  -- Calls after the end of another, each of which finds in the files what the one before it may
  -- have left there, and what they hold then. Nobody else wrote to them.
  abbrev pub AreBetween : Result F L → List (OpenedOn b trees k e) → F → Type 0
  AreBetween end [] files = b.may_hold end files
  AreBetween end (call ∷ more) files =
      b.may_hold end call.reopens.files × WasTrue call.call × AreBetween call.call.end.files more files

  -- a run that found a station, after the end of another call and calls of a kind
  pub record IsNext (Kind : CallOn b k e → Type 0) (end : Result F L) (run : RunOn b k e) : Type 0 where
    pub between : List (OpenedOn b trees k e)
    pub each : AllByRecursion (λ (it : OpenedOn b trees k e). Kind it.call) between
    pub reopens : Reopens b trees k e run.call
    pub hold : AreBetween end between reopens.files
    pub old : makes_station run.call ≡ false

  -- runs over one file, one after another and each after some vain calls
  abbrev pub AreRuns : RunOn b k e → List (RunOn b k e) → Type 0
  AreRuns c [] = WasTrue c.call
  AreRuns c (d ∷ ds) = WasTrue c.call × IsNext IsVain c.call.end.files d × AreRuns d ds

module _ {S F L I W E : Type 0} {g : Ghosts S} {b : Backing (Held S) F L} {k : Keeping (Station S g)} {e : Ends I W E} where
  abbrev pub last_of : RunOn b k e → List (RunOn b k e) → RunOn b k e
  last_of c [] = c
  last_of c (d ∷ ds) = last_of d ds

  -- the lives of the runs except the last one, each from the state that its opening found
  abbrev pub AreLivesOf : State → RunOn b k e → List (RunOn b k e) → List Life → Type 0
  AreLivesOf s c (d ∷ ds) (life ∷ lives) =
      IsLifeOf s c life
      × ((mid : State) × k.keeps d.station mid × IsAfterLife s life mid × AreLivesOf mid d ds lives)
  AreLivesOf s c [] [] = Unit {0}
  AreLivesOf _ _ _ _ = ⊥

module _ {S F L I W E : Type 0} {g : Ghosts S} {b : Backing (Held S) F L} (trees : List Object) {k : Keeping (Station S g)}
    {e : Ends I W E} (run : RunOn b k e) where
  -- The run comes after an upgrade of a file of version 1 whose tables mean this state, and perhaps
  -- vain calls and more upgrades. An upgrade that succeeded may have opened the files differently.
  pub record IsAfterUpgrade : Type 0 where
    pub first : CallOn b k e
    pub upgrade : IsUpgrade first
    pub was : State
    pub means : IsOldStateIn (state g first.conn).now was
    pub reopens : OnErr upgrade.migrated (Reopens b trees k e first)
    pub honest : WasTrue first
    pub next : IsNext trees (λ it. IsVain it ⊎ IsUpgrade it) first.end.files run

  -- The run comes after an `init` that failed, and perhaps vain calls and more such inits. The
  -- first one may have started the database, and the calls show the files whole.
  pub record IsAfterInit : Type 0 where
    pub airports : List (List ℕ)
    pub first : CallOn b k e
    pub init : IsFailedInit first airports
    pub opens : Opens (state g first.conn) × IsLive (state g first.conn)
    pub whole : b.is_whole
    pub honest : WasTrue first
    pub next : IsNext trees (λ it. IsVain it ⊎ IsFailedInit it airports) first.end.files run

  -- The first run: it finds or makes a sound station with this lawful state, or comes after an
  -- upgrade, or after an `init` that failed.
  pub data Begins : Type 0 where
    with_station : (s : State) → IsLawfulState s → k.keeps run.station s → k.is_sound run.station → Begins
    after_upgrade : IsAfterUpgrade → Begins
    after_init : IsAfterInit → Begins

module _ {S F L I W E : Type 0} {g : Ghosts S} {b : Backing (Held S) F L} {trees : List Object} {k : Keeping (Station S g)}
    {e : Ends I W E} {run : RunOn b k e} where
  -- it begins with that state, with the state of version 1, or with a new station at one of the
  -- airports
  abbrev pub MayBegin : Begins trees run → State → Type 0
  MayBegin (with_station s law kept sound) first = first ≡ s
  MayBegin (after_upgrade it) first = first ≡ it.was
  MayBegin (after_init it) first = (here : List ℕ) × Contains it.airports here × (first ≡ opening here)

-- The events of a life that answered this many inputs, and of the next opening; `more` means that
-- one more was cut off after its commit.
abbrev pub life_events : ℕ → Bool → List (Input × LocalMinute) → List RetryEvent
life_events zero false inputs = reopened ∷ []
life_events zero true [] = reopened ∷ []
life_events zero true (one ∷ more) = cut_after one.0 one.1 ∷ reopened ∷ []
life_events (suc n) cut [] = reopened ∷ []
life_events (suc n) cut (one ∷ more) = sent one.0 one.1 ∷ life_events n cut more

-- an input is cut off only if the life ended with a fault of its store
abbrev pub AreEventsOf : List Life → List RetryEvent → Type 0
AreEventsOf [] events = events ≡ []
AreEventsOf (life ∷ lives) events =
    (cut : Bool) × ((rest : List RetryEvent) × (cut ≡ true → life.ended ≡ Some fault.Store)
    × (events ≡ life_events life.answered cut life.inputs ++ rest) × AreEventsOf lives rest)

-- The last opening after some calls found a state: after every input that was answered and, for
-- each call whose store failed, at most one more. It is lawful and conserves what was received, and
-- each accepted input acted once.
pub record IsAfterCalls (first : State) (lives : List Life) (last : State) : Type 0 where
  pub after : IsAfterLives first lives last
  pub events : List RetryEvent
  pub stand : AreEventsOf lives events
  pub once : ActsOnce first events
  pub state : last ≡ after_all first (committed (started first) events)

-- the state of the first run's station and of the last one's, and the lives between them
pub record HaveLed {S F L I W E : Type 0} {g : Ghosts S} {b : Backing (Held S) F L} {trees : List Object} {k : Keeping (Station S g)}
    {e : Ends I W E} {run : RunOn b k e} (begins : Begins trees run) (runs : List (RunOn b k e)) : Type 0 where
  pub first : State
  pub begun : MayBegin begins first
  pub last : State
  pub kept : k.keeps (last_of run runs).station last
  pub lives : List Life
  pub each : AreLivesOf first run runs lives
  pub are : IsAfterCalls first lives last

-- this holds of any number of runs, however the first one begins
abbrev pub CallsLead : {S F L I W E : Type 0} {g : Ghosts S} → Backing (Held S) F L → Keeping (Station S g) → Ends I W E
    → Type 0
CallsLead b k e =
    (trees : List Object) → b.lists trees → (run : RunOn b k e) (begins : Begins trees run) (runs : List (RunOn b k e))
    → AreRuns trees run runs → ∥ HaveLed begins runs ∥₁
