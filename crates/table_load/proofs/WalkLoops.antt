-- A query that gives rows one at a time, and the walk that takes them.
use Rattle.table_load.proofs.Common.{Agrees, AreLawful, Compiled, Database, Err, Error, HasCleanDisk, Held, IsErr, IsReadOnly, IsSourceOf, IsStatement, IsTrue, IsTyped, IsUnchanged, IsWalked, List, None, Ok, Option, Result, Row, ShowsRows, Some, State, Stops, Survives, Walk, Walks, [], arith, false, inl, inr, not_run, query_stops, reads_listing, refl, state, subst, survives_then, sym, true, unchanged_then, understood, ℕ, ◌++◌, ◌∷◌, ◌≡◌, ◌≤◌}
use Rattle.sqlite.specs.Given.{HasGiven, HasBegun, IsPlain, Returns}
use Rattle.sqlite.specs.Clock.{timed}
use Rattle.sqlite.specs.State.{FailsToQuery, Shown}
use Rattle.sqlite_resolve.specs.declared.error.CompileError.{CompileError}
use Rattle.sqlite_trees.specs.declared.store.Store.{Ghosts}
use Rattle.std.specs.declared.cmp.Ordering.{Ordering}
use Rattle.sqlite.proofs.StreamLemmas.{given_plain, rolled_back_since}
use Rattle.station_schema.specs.Connection.{Moves}
use Rattle.table_load.proofs.WholeLemmas.{at_rest}

survives_same : (s : State) → Survives s s (λ _. ⊥)
survives_same s = record { clean = omega arith; shield = λ h. h; counts = omega arith; limit = refl; closes = λ clean is. inl is; crash = λ clean db left. inl left }

pub stops_since : (old mid new : State) → IsUnchanged old mid → old.faults ≤ mid.faults → Stops mid new → Stops old new
stops_since old mid new same counts (inl again) = inl (unchanged_then old mid new same again)
stops_since old mid new same counts (inr back) = inr (rolled_back_since old mid new same counts back)

-- what a connection shows that wasn't changed
module _ (sql : List ℕ) (params : Row) (old mid new : State) (same : IsUnchanged old mid) (rows : List Row) where
  is_since : (c : Compiled) → IsStatement mid sql params c → IsStatement old sql params c
  is_since c h = record { is = subst (λ (d : Database). understood d.schema sql ≡ Ok c) same.0.now_is h.is; whole = h.whole; given = h.given; now = h.now }

  source_since : (db : Database) → IsSourceOf (reads_listing mid.now.schema sql) mid.now db → IsSourceOf (reads_listing old.now.schema sql) old.now db
  source_since db = subst (λ (d : Database). IsSourceOf (reads_listing d.schema sql) d db) same.0.now_is

  pub shown_since : ((c : Compiled) → understood old.now.schema sql ≡ Ok c → c.returning ≡ None) → Shown sql params mid new rows → Shown sql params old new rows
  unfolding Shown is_since
  shown_since plain h =
      let none = plain h.0 (is_since h.0 h.1).is in
      let full = timed params h.0.formats h.1.now in
      let it = subst (ShowsRows mid new sql h.0 full rows) none h.2 in
      (h.0, is_since h.0 h.1, subst (ShowsRows old new sql h.0 full rows) (sym none) (it.0, source_since it.0 it.1, it.2, unchanged_then old mid new same it.3))

-- ---- where the text only reads

never_returns : (r : Result Compiled CompileError) → ((c : Compiled) → r ≡ Ok c → IsPlain r) → ¬ Returns r
never_returns (Ok c) plain some = absurd (let none = rw (plain c refl).0 at some in cc)
never_returns (Err e) plain some = some

pub read_begins : {S : Type 0} (g : Ghosts S) (sql : List ℕ) (params : Row) (old new : Held S) → IsReadOnly old.schema sql → HasBegun g sql params old new → HasGiven g sql params new [] × IsUnchanged (state g old) (state g new)
read_begins g sql params old new plain (inl h) = h
read_begins g sql params old new plain (inr h) = absurd (never_returns _ plain h.0)

pub read_stops : (sql : List ℕ) (params : Row) (old new : State) (e : Error) → IsReadOnly old.now.schema sql → FailsToQuery sql params old new e → Stops old new
unfolding FailsToQuery
read_stops sql params old new e plain (inl h) = not_run sql params old new e h
read_stops sql params old new e plain (inr h) = query_stops sql params old new old.now.schema refl (plain h.0 h.1.is) e (inr h)

returns_none : (r : Result Compiled CompileError) → ((c : Compiled) → r ≡ Ok c → IsPlain r) → (c : Compiled) → r ≡ Ok c → c.returning ≡ None
returns_none (Ok found) plain c is = let same : found ≡ c = cc in rw (← same) (plain found refl).0
returns_none (Err e) plain c is = absurd (cc)

pub walks_since : {X : Type 0} (sql : List ℕ) (params : Row) (old mid new : State) → IsUnchanged old mid → old.faults ≤ mid.faults → IsReadOnly old.now.schema sql → (r : Result X Error) (Is : List Row → X → Type 0)
    → Walks sql params mid new r Is → Walks sql params old new r Is
walks_since sql params old mid new same counts plain (Ok x) Is h = (unchanged_then old mid new same h.0, h.1, shown_since sql params old mid new same h.1 (returns_none _ plain) h.2, h.3)
walks_since sql params old mid new same counts plain (Err e) Is h = stops_since old mid new same counts h

pub walks_failed : {X : Type 0} (sql : List ℕ) (params : Row) (old new : State) (r : Result X Error) (Is : List Row → X → Type 0) → IsErr r → Stops old new → Walks sql params old new r Is
walks_failed sql params old new (Ok x) Is is stops = absurd (let no : false ≡ true = is in cc)
walks_failed sql params old new (Err e) Is is stops = stops

-- ---- row by row

module _ {S X E F : Type 0} (g : Ghosts S) (Has : F → List X → Type 0) (meant : X → E) (to_row : E → Row) (cmp : E → E → Ordering) (IsLawful : E → Type 0) (old : Held S) (from : Walk X F) where
  abbrev IsWalkedTo : List Row → Walk X F → Type 0
  IsWalkedTo = IsWalked Has meant to_row (AreLawful cmp IsLawful)

  -- what a query has given, and what was made of it
  pub record IsOn (sql : List ℕ) (params : Row) (now : Held S) (at : Walk X F) : Type 0 where
    pub same : IsUnchanged (state g old) (state g now)
    pub given : List Row
    pub is_at : HasGiven g sql params now given
    pub walked : IsWalkedTo given at
    pub plain : (c : Compiled) → understood old.schema sql ≡ Ok c → c.returning ≡ None

  pub record HasCome (now : Held S) (at : Walk X F) : Type 0 where
    pub survives : Survives (state g old) (state g now) (λ _. ⊥)
    pub on : HasCleanDisk (state g now) → (sql : List ℕ) (params : Row) (keys : ℕ) → HasGiven g sql params old [] → IsTrue (state g old).is_open → Agrees keys to_row cmp → IsWalkedTo [] from → IsOn sql params now at

  pub at_start : HasCome old from
  at_start = record {
    survives = survives_same (state g old);
    on = λ clean sql params keys begun is_open agrees start. record { same = at_rest (state g old) is_open; given = []; is_at = begun; walked = start; plain = given_plain g sql params old [] begun };
  }

  module _ (now new : Held S) (at : Walk X F) (come : HasCome now at) (kept : Survives (state g now) (state g new) (λ _. ⊥)) where
    pub survived : Survives (state g old) (state g new) (λ _. ⊥)
    survived = survives_then (state g old) (state g now) (state g new) _ _ _ (λ _ db none. none) (λ _ db none. none) come.survives kept

    was_clean : HasCleanDisk (state g new) → HasCleanDisk (state g now)
    was_clean clean = omega (arith, kept.clean)

    -- one more row was given and taken
    pub one_on : (value : Option X) (next : Walk X F) → ((keys : ℕ) (given : List Row) (raw : Row) → Agrees keys to_row cmp → IsTyped meant to_row IsLawful raw value → IsWalkedTo given at → IsWalkedTo (given ++ raw ∷ []) next)
        → (HasCleanDisk (state g new) → (sql : List ℕ) (params : Row) (given : List Row) → HasGiven g sql params now given → Moves g sql params (IsTyped meant to_row IsLawful) now new given (Ok (Some value))) → HasCome new next
    one_on value next took moves = record {
      survives = survived;
      on = λ clean sql params keys begun is_open agrees start.
          let was = come.on (was_clean clean) sql params keys begun is_open agrees start in
          let moved = moves clean sql params was.given was.is_at in
          record {
            same = unchanged_then (state g old) (state g now) (state g new) was.same moved.0;
            given = was.given ++ moved.1 ∷ [];
            is_at = moved.3;
            walked = took keys was.given moved.1 agrees moved.2 was.walked;
            plain = was.plain;
          };
    }

    module _ (clean : HasCleanDisk (state g new)) (sql : List ℕ) (params : Row) (keys : ℕ) (begun : HasGiven g sql params old []) (is_open : IsTrue (state g old).is_open) (agrees : Agrees keys to_row cmp) (start : IsWalkedTo [] from) where
      was_on : IsOn sql params now at
      was_on = come.on (was_clean clean) sql params keys begun is_open agrees start

      -- these are all
      pub ended : ((given : List Row) → HasGiven g sql params now given → Moves g sql params (IsTyped meant to_row IsLawful) now new given (Ok None)) → Walks sql params (state g old) (state g new) (Ok (tt {0})) (λ given x. IsWalkedTo given at)
      ended moves =
          let moved = moves was_on.given was_on.is_at in (
            unchanged_then (state g old) (state g now) (state g new) was_on.same moved.0,
            was_on.given,
            shown_since sql params (state g old) (state g now) (state g new) was_on.same was_on.given was_on.plain moved.1,
            was_on.walked,
          )

      -- no row was given
      pub failed : ((given : List Row) → HasGiven g sql params now given → Stops (state g now) (state g new)) → Stops (state g old) (state g new)
      failed stops = stops_since (state g old) (state g now) (state g new) was_on.same come.survives.counts (stops was_on.given was_on.is_at)

      -- a row was given, and not taken
      pub untaken : (value : Option X) → ((given : List Row) → HasGiven g sql params now given → Moves g sql params (IsTyped meant to_row IsLawful) now new given (Ok (Some value))) → Stops (state g old) (state g new)
      untaken value moves = inl (unchanged_then (state g old) (state g now) (state g new) was_on.same (moves was_on.given was_on.is_at).0)

  -- no further row is asked for
  pub cut_off : (now : Held S) (at : Walk X F) (come : HasCome now at) → HasCleanDisk (state g now) → (sql : List ℕ) (params : Row) (keys : ℕ) → HasGiven g sql params old [] → IsTrue (state g old).is_open → Agrees keys to_row cmp → IsWalkedTo [] from → Stops (state g old) (state g now)
  cut_off now at come clean sql params keys begun is_open agrees start = inl (come.on clean sql params keys begun is_open agrees start).same
