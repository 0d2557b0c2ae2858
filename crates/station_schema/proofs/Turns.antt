-- BEGIN, COMMIT and ROLLBACK.
use Rattle.station_schema.proofs.Common.{Bool, Command, Commits, CompileError, Compiled, Err, Error, Executes, IsMisplaced, IsNoStatement, IsPlain, IsRolledBack, IsSome, IsTrue, IsUnchanged, IsUndone, List, MatchBool, MayChange, MayWrite, None, Ok, Release, Result, Rollback, Row, RunsAlone, RunsCommand, Schema, State, Stops, Survives, Trees, [], ap, arith, command_of, false, inl, inr, length, refl, runs_as, shows_rows, store_error, subst, survives_weaker, sym, true, ℕ, ◌∙◌, ◌≡◌, ◌≢◌, ◌≤◌}
use Rattle.sqlite.specs.Command.TheVariants.{Begin as Starts, Commit as Ends}
use Rattle.sqlite_tied.specs.Compute.{everything}
use Rattle.sqlite.specs.Listing.{understood}
use Rattle.sqlite_trees.specs.declared.error.StoreError.{StoreError}
use Rattle.sqlite_trees.specs.declared.error.StoreError.TheVariants.{OutOfMemory}
use Rattle.sqlite.specs.State.{ExecutesIn, IsNotRun, CommitsBy}
use Rattle.sqlite.specs.Calls.{IsWrite}
use Rattle.sqlite.specs.declared.error.Error.TheVariants.{ExecuteReturnedResults, SqliteFailure}
use Rattle.sqlite.specs.declared.error.ErrorCode.TheVariants as code
use Rattle.station_schema.specs.Schema.{Begins}
use Rattle.station_schema.proofs.Inside.{execute_stops}
use Rattle.station_schema.proofs.AnyTexts.{begin_text, begin_is, commit_text, commit_is, rollback_text, rollback_is}

pub begins : (old new : State) (r : Result ℕ Error) → Executes begin_text [] old new r → Begins old new r
begins old new (Ok count) h = (runs_as begin_text [] old new old.now.schema refl Starts (begin_is old.now.schema).0 (begin_is old.now.schema).1 count h).1
begins old new (Err e) h = execute_stops begin_text [] old new e h

pub commits : (old new : State) (r : Result ℕ Error) → Executes commit_text [] old new r → Commits old new r
commits old new (Ok count) h = (runs_as commit_text [] old new old.now.schema refl Ends (commit_is old.now.schema).0 (commit_is old.now.schema).1 count h).1
commits old new (Err e) h = execute_stops commit_text [] old new e h

-- the three make no change
abbrev is_turn : Command → Bool
is_turn Starts = true
is_turn Ends = true
is_turn Rollback = true
is_turn _ = false

writes_nothing : (s : State) (command : Command) (text : List ℕ) (params : Row) (db : Trees) → is_turn command ≡ true → ¬ MayWrite s None command text params db
writes_nothing s Starts text params db is h = absurd (let e = h.3 in cc)
writes_nothing s Ends text params db is h = absurd (let e = h.3 in cc)
writes_nothing s Rollback text params db is h = absurd (let e = h.3 in cc)
writes_nothing s _ text params db is h = absurd (cc)

module _ (sql : List ℕ) (params : Row) (old : State) (command : Command) (is : command_of (understood old.now.schema sql) ≡ command) (plain : IsPlain (understood old.now.schema sql)) (turn : is_turn command ≡ true)
    (unnamed : (name : List ℕ) → command ≢ Release name) where
  commits_only : (db : Trees) → CommitsBy sql params old db → (command ≡ Ends) × (db ≡ old.now.trees)
  unfolding CommitsBy
  commits_only db h =
      let same : h.0.command ≡ command = ap command_of (sym h.1.is) ∙ is in
      let none = (subst IsPlain h.1.is plain).0 in
      elim h.2 [
        | inl ends ↦ elim ends.0 [ inl k ↦ (sym same ∙ k, ends.1) | inr k ↦ absurd (unnamed k.0 (sym same ∙ k.2)) ]
        | inr writes ↦ absurd (writes_nothing old command _ _ db turn (rw (none, same) at writes))
      ]

  pub turn_survives : (new : State) → Survives old new (CommitsBy sql params old) → Survives old new (λ db. (command ≡ Ends) × (db ≡ old.now.trees))
  turn_survives new = survives_weaker old new _ _ (λ _ db h. commits_only db h)

pub begin_survives : (old new : State) → Survives old new (CommitsBy begin_text [] old) → Survives old new (λ _. ⊥)
begin_survives old new h = survives_weaker old new _ _ (λ _ db k. absurd (let e = k.0 in cc)) (turn_survives begin_text [] old Starts (begin_is old.now.schema).0 (begin_is old.now.schema).1 refl (λ _ e. cc) new h)

pub rollback_survives : (old new : State) → Survives old new (CommitsBy rollback_text [] old) → Survives old new (λ _. ⊥)
rollback_survives old new h = survives_weaker old new _ _ (λ _ db k. absurd (let e = k.0 in cc)) (turn_survives rollback_text [] old Rollback (rollback_is old.now.schema).0 (rollback_is old.now.schema).1 refl (λ _ e. cc) new h)

pub commit_survives : (old new : State) → Survives old new (CommitsBy commit_text [] old) → Survives old new (λ db. db ≡ old.now.trees)
commit_survives old new h = survives_weaker old new _ _ (λ _ db k. k.1) (turn_survives commit_text [] old Ends (commit_is old.now.schema).0 (commit_is old.now.schema).1 refl (λ _ e. cc) new h)

-- ---- ROLLBACK is not refused inside a transaction

abbrev is_whole : List ℕ → Result Compiled CompileError → Type 0
is_whole sql (Ok c) = (length sql ≤ c.tail) × (c.names ≡ []) × (c.formats ≡ [])
is_whole sql (Err e) = ⊥

rollback_whole : (schema : Schema) → is_whole rollback_text (understood schema rollback_text)
unfolding understood everything
rollback_whole schema = (omega arith, refl, refl)

pub undone_by : (old new : State) → IsRolledBack old new → IsUndone old new
undone_by old new h = record { outside = h.autocommit; was_open = h.was_open; committed = λ o. (h.undone o).1; now = λ o. (h.undone o).0 }

module _ (old new : State) (begun : IsTrue old.in_transaction) where
  has_statement : (e : Error) → ¬ IsNoStatement old rollback_text [] e
  has_statement e (inl none) = subst (is_whole rollback_text) none.1 (rollback_whole old.now.schema)
  has_statement e (inr bad) =
      let whole = subst (is_whole rollback_text) bad.1 (rollback_whole old.now.schema) in
      elim bad.2 [
        | inl long ↦ long.0 whole.0
        | inr other ↦ elim other [ inl given ↦ given.0 (sym (ap length whole.1)) | inr clock ↦ clock.0 whole.2 ]
      ]

  misplaced : (e : Error) → ¬ IsMisplaced old Rollback e
  misplaced e (inl h) = elim h.1 [ inl starts ↦ absurd (let k = starts.0 in cc) | inr outside ↦ absurd (let k = outside.1 in cc) ]
  misplaced e (inr h) = elim h.2 [ inl k ↦ absurd (cc) | inr k ↦ absurd (cc) ]

  changes_nothing : (c : Compiled) → c.command ≡ Rollback → c.returning ≡ None → ¬ MayChange c
  changes_nothing c same none (inl writes) = subst IsWrite same writes
  changes_nothing c same none (inr shows) = absurd (let k = subst (λ r. IsSome r) none shows in cc)

  runs_it : (c : Compiled) (full : Row) (e : Error) → c.command ≡ Rollback → c.returning ≡ None → RunsCommand old new rollback_text c full (Err e) → IsUndone old new
  runs_it c full e same none (inl h) = elim h.0 [
    | inl bad ↦ absurd (misplaced e (subst (λ k. IsMisplaced old k e) same bad))
    | inr may ↦ absurd (changes_nothing c same none may.0)
  ]
  runs_it c full e same none (inr fails) = undone_by old new fails.3

  alone : (c : Compiled) (full : Row) (e : Error) → c.command ≡ Rollback → c.returning ≡ None → RunsAlone false old new rollback_text c full (Err e) → IsUndone old new
  alone c full e same none h =
      let quiet : shows_rows false c ≡ false = rw (same, none) in
      let failed : Result ℕ Error = Err e in
      runs_it c full e same none (subst (λ b. MatchBool b ((failed ≡ Err ExecuteReturnedResults) × IsUnchanged old new) (RunsCommand old new rollback_text c full (Err e))) quiet h)

  pub rolls_back : (r : Result ℕ Error) → Executes rollback_text [] old new r → IsUndone old new
  unfolding ExecutesIn IsNotRun
  rolls_back (Ok count) h = undone_by old new (runs_as rollback_text [] old new old.now.schema refl Rollback (rollback_is old.now.schema).0 (rollback_is old.now.schema).1 count h).1
  rolls_back (Err e) (inl (inl none)) = absurd (has_statement e none.0)
  rolls_back (Err e) (inl (inr fails)) = undone_by old new fails.3
  rolls_back (Err e) (inr h) = alone h.0 _ e (ap command_of (sym h.1.is) ∙ (rollback_is old.now.schema).0) (subst IsPlain h.1.is (rollback_is old.now.schema).1).0 h.2

-- ---- ROLLBACK outside a transaction, as a question

pub rollback_stops : (old new : State) (r : Result ℕ Error) → Executes rollback_text [] old new r → Stops old new
rollback_stops old new (Ok count) h = inr (runs_as rollback_text [] old new old.now.schema refl Rollback (rollback_is old.now.schema).0 (rollback_is old.now.schema).1 count h).1
rollback_stops old new (Err e) h = execute_stops rollback_text [] old new e h

abbrev misplaced_error : Error
misplaced_error = SqliteFailure code.TransactionState

abbrev misplaced_result : Result ℕ Error
misplaced_result = Err misplaced_error

unstored : (cause : StoreError) → misplaced_error ≢ store_error cause
unstored OutOfMemory h = absurd (cc)
unstored _ h = absurd (cc)

unread : (s : State) (sql : List ℕ) (params : Row) → ¬ IsNoStatement s sql params misplaced_error
unread s sql params (inl h) = absurd (let k = h.2 in cc)
unread s sql params (inr h) = elim h.2 [
  | inl long ↦ absurd (let k = long.1 in cc)
  | inr other ↦ elim other [ inl given ↦ absurd (let k = given.1 in cc) | inr clock ↦ absurd (let k = clock.1 in cc) ]
]

module _ (old new : State) where
  ran_live : (c : Compiled) (text : List ℕ) (full : Row) → RunsCommand old new text c full (Err misplaced_error) → IsUnchanged old new
  ran_live c text full (inl h) = h.1
  ran_live c text full (inr fails) = absurd (unstored fails.0 fails.1)

  alone_live : (c : Compiled) (text : List ℕ) (full : Row) (shows : Bool) → MatchBool shows ((misplaced_result ≡ Err ExecuteReturnedResults) × IsUnchanged old new) (RunsCommand old new text c full (Err misplaced_error)) → IsUnchanged old new
  alone_live c text full true h = h.1
  alone_live c text full false h = ran_live c text full h

  -- it is refused where no transaction is open
  pub refused_live : (sql : List ℕ) (params : Row) → Executes sql params old new (Err misplaced_error) → IsUnchanged old new
  unfolding ExecutesIn IsNotRun
  refused_live sql params (inl (inl none)) = absurd (unread old sql params none.0)
  refused_live sql params (inl (inr fails)) = absurd (unstored fails.0 fails.1)
  refused_live sql params (inr h) = alone_live h.0 _ _ (shows_rows false h.0) h.2
