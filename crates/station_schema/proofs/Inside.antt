-- What a statement does to a connection in a transaction, whatever the statement.
use Rattle.station_schema.proofs.Common.{Command, Commit, Compiled, Err, Error, Executes, Fails, FailsToShow, HasCleanDisk, IfErr, IfOk, IsPlain, IsTrue, IsUnchanged, KeepsCommit, List, None, Ok, Reads, Release, Result, Row, RunsCommand, Schema, Shows, ShowsRows, State, Stops, Survives, Trees, Vec, ap, arith, command_of, cond, false, inl, inr, shows_rows, subst, survives_then, sym, timed, true, understood, ℕ, ◌∙◌, ◌≡◌, ◌≢◌}
use Rattle.std.proofs.lemmas.Bool.{cases_Bool}
use Rattle.sqlite.specs.State.{ExecutesIn, IsNotRun, FailsToQuery, Shown, CommitsBy}
use Rattle.std.specs.declared.alloc.Global.{Global}

pub transaction_stays : (old new : State) → IsTrue old.in_transaction → Shows old new new.now (cond old.in_transaction old.committed new.now) old.in_transaction → Shows old new new.now old.committed true
transaction_stays old new begun h = subst (λ b. Shows old new new.now (cond b old.committed new.now) b) begun h

pub keeps : (old new : State) → Stops old new → KeepsCommit old new
keeps old new (inl same) = record { was_open = λ _. same.0.was_open; committed = λ _. same.0.committed_is }
keeps old new (inr back) = record { was_open = back.was_open; committed = λ o. (back.undone o).1 }

module _ (sql : List ℕ) (params : Row) (old new : State) where
  fails : (P : Type 0) (e : Error) → Fails old new P e → Stops old new
  fails P e h = inr h.3

  pub not_run : (e : Error) → IsNotRun old new sql params e → Stops old new
  unfolding IsNotRun
  not_run e (inl h) = inl h.1
  not_run e (inr h) = fails ⊥ e h

  command_stops : (c : Compiled) (full : Row) (e : Error) → RunsCommand old new sql c full (Err e) → Stops old new
  command_stops c full e (inl h) = inl h.1
  command_stops c full e (inr h) = fails _ e h

  -- a statement that fails, whatever it is
  pub execute_stops : (e : Error) → Executes sql params old new (Err e) → Stops old new
  unfolding ExecutesIn
  execute_stops e (inl h) = not_run e h
  execute_stops e (inr h) = elim (cases_Bool (shows_rows false h.0)) [
    | inl shows ↦ inl (rw shows at h.2).1
    | inr runs ↦ command_stops h.0 _ e (rw runs at h.2)
  ]

  pub query_stops : (schema : Schema) → old.now.schema ≡ schema → IsPlain (understood schema sql) → (e : Error) → FailsToQuery sql params old new e → Stops old new
  unfolding FailsToQuery
  query_stops schema has plain e (inl h) = not_run e h
  query_stops schema has plain e (inr h) =
      let none = (subst IsPlain (sym (sym h.1.is ∙ ap (λ s. understood s sql) has)) plain).0 in
      let it : FailsToShow old new sql h.0 (timed params h.0.formats h.1.now) e None = subst (FailsToShow old new sql h.0 (timed params h.0.formats h.1.now) e) none h.2 in
      inl it.3

  pub query_keeps : (schema : Schema) → old.now.schema ≡ schema → IsPlain (understood schema sql) → (rows : List Row) → Shown sql params old new rows → IsUnchanged old new
  unfolding Shown
  query_keeps schema has plain rows h =
      let none = (subst IsPlain (sym (sym h.1.is ∙ ap (λ s. understood s sql) has)) plain).0 in
      let it : ShowsRows old new sql h.0 (timed params h.0.formats h.1.now) rows None = subst (ShowsRows old new sql h.0 (timed params h.0.formats h.1.now) rows) none h.2 in
      it.3

  -- inside a transaction a statement that does not end it commits nothing
  pub commits_nothing : (schema : Schema) → old.now.schema ≡ schema → (command : Command) → command_of (understood schema sql) ≡ command → (command ≢ Commit) × ((name : List ℕ) → command ≢ Release name)
      → IsTrue old.in_transaction → (db : Trees) → ¬ CommitsBy sql params old db
  unfolding CommitsBy
  commits_nothing schema has command is stays begun db h =
      let same : h.0.command ≡ command = ap command_of (sym h.1.is ∙ ap (λ s. understood s sql) has) ∙ is in
      elim h.2 [
        | inl ends ↦ elim ends.0 [ inl k ↦ stays.0 (sym same ∙ k) | inr k ↦ stays.1 k.0 (sym same ∙ k.2) ]
        | inr writes ↦ absurd (let e = writes.0 in cc)
      ]

  pub reads : (schema : Schema) → old.now.schema ≡ schema → IsPlain (understood schema sql) → (Is : List Row → Type 0) → ((rows : List Row) → Shown sql params old new rows → Is rows)
      → (r : Result (Vec Row Global) Error) → IfOk r (λ rows. Shown sql params old new rows.items) → IfErr r (FailsToQuery sql params old new) → Reads old new r (λ rows. Is rows.items)
  reads schema has plain Is found (Ok rows) ok err = (found rows.items ok, query_keeps schema has plain rows.items ok)
  reads schema has plain Is found (Err e) ok err = query_stops schema has plain e err

-- ---- one call after another, inside a transaction

pub survives_inside : (old mid new : State) (Before After : Type 0) → Survives old mid (λ _. ¬ Before) → (HasCleanDisk mid → Before → After) → Survives mid new (λ _. ¬ After) → Survives old new (λ _. ¬ Before)
survives_inside old mid new Before After one on two = survives_then old mid new _ _ _ (λ _ db none. none) (λ clean db none before. none (on (omega (arith, two.clean)) before)) one two

pub survives_three : (old mid later new : State) (Before Between After : Type 0) → Survives old mid (λ _. ¬ Before) → (HasCleanDisk mid → Before → Between) → Survives mid later (λ _. ¬ Between) → (HasCleanDisk later → Between → After) → Survives later new (λ _. ¬ After)
    → Survives old new (λ _. ¬ Before)
survives_three old mid later new Before Between After one first two second three = survives_inside old mid new Before Between one first (survives_inside mid later new Between After two second three)
