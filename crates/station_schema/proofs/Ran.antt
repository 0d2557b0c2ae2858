-- What an INSERT, an UPDATE or a DELETE ran, whatever the schema and the table.
use Rattle.station_schema.proofs.Common.{Answers, Applies, Chosen, Delete, Does, Edit, Executes, Given, Insert, Keys, List, None, Ok, Program, Row, Schema, Shows, Some, State, Table, Term, Update, Values, [], cond, edit_of, false, ids_of, length, mode_of, runs_as, slice_get, statement_of, subst, understood, value_rows, works, ℕ, ◌/◌, ◌≡◌}
use Rattle.sqlite.specs.Source.TheVariants.{Query}
use Rattle.station_schema.proofs.Shared.{inserts, inserts_rows_of, updates, deletes}
use Rattle.station_schema.proofs.AnyTexts.{Means}

-- a table of the schema, on which no key acts and whose rows are not counted
pub record IsPlaced (schema : Schema) (at : ℕ) (table : Table) : Type 0 where
  pub there : slice_get schema.tables at ≡ Some table
  pub uncounted : table.is_counted ≡ false
  pub unstamped : table.stamps ≡ record { places = []; terms = []; formats = [] }
  pub idle : (keys : Keys) (olds news : List Row) → works schema keys 0 table.tree olds news ≡ []

module _ (schema : Schema) (old new : State) (has : old.now.schema ≡ schema) where
  pub record Wrote (edit : Edit) : Type 0 where
    pub kept : new.now.schema ≡ schema
    pub applies : Applies schema (mode_of old).keys old.now.trees edit new.now.trees
    pub shown : Shows old new new.now (cond old.in_transaction old.committed new.now) old.in_transaction

  module _ (at : ℕ) (table : Table) (placed : IsPlaced schema at table) (sql : List ℕ) (params : Row) (count : ℕ) (h : Executes sql params old new (Ok count)) where
    pub insert_ran : (terms : List Term) (width : ℕ) → Means schema sql (Insert at (Values terms width)) → Wrote (edit_of old.now.trees table [] Chosen 0 (value_rows params width (length terms / width) terms))
    insert_ran terms width is =
        let text = statement_of sql (understood schema sql) in
        let w = runs_as sql params old new schema has (Insert at (Values terms width)) is.0 is.1 count h in
        let step = inserts schema at table placed.there placed.uncounted placed.unstamped old.step_limit (mode_of old) params old.now.trees text terms width w.tally new.now (placed.idle (mode_of old).keys)
        (subst (λ d. Does old.step_limit (mode_of old) params (record old.now { schema = d }) text None (Insert at (Values terms width)) (Ok (w.tally, new.now))) has w.changed) in
        record { kept = step.kept; applies = step.applies; shown = w.shown }

    -- INSERT .. SELECT
    pub select_ran : (q : Program) → Means schema sql (Insert at (Query q)) → (rows : List Row) × Answers (record { schema = schema; trees = old.now.trees }) q params rows × Wrote (edit_of old.now.trees table [] Chosen 0 rows)
    select_ran q is =
        let text = statement_of sql (understood schema sql) in
        let w = runs_as sql params old new schema has (Insert at (Query q)) is.0 is.1 count h in
        let did = inserts_rows_of schema at table placed.there placed.uncounted placed.unstamped old.step_limit (mode_of old) params old.now.trees text q w.tally new.now (placed.idle (mode_of old).keys)
        (subst (λ d. Does old.step_limit (mode_of old) params (record old.now { schema = d }) text None (Insert at (Query q)) (Ok (w.tally, new.now))) has w.changed) in
        (did.0, did.1, record { kept = did.2.kept; applies = did.2.applies; shown = w.shown })

    pub update_ran : (q : Program) → Means schema sql (Update at q) → (rows : List Row) × Answers (record { schema = schema; trees = old.now.trees }) q params rows × Wrote (edit_of old.now.trees table (ids_of rows) Given 1 rows)
    update_ran q is =
        let text = statement_of sql (understood schema sql) in
        let w = runs_as sql params old new schema has (Update at q) is.0 is.1 count h in
        let did = updates schema at table placed.there placed.uncounted placed.unstamped old.step_limit (mode_of old) params old.now.trees text q w.tally new.now (placed.idle (mode_of old).keys)
        (subst (λ d. Does old.step_limit (mode_of old) params (record old.now { schema = d }) text None (Update at q) (Ok (w.tally, new.now))) has w.changed) in
        (did.0, did.1, record { kept = did.2.kept; applies = did.2.applies; shown = w.shown })

    pub delete_ran : (q : Program) → Means schema sql (Delete at q) → (rows : List Row) × Answers (record { schema = schema; trees = old.now.trees }) q params rows × Wrote (edit_of old.now.trees table (ids_of rows) Given 0 [])
    delete_ran q is =
        let text = statement_of sql (understood schema sql) in
        let w = runs_as sql params old new schema has (Delete at q) is.0 is.1 count h in
        let did = deletes schema at table placed.there placed.uncounted placed.unstamped old.step_limit (mode_of old) params old.now.trees text q w.tally new.now (placed.idle (mode_of old).keys)
        (subst (λ d. Does old.step_limit (mode_of old) params (record old.now { schema = d }) text None (Delete at q) (Ok (w.tally, new.now))) has w.changed) in
        (did.0, did.1, record { kept = did.2.kept; applies = did.2.applies; shown = w.shown })
