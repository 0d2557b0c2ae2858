-- CREATE TABLE, inside a transaction.
use Rattle.station_schema.proofs.Common.{AllByRecursion, AtPlace, CommitsBy, CreateIndex, CreateTable, Database, Defines, Does, Err, Error, Executes, Index, IsMade, KeepsRows, List, Makes, MakesIndex, None, Ok, Result, Schema, State, Survives, Table, Tally, Writes, [], ap, created, false, indexed, lacks_sequence, mode_of, next_tree, runs_as, slice_get, subst, survives_weaker, sym, ℕ, ◌∙◌, ◌∷◌, ◌≡◌}
use Rattle.station_schema.proofs.Inside.{execute_stops, keeps, commits_nothing, transaction_stays}
use Rattle.station_schema.proofs.Shared.{went, same_value}
use Rattle.station_schema.proofs.AnyTexts.{IsCreate, IsIndex}

module _ (sql : List ℕ) (schema : Schema) (table : Table) (is : IsCreate sql schema table) (next : Schema) (makes : created schema table ≡ next) (uncounted : lacks_sequence next ≡ false) (old new : State) where
  pub record Created : Type 0 where
    pub made : new.now.schema ≡ next
    pub empty : new.now.trees (next_tree schema) ≡ []
    pub others : KeepsRows schema.tables old.now.trees new.now.trees

  pub creates : (count : ℕ) → old.now.schema ≡ schema → Writes old new None CreateTable sql [] count → Created
  creates count has w =
      let all = went w.changed in
      let first = went all.1 in
      let made = first.1 in
      let both : Ok made.table ≡ Ok table = sym made.defined ∙ is.defined in
      let same : made.table ≡ table = cc in
      let now_next : first.0.schema ≡ next = made.is ∙ ap (λ s. created s made.table) has ∙ ap (created schema) same ∙ makes in
      let plain : lacks_sequence first.0.schema ≡ false = ap lacks_sequence now_next ∙ uncounted in
      let now : new.now ≡ first.0 = ap (λ (p : Tally × Database). p.1) (same_value all.2) ∙ same_value (rw plain at first.2) in
      record {
        made = ap (λ (d : Database). d.schema) now ∙ now_next;
        empty = ap (λ (d : Database). d.trees (next_tree schema)) now ∙ subst (λ s. first.0.trees (next_tree s) ≡ []) has made.empty;
        others = subst (λ (d : Database). KeepsRows schema.tables old.now.trees d.trees) (sym now) (subst (λ s. KeepsRows s.tables old.now.trees first.0.trees) has made.others);
      }

  pub makes_it : (Created → IsMade schema old → AllByRecursion (λ (t : Table). new.now.trees t.tree ≡ []) next.tables) → (r : Result ℕ Error) → IsMade schema old → Executes sql [] old new r → Makes old new r next
  makes_it empties (Ok count) was h =
      let w = subst (λ t. Writes old new None CreateTable t [] count) is.whole (runs_as sql [] old new schema was.made CreateTable is.command is.plain count h) in
      let it = creates count was.made w in
      let shown = transaction_stays old new was.begun w.shown in
      (record { begun = shown.mode; made = it.made; empty = empties it was }, shown)
  makes_it empties (Err e) was h = keeps old new (execute_stops sql [] old new e h)

  pub create_survives : Survives old new (CommitsBy sql [] old) → Survives old new (λ _. ¬ IsMade schema old)
  create_survives = survives_weaker old new _ _ (λ _ db h was. commits_nothing sql [] old new schema was.made CreateTable is.command ((λ e. cc), λ _ e. cc) was.begun db h)

-- CREATE INDEX, on a table that is there. No row changes.
module _ (sql : List ℕ) (schema : Schema) (at : ℕ) (table : Table) (index : Index) (is : IsIndex sql schema at table index) (next : Schema) (makes : indexed schema table index ≡ next) (tables : next.tables ≡ schema.tables) (old new : State) where
  pub indexes : (count : ℕ) → old.now.schema ≡ schema → Writes old new None (CreateIndex at) sql [] count → (new.now.schema ≡ next) × KeepsRows schema.tables old.now.trees new.now.trees
  indexes count has w =
      let doubt = (mode_of old).in_doubt in
      let done : AtPlace (λ (t : Table). Defines (mode_of old) (MakesIndex sql (record { schema = schema; trees = old.now.trees }) t)) (slice_get schema.tables at) (Ok (w.tally, new.now)) =
      subst (λ s. Does old.step_limit (mode_of old) [] (record old.now { schema = s }) sql None (CreateIndex at) (Ok (w.tally, new.now))) has w.changed in
      let all = went (subst (λ o. AtPlace (λ (t : Table). Defines (mode_of old) (MakesIndex sql (record { schema = schema; trees = old.now.trees }) t)) o (Ok (w.tally, new.now))) is.there done) in
      let made = all.1 in
      let both : Ok made.index ≡ Ok index = sym made.defined ∙ is.defined in
      let same : made.index ≡ index = cc in
      let now : new.now ≡ all.0 = ap (λ (p : Tally × Database). p.1) (same_value all.2) in
      (ap (λ (d : Database). d.schema) now ∙ made.is ∙ ap (indexed schema table) same ∙ makes, subst (λ (d : Database). KeepsRows schema.tables old.now.trees d.trees) (sym now) made.rows)

  pub indexes_it : (r : Result ℕ Error) → IsMade schema old → Executes sql [] old new r → Makes old new r next
  indexes_it (Ok count) was h =
      let w = subst (λ t. Writes old new None (CreateIndex at) t [] count) is.whole (runs_as sql [] old new schema was.made (CreateIndex at) is.command is.plain count h) in
      let it = indexes count was.made w in
      let shown = transaction_stays old new was.begun w.shown in
      (record { begun = shown.mode; made = it.0; empty = subst (AllByRecursion (λ (t : Table). new.now.trees t.tree ≡ [])) (sym tables) (both_empty schema.tables it.1 was.empty) }, shown)
    where
      both_empty : (ts : List Table) → KeepsRows ts old.now.trees new.now.trees → AllByRecursion (λ (t : Table). old.now.trees t.tree ≡ []) ts → AllByRecursion (λ (t : Table). new.now.trees t.tree ≡ []) ts
      both_empty [] keep none = tt
      both_empty (t ∷ ts) keep none = (keep.0 ∙ none.0, both_empty ts keep.1 none.1)
  indexes_it (Err e) was h = keeps old new (execute_stops sql [] old new e h)

  pub index_survives : Survives old new (CommitsBy sql [] old) → Survives old new (λ _. ¬ IsMade schema old)
  index_survives = survives_weaker old new _ _ (λ _ db h was. commits_nothing sql [] old new schema was.made (CreateIndex at) is.command ((λ e. cc), λ _ e. cc) was.begun db h)
