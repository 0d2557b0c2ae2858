-- From the names in a schema to the rows that a query shows.
use Rattle.table_load.proofs.Common.{AreInOrder, Bool, Error, Global, IsPermutation, IsQuery, IsReadOnly, IsTrue, IsUnchanged, List, None, Option, Row, Schema, ShowsWhole, Some, State, Stops, Survives, Table, Text, Trees, Vec, [], ap, column_names, false, found, found_at, found_in, is_some, is_whole, is_whole_in, map, places_by_name, refl, rows_of, sym, table_by_name, true, ℕ, ◌∙◌, ◌≡◌, ◌≢◌}
use Rattle.sqlite.specs.Order.{column}
use Rattle.sqlite.specs.State.{FailsToQuery, Shown, CommitsShowing}
use Rattle.table_load.specs.declared.query.TableQuery.{TableQuery}
use Rattle.table_load.proofs.RawLemmas.{plain_whole, reads_whole, stops_whole, survives_whole}

-- ---- what the schema has

held_in : (trees : Trees) (table : Table) (o : Option (List ℕ)) → is_some o ≡ true → (raw : List Row) × (found_in trees table o ≡ rows_of raw)
held_in trees table None h = absurd (cc)
held_in trees table (Some places) h = (map (λ r. map (column r) places) (trees table.tree), refl)

lost_in : (trees : Trees) (table : Table) (o : Option (List ℕ)) → is_some o ≡ false → (raw : List Row) → found_in trees table o ≢ rows_of raw
lost_in trees table None h raw e = absurd (cc)
lost_in trees table (Some places) h raw e = absurd (cc)

pub held : (trees : Trees) (names : List (List ℕ)) (o : Option Table) → is_whole_in names o ≡ true → (raw : List Row) × (found_at trees names o ≡ rows_of raw)
held trees names None h = absurd (cc)
held trees names (Some table) h = held_in trees table (places_by_name table names) h

pub lost : (trees : Trees) (names : List (List ℕ)) (o : Option Table) → is_whole_in names o ≡ false → (raw : List Row) → found_at trees names o ≢ rows_of raw
lost trees names None h raw e = absurd (cc)
lost trees names (Some table) h raw e = lost_in trees table (places_by_name table names) h raw e

-- ---- as a call returns it

is_there : (schema now : Schema) (name : List ℕ) (names : List (List ℕ)) (told : Bool) → schema ≡ now → told ≡ is_whole schema name names → told ≡ true → is_whole now name names ≡ true
is_there schema now name names told same is h = ap (λ s. is_whole s name names) (sym same) ∙ sym is ∙ h

-- ---- the query for a whole table

module _ (query : TableQuery) (is : IsQuery query) (old new : State) {schema : Schema} {told : Bool} (same : schema ≡ old.now.schema) (tested : told ≡ is_whole schema query.name.now (column_names query)) (yes : told ≡ true) where
  abbrev text : List ℕ
  text = query.text.now

  abbrev names : List (List ℕ)
  names = column_names query

  abbrev there : (raw : List Row) × (found old.now query.name.now names ≡ rows_of raw)
  there = held old.now.trees names (table_by_name old.now.schema query.name.now) (is_there schema old.now.schema query.name.now names told same tested yes)

  pub shows_whole : (rows : Vec Row Global) → Shown text [] old new rows.items → ShowsWhole (found old.now query.name.now names) query.keys (Some rows) × IsUnchanged old new
  shows_whole rows h =
      let got = reads_whole text query.name.now names query.keys is.few is.selects old new there.0 there.1 rows.items h in
      ((there.0, there.1, got.0.same, got.0.sorted), got.1)

  pub plain : IsReadOnly old.now.schema text
  plain = plain_whole text query.name.now names query.keys is.few is.selects old new there.0 there.1

  -- the rows that were given are those of the table
  abbrev pub IsGiven : List Row → Type 0
  IsGiven rows = (raw : List Row) × (found old.now query.name.now names ≡ rows_of raw) × IsPermutation raw rows × AreInOrder query.keys rows

  pub given_whole : (rows : List Row) → Shown text [] old new rows → IsGiven rows
  given_whole rows h =
      let got = reads_whole text query.name.now names query.keys is.few is.selects old new there.0 there.1 rows h in
      (there.0, there.1, got.0.same, got.0.sorted)

  pub stops : (e : Error) → FailsToQuery text [] old new e → Stops old new
  stops e h = stops_whole text query.name.now names query.keys is.few is.selects old new there.0 there.1 e h

  pub survives : Survives old new (CommitsShowing text [] old) → Survives old new (λ _. ⊥)
  survives h = survives_whole text query.name.now names query.keys is.few is.selects old new there.0 there.1 h

pub at_rest : (s : State) → IsTrue s.is_open → IsUnchanged s s
at_rest s up = (record { was_open = up; is_open = up; now_is = refl; committed_is = refl; mode = refl }, record { changes = refl; last_rowid = refl }, refl)

pub same_text : {a b : List ℕ} → Text a ≡ Text b → b ≡ a
same_text h = cc
