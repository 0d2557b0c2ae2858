-- The terms of the statements on a table, by how many columns it has and how many of them are its key; and what a query shows.
use Rattle.station_rows.proofs.Common.{Asks, IsStation, Query, Row, Shown, State, Tables, station_schema, tables_of, ◌≡◌, Binary, Compare, Eq, List, Null, Term, [], col, lit, map, op2, suc, zero, ℕ, ◌++◌, ◌+◌, ◌-◌, ◌∷◌}

-- so many numbers from this one on
abbrev pub from : ℕ → ℕ → List ℕ
from zero at = []
from (suc n) at = at ∷ from n (at + 1)

abbrev pub insert_terms : ℕ → List Term
insert_terms width = lit Null ∷ map (col 0) (from width 0)

-- the key's columns are the first parameters
abbrev pub key_terms : ℕ → List Term
key_terms keys = map (λ i. op2 (Compare Eq Binary) (col 1 (i + 1)) (col 0 i)) (from keys 0)

-- the old rowid, and the whole new row
abbrev pub update_terms : ℕ → ℕ → List Term
update_terms keys width = col 1 0 ∷ col 1 0 ∷ map (col 1) (from keys 1) ++ map (col 0) (from (width - keys) keys)

abbrev pub columns : ℕ → List Term
columns width = map (col 1) (from width 1)

-- the text is that of a query
pub record IsQuery (sql : List ℕ) (query : Query) : Type 0 where
  pub names : List (List ℕ)
  pub asks : Asks station_schema sql query names

-- with these parameters it shows these rows of a station's tables
pub record Lists {X : Type 0} {sql : List ℕ} {query : Query} (is : IsQuery sql query) (params : Row) (show : X → Row) (wanted : Tables → List X) : Type 1 where
  pub shows : (old new : State) (rows : List Row) → IsStation old.now → Shown sql params old new rows → rows ≡ map show (wanted (tables_of old.now.trees))
