-- That tables, or trees, are a station's has at most one proof.
use Rattle.std.specs.Prelude.{◌<ℤ◌, ◌==◌, ℤ, ℕ, List, [], ◌∷◌, refl, Bool, true, false, MatchBool}
use Rattle.station_schema.specs.Common.{AllByRecursion, Table, Ordering, Row, Database, Trees, IsAscending-prop, rows_set, IsKeyedBy}
use Rattle.station_schema.specs.Connection.{IsOwn}
use Rattle.station_schema.specs.Schema.{station_schema}
use Rattle.sqlite_schema.specs.contracts.schema.Schema.{the_row as schema_row}
use Rattle.station_schema.specs.Tables.{AreEntries, AreListed, IsTyped, IsStation}
use base.Stored.{Coded-set}
use lib.Dec.{T_prop}
use mathlib.Core.Bool.{Bool-set}

keyed_once : {X : Type 0} (key : X → ℤ) (xs : List X) → IsProp (IsKeyedBy key xs)
keyed_once key xs = IsAscending-prop (λ a b. key a <ℤ key b) (λ a b. hlevel T_prop) xs

entries_once : {K V : Type 0} (R : K → K → Ordering) (to_row : K × V → Row) (from_row : Row → K × V) (stored : List Row) → IsProp (AreEntries R to_row from_row stored)
entries_once R to_row from_row stored a b = λ i. record {
  rows = rows_set _ _ a.rows b.rows i;
  keyed = keyed_once _ _ a.keyed b.keyed i;
  apart = IsAscending-prop _ (λ x y. Bool-set _ _) _ a.apart b.apart i;
}

listed_once : {X : Type 0} (key : X → ℤ) (to_row : X → Row) (from_row : Row → X) (stored : List Row) → IsProp (AreListed key to_row from_row stored)
listed_once key to_row from_row stored a b = λ i. record { rows = rows_set _ _ a.rows b.rows i; keyed = keyed_once _ _ a.keyed b.keyed i }

either_once : (b : Bool) {P Q : Type 0} → IsProp P → IsProp Q → IsProp (MatchBool b P Q)
either_once true p q = p
either_once false p q = q

typed_once : (t : ℕ) (rows : List Row) → IsProp (IsTyped t rows)
typed_once t rows =
    either_once (t == 0) (listed_once _ _ _ _)
    (either_once (t == 1) (listed_once _ _ _ _)
    (either_once (t == 2) (entries_once _ _ _ _)
    (either_once (t == 4) (entries_once _ _ _ _)
    (either_once (t == 6) (listed_once _ _ _ _)
    (either_once (t == 8) (entries_once _ _ _ _)
    (either_once (t == 10) (entries_once _ _ _ _)
    (either_once (t == 12) (listed_once _ _ _ _)
    (either_once (t == 13) (listed_once _ _ _ _)
    (either_once (t == 14) (entries_once _ _ _ _)
    (either_once (t == 16) (entries_once _ _ _ _)
    (either_once (t == 18) (entries_once _ _ _ _)
    (either_once (t == 20) (entries_once _ _ _ _)
    (either_once (t == 22) (listed_once _ _ _ _) (λ a b. refl))))))))))))))

all_once : {A : Type 0} (P : A → Type 0) → ((a : A) → IsProp (P a)) → (xs : List A) → IsProp (AllByRecursion P xs)
all_once P once [] a b = refl
all_once P once (x ∷ xs) a b = λ i. (once x a.0 b.0 i, all_once P once xs a.1 b.1 i)

pub station_once : (db : Database) → IsProp (IsStation db)
station_once db a b = λ i. record {
  schema = Coded-set schema_row.coded _ _ a.schema b.schema i;
  typed = all_once (λ (table : Table). IsTyped table.tree (db.trees table.tree)) (λ table. typed_once table.tree (db.trees table.tree))
      station_schema.tables a.typed b.typed i;
}

pub own_once : (db : Trees) → IsProp (IsOwn db)
own_once db a b = λ i. record { only = λ schema sound. Coded-set schema_row.coded _ _ (a.only schema sound) (b.only schema sound) i }
