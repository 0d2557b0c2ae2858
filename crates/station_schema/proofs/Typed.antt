-- The rows of a STRICT table that obeys its rules are typed, and its keys come once, whatever the table.
use Rattle.station_schema.proofs.Common.{AllByRecursion, AreEntries, AreListed, Bool, Int, Integer, IsAscending, IsKeyedBy, IsShaped, IsTable, IsTotalOrder, IsTrue, List, Ne, None, Null, Option, Ordering, Row, Some, Table, Text, Value, [], agree, all_both, all_unmap, all_weaker, ap, ap₂, are_present, are_typed, arith, ascending_from_map, ascending_weaker, at_ints, clashes, column, column_of, cond, differ, drop, drop-drop, eq_by_cmp, false, has_computed, int_eq, ints, is_null, is_of, length, lt_from_Less, map, none_from_any, not, numbered, numbered_in, plain, refl, rowid, subst, suc, sym, true, value_cmp, value_cmp-Int, zero, ℕ, ℤ, ◌&&◌, ◌+◌, ◌<ℤ◌, ◌<◌, ◌||◌, ◌∙◌, ◌∷◌, ◌≡◌}
use Rattle.std.proofs.lemmas.Bool.Decides.{nat_tests}
use Rattle.sqlite.specs.View.{is_int}
use Rattle.sqlite.specs.Kind.{Kind}
use Rattle.sqlite.specs.Kind.TheVariants.{Text as Words}
use Rattle.sqlite_schema.specs.declared.schema.Column.{Column}
use Rattle.sqlite_schema.specs.Names.{is_key}
use Rattle.sqlite_trees.specs.declared.store.Shape.TheVariants.{Table as TableShape}
use Rattle.sqlite_keyed.proofs.RuleLemmas.{first_of_both, second_of_both}
use Rattle.sqlite_typed.specs.Columns.{int_of, bytes_of}
use Rattle.station_schema.proofs.ColumnKeys.{Compares, first_false, no_clash, number}

-- ---- columns of text and of integers

abbrev kind_of : Bool → Kind
kind_of true = Words
kind_of false = Integer

abbrev is_words : Kind → Bool
is_words Words = true
is_words _ = false

abbrev value_as : Bool → Value → Value
value_as true v = Text (bytes_of v)
value_as false v = Int (int_of v)

-- the names of columns, and whether each is of text
abbrev pub wanted_of : List Column → List (List ℕ × Bool)
wanted_of [] = []
wanted_of (c ∷ cs) = (c.name, is_words c.kind) ∷ wanted_of cs

abbrev pub columns_of : List (List ℕ × Bool) → List Column
columns_of [] = []
columns_of (c ∷ cs) = column_of c.0 (kind_of c.1) ∷ columns_of cs

abbrev values_as : List (List ℕ × Bool) → Row → Row
values_as [] vs = []
values_as (c ∷ cs) vs = value_as c.1 (column vs 0) ∷ values_as cs (drop 1 vs)

-- the values of such columns, which lie in a row from this place on
abbrev pub values_at : List (List ℕ × Bool) → ℕ → Row → Row
values_at [] at row = []
values_at (c ∷ cs) at row = value_as c.1 (column row at) ∷ values_at cs (at + 1) row

dropped : (n i : ℕ) (row : Row) → column (drop n row) i ≡ column row (n + i)
dropped zero i row = ap (column row) (omega arith)
dropped (suc n) i [] = refl
dropped (suc n) i (v ∷ row) = dropped n i row ∙ ap (column (v ∷ row)) (plus_suc n i)
  where
    plus_suc : (a b : ℕ) → suc (a + b) ≡ suc a + b
    plus_suc a b = omega arith

drop_more : (n : ℕ) (row : Row) → drop 1 (drop n row) ≡ drop (n + 1) row
drop_more n row = drop-drop 1 n row

values_lie : (cs : List (List ℕ × Bool)) (at : ℕ) (row : Row) → values_as cs (drop at row) ≡ values_at cs at row
values_lie [] at row = refl
values_lie (c ∷ cs) at row = ap₂ ◌∷◌ (ap (value_as c.1) (dropped at 0 row ∙ ap (column row) (omega arith))) (ap (values_as cs) (drop_more at row) ∙ values_lie cs (at + 1) row)

typed_value : (is_text : Bool) (v : Value) → is_of (kind_of is_text) v ≡ true → not (is_null v) ≡ true → v ≡ value_as is_text v
typed_value false (Int n) t p = refl
typed_value true (Text n) t p = refl
typed_value _ _ t p = absurd (cc)

module _ (key : Option ℕ) (row : Row) where
  here : (at : ℕ) → ((i : ℕ) → is_key key (at + i) ≡ false) → is_key key at ≡ false
  here at plain = ap (is_key key) (omega arith) ∙ plain 0

  first_is : (at : ℕ) (vs : Row) → ((i : ℕ) → column row (at + 1 + i) ≡ column vs i) → column row (at + 1) ≡ column vs 0
  first_is at vs same = ap (column row) (omega arith) ∙ same 0

  there : (at : ℕ) (vs : Row) (more : Bool) → ((i : ℕ) → column row (at + 1 + i) ≡ column vs i) → ((i : ℕ) → is_key key (at + i) ≡ false)
      → (((is_key key at || false) || not (is_null (column row (at + 1)))) && more) ≡ true → not (is_null (column vs 0)) ≡ true
  there at vs more same plain p = subst (λ v. not (is_null v) ≡ true) (first_is at vs same) (subst (λ b. ((b || false) || not (is_null (column row (at + 1)))) ≡ true) (here at plain) (first_of_both _ _ p))

  -- the values from a column on, in a row that obeys DATATYPE and NOT NULL
  typed_from : (at : ℕ) (cs : List (List ℕ × Bool)) (vs : Row) → ((i : ℕ) → column row (at + 1 + i) ≡ column vs i) → ((i : ℕ) → is_key key (at + i) ≡ false)
      → are_typed key at (columns_of cs) vs ≡ true → are_present key at (columns_of cs) row ≡ true → vs ≡ values_as cs vs
  typed_from at [] [] same plain t p = refl
  typed_from at [] (v ∷ vs) same plain t p = absurd (cc)
  typed_from at (c ∷ cs) [] same plain t p = absurd (let no = there at [] _ same plain p in cc)
  typed_from at (c ∷ cs) (v ∷ vs) same plain t p =
      let is : is_of (kind_of c.1) v ≡ true = subst (λ b. cond b (is_null v) (is_of (kind_of c.1) v) ≡ true) (here at plain) (first_of_both _ _ t) in
      let head : v ≡ value_as c.1 v = typed_value c.1 v is (there at (v ∷ vs) _ same plain p) in
      let tail : vs ≡ values_as cs vs = typed_from (at + 1) cs vs (λ i. ap (column row) (omega arith) ∙ same (suc i)) (λ i. ap (is_key key) (omega arith) ∙ plain (suc i)) (second_of_both _ _ t) (second_of_both _ _ p) in
      ap₂ ◌∷◌ head tail

int_rowid : (v : Value) → IsTrue (is_int v) → v ≡ Int (int_of v)
int_rowid (Int n) h = refl
int_rowid _ h = absurd (cc)

null_is : (v : Value) → is_null v ≡ true → v ≡ Null
null_is Null h = refl
null_is _ h = absurd (cc)

-- the rules of a table with this key and these columns, for one row
abbrev IsTypedRow : Table → Option ℕ → List Column → Row → Type 0
IsTypedRow table key columns row = (are_typed key 0 columns (drop 1 row) && has_computed table row) ≡ true

abbrev IsPresentRow : Option ℕ → List Column → Row → Type 0
IsPresentRow key columns row = are_present key 0 columns row ≡ true

abbrev IsApart : List ℕ → List Row → Row → Type 0
IsApart places rows row = (not (clashes plain places rows row) && true) ≡ true

all_three : (P Q R S : Row → Type 0) → ((r : Row) → P r → Q r → R r → S r) → (rows : List Row) → AllByRecursion P rows → AllByRecursion Q rows → AllByRecursion R rows → AllByRecursion S rows
all_three P Q R S f [] p q r = tt
all_three P Q R S f (x ∷ rows) p q r = (f x p.0 q.0 r.0, all_three P Q R S f rows p.1 q.1 r.1)

module _ {X : Type 0} (to_row : X → Row) (from_row : Row → X) where
  rows_back : (rows : List Row) → AllByRecursion (λ r. r ≡ to_row (from_row r)) rows → rows ≡ map to_row (map from_row rows)
  rows_back [] all = refl
  rows_back (r ∷ rows) all = ap₂ ◌∷◌ all.0 (rows_back rows all.1)

  keys_rise : (key : X → ℤ) → ((x : X) → rowid (to_row x) ≡ Int (key x)) → (xs : List X) → IsTable (map to_row xs) → IsKeyedBy key xs
  keys_rise key keyed xs up = ascending_weaker _ _ (λ a b h. lt_from_Less _ _ (sym (ap₂ value_cmp (keyed a) (keyed b) ∙ value_cmp-Int _ _) ∙ h)) _ (ascending_from_map _ to_row xs up)

-- ---- a table whose first column is its INTEGER PRIMARY KEY

shifted : (r k : Value) (vs : Row) (i : ℕ) → column (r ∷ k ∷ vs) (1 + 1 + i) ≡ column vs i
shifted r k vs i = ap (column (r ∷ k ∷ vs)) (plus_two i)
  where
    plus_two : (n : ℕ) → 1 + 1 + n ≡ suc (suc n)
    plus_two n = omega arith

past_key : (i : ℕ) → is_key (Some 0) (1 + i) ≡ false
past_key i = grind (arith, nat_tests)

keyed_row : (name : Column) (cs : List (List ℕ × Bool)) (row : Row) → IsTrue (is_int (rowid row)) → are_typed (Some 0) 0 (name ∷ columns_of cs) (drop 1 row) ≡ true
    → are_present (Some 0) 0 (name ∷ columns_of cs) row ≡ true → 1 < length cs + 1 → row ≡ Int (int_of (rowid row)) ∷ Null ∷ values_as cs (drop 2 row)
keyed_row name cs [] i t p some = absurd (cc)
keyed_row name [] (r ∷ []) i t p some = absurd (omega arith)
keyed_row name (c ∷ cs) (r ∷ []) i t p some = absurd (cc)
keyed_row name cs (r ∷ k ∷ vs) i t p some =
    ap₂ ◌∷◌ (int_rowid r i) (ap₂ ◌∷◌ (null_is k (first_of_both _ _ t))
    (typed_from (Some 0) (r ∷ k ∷ vs) 1 cs vs (shifted r k vs) past_key (second_of_both _ _ t) p))

module _ {X : Type 0} (key : X → ℤ) (to_row : X → Row) (from_row : Row → X) (keyed : (x : X) → rowid (to_row x) ≡ Int (key x)) (table : Table) (name : Column) (cs : List (List ℕ × Bool)) (some : 1 < length cs + 1)
    (row_is : (row : Row) → Int (int_of (rowid row)) ∷ Null ∷ values_at cs 2 row ≡ to_row (from_row row)) where
  abbrev columns : List Column
  columns = name ∷ columns_of cs

  row_back : (row : Row) → IsTrue (is_int (rowid row)) → IsTypedRow table (Some 0) columns row → IsPresentRow (Some 0) columns row → row ≡ to_row (from_row row)
  row_back row i t p = keyed_row name cs row i (first_of_both _ (has_computed table row) t) p some ∙ ap (λ vs. Int (int_of (rowid row)) ∷ Null ∷ vs) (values_lie cs 2 row) ∙ row_is row

  -- its rows are typed, and their keys rise
  pub rows_listed : (rows : List Row) → IsShaped TableShape rows → AllByRecursion (IsTypedRow table (Some 0) columns) rows → AllByRecursion (IsPresentRow (Some 0) columns) rows → AreListed key to_row from_row rows
  rows_listed rows shaped typed present =
      let is = rows_back to_row from_row rows (all_three _ _ _ (λ r. r ≡ to_row (from_row r)) row_back rows shaped.1 typed present) in
      record { rows = is; keyed = keys_rise to_row from_row key keyed (map from_row rows) (subst IsTable is shaped.0) }

-- ---- a table whose key is made of columns

after_rowid : (r : Value) (vs : Row) (i : ℕ) → column (r ∷ vs) (0 + 1 + i) ≡ column vs i
after_rowid r vs i = ap (column (r ∷ vs)) (one_more i)
  where
    one_more : (n : ℕ) → 0 + 1 + n ≡ suc n
    one_more n = omega arith

plain_row : (cs : List (List ℕ × Bool)) (row : Row) → IsTrue (is_int (rowid row)) → are_typed None 0 (columns_of cs) (drop 1 row) ≡ true → are_present None 0 (columns_of cs) row ≡ true → row ≡ Int (int_of (rowid row)) ∷ values_as cs (drop 1 row)
plain_row cs [] i t p = absurd (cc)
plain_row cs (r ∷ vs) i t p = ap₂ ◌∷◌ (int_rowid r i) (typed_from None (r ∷ vs) 0 cs vs (after_rowid r vs) (λ _. refl) t p)

-- what holds of each two rows holds of each and a later one
later_of_all : {X : Type 0} (Q : X → X → Type 0) (xs : List X) → AllByRecursion (λ b. AllByRecursion (λ a. Q a b) xs) xs → IsAscending Q xs
later_of_all Q [] all = tt
later_of_all Q (x ∷ xs) all = (all_weaker _ (Q x) (λ b h. h.0) xs all.1, later_of_all Q xs (all_weaker _ (λ b. AllByRecursion (λ a. Q a b) xs) (λ b h. h.1) xs all.1))

ascending_both : {X : Type 0} (P Q R : X → X → Type 0) → ((a b : X) → P a b → Q a b → R a b) → (xs : List X) → IsAscending P xs → IsAscending Q xs → IsAscending R xs
ascending_both P Q R f [] p q = tt
ascending_both P Q R f (x ∷ xs) p q = (all_both (P x) (Q x) (R x) (f x) xs p.0 q.0, ascending_both P Q R f xs p.1 q.1)

module _ {K V : Type 0} (R : K → K → Ordering) (total : IsTotalOrder R) (to_row : K × V → Row) (from_row : Row → K × V) (places : List ℕ) (compares : Compares R total to_row places)
    (table : Table) (cs : List (List ℕ × Bool)) (row_is : (row : Row) → values_at cs 1 row ≡ to_row (from_row row)) where
  entry_back : (row : Row) → IsTrue (is_int (rowid row)) → IsTypedRow table None (columns_of cs) row → IsPresentRow None (columns_of cs) row → row ≡ numbered to_row (numbered_in from_row row)
  entry_back row i t p = plain_row cs row i (first_of_both _ (has_computed table row) t) p ∙ ap (λ vs. Int (int_of (rowid row)) ∷ vs) (values_lie cs 1 row ∙ row_is row)

  keys_apart : (xs : List (ℤ × (K × V))) → IsKeyedBy number xs → AllByRecursion (IsApart places (map (numbered to_row) xs)) (map (numbered to_row) xs) → IsAscending (λ a b. eq_by_cmp R a.1.0 b.1.0 ≡ false) xs
  keys_apart xs up all =
      let each = all_weaker _ (λ (b : ℤ × (K × V)). AllByRecursion (λ (a : ℤ × (K × V)). (agree plain places (numbered to_row a) places (numbered to_row b) && differ (Int a.0) (Int b.0)) ≡ false) xs)
      (λ b h. all_unmap _ (numbered to_row) xs (none_from_any _ (map (numbered to_row) xs) (no_clash _ h))) xs (all_unmap _ (numbered to_row) xs all) in
      ascending_both _ (λ a b. a.0 <ℤ b.0) (λ a b. eq_by_cmp R a.1.0 b.1.0 ≡ false)
      (λ a b no low. first_false _ (int_eq a.0 b.0) (sym (ap₂ ◌&&◌ (compares a b) (at_ints false Ne a.0 b.0)) ∙ no) (let k = low in grind (arith, ints))) xs (later_of_all _ xs each) up

  -- its rows are the entries of a map
  pub rows_entered : (rows : List Row) → IsShaped TableShape rows → AllByRecursion (IsTypedRow table None (columns_of cs)) rows → AllByRecursion (IsPresentRow None (columns_of cs)) rows → AllByRecursion (IsApart places rows) rows → AreEntries R to_row from_row rows
  rows_entered rows shaped typed present unique =
      let is = rows_back (numbered to_row) (numbered_in from_row) rows (all_three _ _ _ (λ r. r ≡ numbered to_row (numbered_in from_row r)) entry_back rows shaped.1 typed present) in
      let raw = map (numbered_in from_row) rows in
      let keyed = keys_rise (numbered to_row) (numbered_in from_row) number (λ _. refl) raw (subst IsTable is shaped.0) in
      record { rows = is; keyed = keyed; apart = keys_apart raw keyed (subst (λ rs. AllByRecursion (IsApart places rs) rs) is unique) }
