-- What a query for columns of one table returns, under any schema that has the table.
use Rattle.table_load.proofs.Common.{AllByRecursion, Answers, AreInOrder, Binary, Bool, Checked, Compiled, Database, Err, Error, IsPermutation, IsPermutation-map, IsPlain, IsReadOnly, IsSelect, IsSorted, IsUnchanged, List, Mismatch, NoCase, None, Null, Ok, Option, Output, RTrim, Row, Schema, Select, Some, State, Stops, Survives, Table, Trees, [], ap, ap₂, arith, column_named, command_of, declared, end, eval_all, false, flat_map, found, found_at, found_in, if◌then◌else◌, inl, inner, inr, is_key, is_lt, key_cmp, length, length-map, map, map-map, map_same, matches_as, never_commits, no_overlay, not_run, nothing, option_and_then, option_map, output, output_cmp, overlay, place_by_name, place_of, places_by_name, query_keeps, query_stops, reads_as, refl, rising_keys, rows_of, slice_get, subst, subst₂, suc, survives_weaker, sym, table_by_name, table_named, take, true, understood, unwrap_or, zero, ℕ, ◌+◌, ◌==◌, ◌∙◌, ◌∷◌, ◌≡◌, ◌≤◌}
use Rattle.std.specs.declared.cmp.Ordering.{Ordering}
use Rattle.sqlite_trees.proofs.ListLemmas.{all-permutation}
use Rattle.sqlite.specs.declared.types.Value.{Value}
use Rattle.std.proofs.Math.ListN.{get_or-map}
use Rattle.sqlite.specs.Order.{column}
use Rattle.sqlite_value.specs.Keys.{collation_code}
use Rattle.sqlite_value.specs.declared.keys.Collation.{Collation}
use Rattle.sqlite_resolve.specs.Lowering.{alone}
use Rattle.sqlite.specs.State.{FailsToQuery, Shown, CommitsShowing}
use Rattle.table_load.proofs.AnySchema.{InTable, Means, means, names_of, term_in, by_in, asks_of, program_of}

-- ---- options

pub then_some : {A B : Type 0} (f : A → Option B) (o : Option A) (b : B) → option_and_then f o ≡ Some b → (a : A) × (o ≡ Some a) × (f a ≡ Some b)
then_some f None b h = absurd (cc)
then_some f (Some a) b h = (a, refl, h)

pub map_some : {A B : Type 0} (f : A → B) (o : Option A) (b : B) → option_map f o ≡ Some b → (a : A) × (o ≡ Some a) × (f a ≡ b)
map_some f None b h = absurd (cc)
map_some f (Some a) b h = (a, refl, cc)

pub if_some : {A : Type 0} (t : Bool) (a b : A) → (if t then Some a else None) ≡ Some b → (t ≡ true) × (a ≡ b)
if_some true a b h = (refl, cc)
if_some false a b h = absurd (cc)

is_binary : (c : Collation) → (collation_code c == 0) ≡ true → c ≡ Binary
is_binary Binary h = refl
is_binary NoCase h = absurd (cc)
is_binary RTrim h = absurd (cc)

-- ---- the columns that were found

pub record AreIn (table : Table) (names : List (List ℕ)) (places : List ℕ) : Type 0 where
  pub cs : List (InTable table)
  pub cnames : names_of table cs ≡ names
  pub cplaces : map (λ c. place_of table c.place) cs ≡ places

pub are_in : (table : Table) (names : List (List ℕ)) (places : List ℕ) → places_by_name table names ≡ Some places → AreIn table names places
are_in table [] places h = record { cs = []; cnames = refl; cplaces = cc }
are_in table (name ∷ names) places h =
    let p = then_some _ (place_by_name table name) places h in
    let q = map_some _ (places_by_name table names) places p.2 in
    let a = then_some _ (column_named table name) p.0 p.1 in
    let c = then_some _ (slice_get table.columns a.0) p.0 a.2 in
    let b = if_some _ _ _ c.2 in
    let more = are_in table names q.0 q.1 in
    record {
      cs = record { cname = name; place = a.0; it = c.0; found = a.1; there = c.1; binary = is_binary c.0.collation b.0 } ∷ more.cs;
      cnames = ap (λ l. name ∷ l) more.cnames;
      cplaces = ap₂ ◌∷◌ b.1 more.cplaces ∙ q.2;
    }

-- ---- the rows of one table

each_row : (params : Row) (rows : List Row) → flat_map (λ r. (params ∷ r ∷ []) ∷ []) rows ≡ map (λ r. params ∷ r ∷ []) rows
each_row params [] = refl
each_row params (r ∷ rows) = ap (λ l. (params ∷ r ∷ []) ∷ l) (each_row params rows)

scan_all : (lost : Value) (db : Trees) (t : ℕ) (params : Row) → matches_as lost (overlay db []) [] (inner t end) (params ∷ []) ≡ map (λ r. params ∷ r ∷ []) (db t)
scan_all lost db t params = each_row params (overlay db [] t) ∙ ap (map (λ r. params ∷ r ∷ [])) (no_overlay db t)

values_of : (table : Table) (params r : Row) (cs : List (InTable table)) → eval_all (map (term_in table) cs) (params ∷ r ∷ []) ≡ map (column r) (map (λ c. place_of table c.place) cs)
values_of table params r [] = refl
values_of table params r (c ∷ cs) = ap (λ l. column r (place_of table c.place) ∷ l) (values_of table params r cs)

keys_are : (table : Table) (params r : Row) (n : ℕ) (cs : List (InTable table)) → eval_all (map (λ k. k.0) (map (by_in table) (take n cs))) (params ∷ r ∷ []) ≡ take n (map (column r) (map (λ c. place_of table c.place) cs))
keys_are table params r zero cs = refl
keys_are table params r (suc n) [] = refl
keys_are table params r (suc n) (c ∷ cs) = ap (λ l. column r (place_of table c.place) ∷ l) (keys_are table params r n cs)

is_plain : (table : Table) (c : InTable table) → alone (declared table c.place c.it) ≡ Binary
unfolding alone
is_plain table c = elim (is_key table.key c.place) as (λ b. unwrap_or (if b then nothing else record { collation = Some c.it.collation; is_written = false }).collation Binary ≡ Binary) [ true ↦ refl | false ↦ c.binary ]

rising_are : (table : Table) (n : ℕ) (cs : List (InTable table)) → n ≤ length cs → map (λ k. k.1) (map (by_in table) (take n cs)) ≡ rising_keys n
rising_are table zero cs low = refl
rising_are table (suc n) [] low = absurd (omega arith)
rising_are table (suc n) (c ∷ cs) low = ap₂ ◌∷◌ (ap (λ o. record { collation = o; descending = false }) (is_plain table c)) (rising_are table n cs (omega arith))

abbrev pub keyed_by : ℕ → Row → Output
keyed_by n r = (take n r, r)

all_keyed : (n : ℕ) (rows : List Row) → AllByRecursion (λ (o : Output). o ≡ keyed_by n o.1) (map (keyed_by n) rows)
all_keyed n [] = tt
all_keyed n (r ∷ rows) = (refl, all_keyed n rows)

back_keyed : (n : ℕ) (outs : List Output) → AllByRecursion (λ (o : Output). o ≡ keyed_by n o.1) outs → outs ≡ map (keyed_by n) (map (λ (o : Output). o.1) outs)
back_keyed n [] all = refl
back_keyed n (o ∷ outs) all = ap₂ ◌∷◌ all.0 (back_keyed n outs all.1)

second_keyed : (n : ℕ) (rows : List Row) → map (λ (o : Output). o.1) (map (keyed_by n) rows) ≡ rows
second_keyed n [] = refl
second_keyed n (r ∷ rows) = ap (λ l. r ∷ l) (second_keyed n rows)

sorted_by : {X Y : Type 0} (f : X → Y) (cmp : Y → Y → Ordering) (xs : List X) → IsSorted cmp (map f xs) → IsSorted (λ a b. cmp (f a) (f b)) xs
sorted_by f cmp xs h k d low high =
    let e : length (map f xs) ≡ length xs = length-map xs f in
    subst₂ (λ a b. is_lt (cmp a b) ≡ false) (get_or-map f xs (k + 1) d) (get_or-map f xs k d) (h k (f d) low (omega arith))

module _ (schema : Schema) (db : Trees) (table : Table) (cs : List (InTable table)) (n : ℕ) (low : n ≤ length cs) where
  abbrev places : List ℕ
  places = map (λ c. place_of table c.place) cs

  abbrev raw : List Row
  raw = map (λ r. map (column r) places) (db table.tree)

  pub record IsAnswered (rows : List Row) : Type 0 where
    pub same : IsPermutation raw rows
    pub sorted : AreInOrder n rows

  abbrev env_of : Row → List Row
  env_of r = [] ∷ r ∷ []

  abbrev second : Output → Row
  second o = o.1

  pub answered : (rows : List Row) → Answers (record { schema = schema; trees = db }) (program_of table cs (take n cs)) [] rows → IsAnswered rows
  answered rows h =
      let q = asks_of table cs (take n cs) in
      let a = h.answer Null in
      let kept : a.kept ≡ map (keyed_by n) raw =
      a.distinct ∙ ap (map (output q)) (a.grouped ∙ scan_all Null db table.tree []) ∙ map-map (output q) env_of (db table.tree)
      ∙ map_same _ (λ r. keyed_by n (map (column r) places)) (λ r. ap₂ (λ x y. (x, y)) (keys_are table [] r n cs) (values_of table [] r cs)) (db table.tree)
      ∙ sym (map-map (keyed_by n) (λ r. map (column r) places) (db table.tree)) in
      let same : IsPermutation (map (keyed_by n) raw) a.ordered = subst (λ k. IsPermutation k a.ordered) kept a.same in
      let shown : rows ≡ map second a.ordered = a.shown in
      let keyed : a.ordered ≡ map (keyed_by n) (map second a.ordered) = back_keyed n a.ordered (all-permutation (λ (o : Output). o ≡ keyed_by n o.1) _ _ same (all_keyed n raw)) in
      let sorted : IsSorted (output_cmp q) (map (keyed_by n) rows) = subst (IsSorted (output_cmp q)) (keyed ∙ ap (map (keyed_by n)) (sym shown)) a.sorted in
      record {
        same = subst₂ IsPermutation (second_keyed n raw) (sym shown) (IsPermutation-map second _ _ same);
        sorted = subst (λ ks. IsSorted (λ a b. key_cmp 0 ks (take n a) (take n b)) rows) (rising_are table n cs low) (sorted_by (keyed_by n) (output_cmp q) rows sorted);
      }

-- ---- what was found under the names

pub record IsFoundIn (db : Database) (name : List ℕ) (names : List (List ℕ)) (raw : List Row) : Type 0 where
  pub at : ℕ
  pub table : Table
  pub places : List ℕ
  pub named : table_named db.schema name ≡ Some at
  pub stands : slice_get db.schema.tables at ≡ Some table
  pub placed : places_by_name table names ≡ Some places
  pub raw_is : map (λ r. map (column r) places) (db.trees table.tree) ≡ raw

rows_in : (trees : Trees) (table : Table) (o : Option (List ℕ)) (raw : List Row) → found_in trees table o ≡ rows_of raw → (places : List ℕ) × (o ≡ Some places) × (map (λ r. map (column r) places) (trees table.tree) ≡ raw)
rows_in trees table None raw h = absurd (cc)
rows_in trees table (Some places) raw h = (places, refl, cc)

rows_at : (trees : Trees) (names : List (List ℕ)) (o : Option Table) (raw : List Row) → found_at trees names o ≡ rows_of raw → (table : Table) × (o ≡ Some table) × (found_in trees table (places_by_name table names) ≡ rows_of raw)
rows_at trees names None raw h = absurd (cc)
rows_at trees names (Some table) raw h = (table, refl, h)

pub is_found : (db : Database) (name : List ℕ) (names : List (List ℕ)) (raw : List Row) → found db name names ≡ rows_of raw → IsFoundIn db name names raw
is_found db name names raw h =
    let t = rows_at db.trees names (table_by_name db.schema name) raw h in
    let p = rows_in db.trees t.0 (places_by_name t.0 names) raw t.2 in
    let a = then_some (slice_get db.schema.tables) (table_named db.schema name) t.0 t.1 in
    record { at = a.0; table = t.0; places = p.0; named = a.1; stands = a.2; placed = p.1; raw_is = p.2 }

names_taken : (table : Table) (n : ℕ) (cs : List (InTable table)) → names_of table (take n cs) ≡ take n (names_of table cs)
names_taken table zero cs = refl
names_taken table (suc n) [] = refl
names_taken table (suc n) (c ∷ cs) = ap (λ l. c.cname ∷ l) (names_taken table n cs)

accepted : (b : Bool) (it c : Compiled) (u : Checked Compiled) → u ≡ (if b then Ok it else Err Mismatch) → u ≡ Ok c → u ≡ Ok it
accepted true it c u e h = e
accepted false it c u e h = absurd (let k = sym h ∙ e in cc)

-- a query for the first columns of one table, in their order
module _ (text name : List ℕ) (names : List (List ℕ)) (n : ℕ) (low : n ≤ length names) (select : IsSelect text name names (take n names))
    (old new : State) (raw : List Row) (has : found old.now name names ≡ rows_of raw) where
  abbrev at_hand : IsFoundIn old.now name names raw
  at_hand = is_found old.now name names raw has

  abbrev all_of : AreIn at_hand.table names at_hand.places
  all_of = are_in at_hand.table names at_hand.places at_hand.placed

  select_of : IsSelect text name (names_of at_hand.table all_of.cs) (names_of at_hand.table (take n all_of.cs))
  select_of = subst₂ (IsSelect text name) (sym all_of.cnames) (sym (names_taken at_hand.table n all_of.cs ∙ ap (take n) all_of.cnames)) select

  abbrev meant : Means old.now.schema name at_hand.at at_hand.table at_hand.named at_hand.stands text all_of.cs (take n all_of.cs)
  meant = means old.now.schema name at_hand.at at_hand.table at_hand.named at_hand.stands text all_of.cs (take n all_of.cs) select_of

  plain : (c : Compiled) → understood old.now.schema text ≡ Ok c → IsPlain (understood old.now.schema text) × (command_of (understood old.now.schema text) ≡ Select (program_of at_hand.table all_of.cs (take n all_of.cs)) meant.names)
  plain c h =
      let e = accepted _ meant.it c (understood old.now.schema text) meant.understood_is h in
      (subst IsPlain (sym e) (meant.shows_is, meant.times_is), ap command_of e ∙ meant.asks_is)

  few : n ≤ length all_of.cs
  few = let e : length (names_of at_hand.table all_of.cs) ≡ length all_of.cs = length-map all_of.cs (λ c. c.cname) in let d = ap length all_of.cnames in omega arith

  pub record IsWhole (rows : List Row) : Type 0 where
    pub same : IsPermutation raw rows
    pub sorted : AreInOrder n rows

  pub reads_whole : (rows : List Row) → Shown text [] old new rows → IsWhole rows × IsUnchanged old new
  unfolding Shown
  reads_whole rows h =
      let p = plain h.0 h.1.is in
      let read = reads_as text [] old new old.now.schema refl (Select (program_of at_hand.table all_of.cs (take n all_of.cs)) meant.names) p.1 p.0 meant.unlisted rows h in
      let got = answered old.now.schema old.now.trees at_hand.table all_of.cs n few rows read in
      let is : map (λ r. map (column r) (map (λ c. place_of at_hand.table c.place) all_of.cs)) (old.now.trees at_hand.table.tree) ≡ raw =
      ap (λ ps. map (λ r. map (column r) ps) (old.now.trees at_hand.table.tree)) all_of.cplaces ∙ at_hand.raw_is in
      (record { same = subst (λ l. IsPermutation l rows) is got.same; sorted = got.sorted }, query_keeps text [] old new old.now.schema refl p.0 rows h)

  pub plain_whole : IsReadOnly old.now.schema text
  plain_whole c h = (plain c h).0

  pub stops_whole : (e : Error) → FailsToQuery text [] old new e → Stops old new
  unfolding FailsToQuery
  stops_whole e (inl h) = not_run text [] old new e h
  stops_whole e (inr h) = query_stops text [] old new old.now.schema refl (plain h.0 h.1.is).0 e (inr h)

  pub survives_whole : Survives old new (CommitsShowing text [] old) → Survives old new (λ _. ⊥)
  unfolding CommitsShowing
  survives_whole = survives_weaker old new _ _ (λ _ db h. never_commits text [] old db (plain h.0 h.1.is).0 h)
