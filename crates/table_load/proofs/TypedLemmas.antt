-- The entries that are held under the names, and those of a typed table, whatever the table.
use Rattle.std.proofs.Common.{◌≡◌, ◌∙◌, ◌<ℤ◌, ℕ, ℤ, List, ◌∷◌, map, sym, ap, subst, subst₂, arith, int_cmp, Ordering, Less, false}
use Rattle.table_load.proofs.Common.{AreEntries, AreLawful, AreListed, Database, FinMap, HoldsTable, Int, IsAscending, IsHeldBy, IsPermutation, IsPermutation-map, IsPermutation-refl, IsPermutation-sym, IsPermutation-trans, IsTotalOrder, Row, Schema, ascending-map, ascending_weaker, by_key, by_number, entries, eq_by_cmp, found, from_entries, int_cmp_total, ints, map-map, map_back, map_same, numbered, numbered_in, on_total, rows_of, sorted_unique}
use Rattle.sqlite.specs.Order.{column}
use Rattle.station_schema.proofs.Maps.{entries_of, entries_rise}
use Rattle.table_load.proofs.TableLemmas.{ascending_sorted}

rows_same : {a b : List Row} → rows_of a ≡ rows_of b → a ≡ b
rows_same h = cc

module _ {E : Type 0} (to_row : E → Row) (typed back : Row → E) (places : List ℕ) (backed : (e : E) → back (to_row e) ≡ e) (reads : (r : Row) → back (map (column r) places) ≡ typed r)
    (stored rows : List Row) (are : rows ≡ map (λ r. map (column r) places) stored) (es : List E) (same : IsPermutation (map to_row es) rows) where
  as_typed : IsPermutation es (map typed stored)
  as_typed =
      let read : map back rows ≡ map typed stored = ap (map back) are ∙ map-map back (λ r. map (column r) places) stored ∙ map_same (λ r. back (map (column r) places)) typed reads stored in
      subst₂ IsPermutation (map_back to_row back backed es) read (IsPermutation-map back _ _ same)

are_apart : {K V : Type 0} (R : K → K → Ordering) (to_row : K × V → Row) (typed : Row → K × V) (stored : List Row) → AreEntries R to_row typed stored → IsAscending (λ a b. eq_by_cmp R a.0 b.0 ≡ false) (map typed stored)
are_apart {K} {V} R to_row typed stored was =
    subst (IsAscending (λ a b. eq_by_cmp R a.0 b.0 ≡ false)) (map-map (λ n. n.1) (numbered_in typed) stored) (ascending-map (λ (a b : K × V). eq_by_cmp R a.0 b.0 ≡ false) (λ n. n.1) (map (numbered_in typed) stored) was.apart)

map_is : {K V : Type 0} (R : K → K → Ordering) (total : IsTotalOrder R) (to_row : K × V → Row) (typed back : Row → K × V) (places : List ℕ) → ((e : K × V) → back (to_row e) ≡ e) → ((r : Row) → back (map (column r) places) ≡ typed r)
    → (stored : List Row) → AreEntries R to_row typed stored → (rows : List Row) → rows ≡ map (λ r. map (column r) places) stored → (es : List (K × V)) → IsAscending (λ a b. by_key R a b ≡ Less) es → IsPermutation (map to_row es) rows
    → entries (from_entries {R = R} (map typed stored)) ≡ es
map_is {K} {V} R total to_row typed back places backed reads stored was rows are es up same =
    let m : FinMap R V = from_entries (map typed stored) in
    let first : IsPermutation es (map typed stored) = as_typed to_row typed back places backed reads stored rows are es same in
    let then : IsPermutation (map typed stored) (entries m) = entries_of R total (map typed stored) (are_apart R to_row typed stored was) in
    let by_total : IsTotalOrder (by_key {V = V} R) = on_total (λ (e : K × V). e.0) total in
    sorted_unique (by_key R) by_total es (entries m) up (IsPermutation-trans _ _ _ first then) (ascending_sorted (by_key R) by_total (entries m) (entries_rise R total m))

by_number_rises : {X : Type 0} (key : X → ℤ) (stored_row : X → Row) (typed : Row → X) (stored : List Row) → AreListed key stored_row typed stored → IsAscending (λ a b. by_number key a b ≡ Less) (map typed stored)
by_number_rises key stored_row typed stored was = ascending_weaker _ _ (λ a b h. less (key a) (key b) h) (map typed stored) was.keyed
  where
    less : (m n : ℤ) → m <ℤ n → int_cmp m n ≡ Less
    less m n h = grind (arith, ints)

list_is : {X : Type 0} (key : X → ℤ) (to_row stored_row : X → Row) (typed back : Row → X) (places : List ℕ) → ((e : X) → back (to_row e) ≡ e) → ((r : Row) → back (map (column r) places) ≡ typed r)
    → (stored : List Row) → AreListed key stored_row typed stored → (rows : List Row) → rows ≡ map (λ r. map (column r) places) stored → (es : List X) → IsAscending (λ a b. by_number key a b ≡ Less) es → IsPermutation (map to_row es) rows
    → map typed stored ≡ es
list_is key to_row stored_row typed back places backed reads stored was rows are es up same =
    let by_total : IsTotalOrder (by_number key) = on_total key int_cmp_total in
    let rising = by_number_rises key stored_row typed stored was in
    sorted_unique (by_number key) by_total es (map typed stored) up (as_typed to_row typed back places backed reads stored rows are es same) (ascending_sorted (by_number key) by_total (map typed stored) rising)

-- ---- and back: the typed table is held

list_same : {X : Type 0} (key : X → ℤ) (to_row stored_row : X → Row) (typed : Row → X) (places : List ℕ) → ((x : X) → map (column (stored_row x)) places ≡ to_row x) → (stored : List Row) → AreListed key stored_row typed stored
    → IsPermutation (map to_row (map typed stored)) (map (λ r. map (column r) places) stored)
list_same key to_row stored_row typed places shows stored was =
    let show = λ (r : Row). map (column r) places in
    let rows : map show stored ≡ map to_row (map typed stored) = ap (map show) was.rows ∙ map-map show stored_row (map typed stored) ∙ map_same (λ x. show (stored_row x)) to_row shows (map typed stored) in
    subst (IsPermutation (map to_row (map typed stored))) (sym rows) (IsPermutation-refl _)

map_same_rows : {K V : Type 0} (R : K → K → Ordering) (total : IsTotalOrder R) (to_row : K × V → Row) (typed : Row → K × V) (places : List ℕ) → ((n : ℤ) (e : K × V) → map (column (Int n ∷ to_row e)) places ≡ to_row e) → (stored : List Row) → AreEntries R to_row typed stored
    → IsPermutation (map to_row (entries (from_entries {R = R} (map typed stored)))) (map (λ r. map (column r) places) stored)
map_same_rows {K} {V} R total to_row typed places shows stored was =
    let show = λ (r : Row). map (column r) places in
    let m : FinMap R V = from_entries (map typed stored) in
    let raw = map (numbered_in typed) stored in
    let rows : map show stored ≡ map to_row (map typed stored) =
    ap (map show) was.rows ∙ map-map show (numbered to_row) raw ∙ map_same (λ n. show (numbered to_row n)) (λ n. to_row n.1) (λ n. shows n.0 n.1) raw
    ∙ sym (map-map to_row (λ n. n.1) raw) ∙ ap (map to_row) (map-map (λ n. n.1) (numbered_in typed) stored) in
    subst (IsPermutation (map to_row (entries m))) (sym rows) (IsPermutation-map to_row _ _ (IsPermutation-sym _ _ (entries_of R total (map typed stored) (are_apart R to_row typed stored was))))

-- ---- so it is the only list that is held

pub keyed_held : {K V : Type 0} {R : K → K → Ordering} (total : IsTotalOrder R) {to_row : K × V → Row} {typed : Row → K × V} (back : Row → K × V) {HasTexts : K × V → Type 0} (places : List ℕ) {db : Database} {schema : Schema} {name : List ℕ} {columns : List (List ℕ)} {stored : List Row}
    → db.schema ≡ schema → found (record { schema = schema; trees = db.trees }) name columns ≡ rows_of (map (λ r. map (column r) places) stored) → AreEntries R to_row typed stored → ((e : K × V) → back (to_row e) ≡ e) → ((r : Row) → back (map (column r) places) ≡ typed r) → ((n : ℤ) (e : K × V) → map (column (Int n ∷ to_row e)) places ≡ to_row e)
    → IsHeldBy (λ db. HoldsTable db name columns to_row (AreLawful (by_key R) HasTexts)) HasTexts db (entries (from_entries {R = R} (map typed stored)))
keyed_held {R = R} total {to_row} {typed} back places {db = db} {name = name} {columns = columns} {stored = stored} has declared was backed reads shows =
    let is : found db name columns ≡ rows_of (map (λ r. map (column r) places) stored) = ap (λ s. found (record { schema = s; trees = db.trees }) name columns) has ∙ declared in (
      λ es h. map_is R total to_row typed back places backed reads stored was h.rows (rows_same (sym h.found_is ∙ is)) es h.are.rising h.same,
      λ texts. record { are = record { rising = entries_rise R total (from_entries (map typed stored)); each = texts }; rows = map (λ r. map (column r) places) stored; found_is = is; same = map_same_rows R total to_row typed places shows stored was },
    )

pub numbered_held : {X : Type 0} {key : X → ℤ} {to_row stored_row : X → Row} {typed : Row → X} (back : Row → X) {HasTexts : X → Type 0} (places : List ℕ) {db : Database} {schema : Schema} {name : List ℕ} {columns : List (List ℕ)} {stored : List Row}
    → db.schema ≡ schema → found (record { schema = schema; trees = db.trees }) name columns ≡ rows_of (map (λ r. map (column r) places) stored) → AreListed key stored_row typed stored → ((e : X) → back (to_row e) ≡ e) → ((r : Row) → back (map (column r) places) ≡ typed r) → ((x : X) → map (column (stored_row x)) places ≡ to_row x)
    → IsHeldBy (λ db. HoldsTable db name columns to_row (AreLawful (by_number key) HasTexts)) HasTexts db (map typed stored)
numbered_held {key = key} {to_row} {stored_row} {typed} back places {db = db} {name = name} {columns = columns} {stored = stored} has declared was backed reads shows =
    let is : found db name columns ≡ rows_of (map (λ r. map (column r) places) stored) = ap (λ s. found (record { schema = s; trees = db.trees }) name columns) has ∙ declared in (
      λ es h. list_is key to_row stored_row typed back places backed reads stored was h.rows (rows_same (sym h.found_is ∙ is)) es h.are.rising h.same,
      λ texts. record { are = record { rising = by_number_rises key stored_row typed stored was; each = texts }; rows = map (λ r. map (column r) places) stored; found_is = is; same = list_same key to_row stored_row typed places shows stored was },
    )
