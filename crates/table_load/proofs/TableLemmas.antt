-- From the rows of a query to the entries of a table, whatever the entries are.
use Rattle.std.proofs.Common.{◌≡◌, inl, ℕ, zero, suc, ◌+◌, List, [], ◌∷◌, ◌++◌, map, length, true, false, None, Some, Option, Ok, Err, Result, refl, sym, ap, subst, ◌∙◌, slice_index_or, arith, take, Less, Equal, Greater, Ordering, is_lt}
use Rattle.table_load.proofs.Common.{Agrees, AllByRecursion, AreInOrder, AreLawful, AreRowsOf, Database, Error, HoldsTable, IfOk, IsAscending, IsErr, IsPermutation, IsPermutation-sym, IsPermutation-trans, IsSorted, IsTotalOrder, IsUnchanged, Reads, Row, State, Stops, TellsFold, TellsRows, ascending-map, ascending_weaker, found, key_order, map_back, on_total, rising_keys, rows_of, sorted_unique}
use Rattle.sqlite.specs.Order.{column}
use Rattle.sqlite_sql.proofs.QueryLemmas.{key_cmp_total}

-- ---- the values of a row, column by column

abbrev pub places_from : ℕ → ℕ → List ℕ
places_from at zero = []
places_from at (suc n) = at ∷ places_from (suc at) n

behind_first : (v : Rattle.sqlite.specs.declared.types.Value.Value) (r : Row) (at n : ℕ) → map (column (v ∷ r)) (places_from (suc at) n) ≡ map (column r) (places_from at n)
behind_first v r at zero = refl
behind_first v r at (suc n) = ap (λ l. column r at ∷ l) (behind_first v r (suc at) n)

pub all_columns : (n : ℕ) (r : Row) → length r ≡ n → r ≡ map (column r) (places_from 0 n)
all_columns zero [] wide = refl
all_columns (suc n) [] wide = absurd (omega arith)
all_columns zero (v ∷ r) wide = absurd (omega arith)
all_columns (suc n) (v ∷ r) wide = ap (λ l. v ∷ l) (all_columns n r (omega arith) ∙ sym (behind_first v r 0 n))

-- ---- keys that rise

pub is_less : (o : Ordering) → is_lt o ≡ true → o ≡ Less
is_less Less h = refl
is_less Equal h = absurd (cc)
is_less Greater h = absurd (cc)

-- ---- rows that are entries

pub push_lawful : {X E : Type 0} (meant : X → E) (P : E → Type 0) (xs : List X) (x : X) → AllByRecursion P (map meant xs) → P (meant x) → AllByRecursion P (map meant (xs ++ x ∷ []))
push_lawful meant P [] x all h = (h, tt)
push_lawful meant P (y ∷ xs) x all h = (all.0, push_lawful meant P xs x all.1 h)

-- ---- the order of SQL is that of the entries

order_total : (n : ℕ) → IsTotalOrder (key_order n)
order_total n = on_total (take n) (key_cmp_total (rising_keys n) 0)

not_below : {X : Type 0} (cmp : X → X → Ordering) → IsTotalOrder cmp → (a b : X) → cmp a b ≡ Less → is_lt (cmp b a) ≡ false
not_below cmp total a b h = let e = total.antisymm b a in rw (e, h) refl

pub ascending_sorted : {X : Type 0} (cmp : X → X → Ordering) → IsTotalOrder cmp → (xs : List X) → IsAscending (λ a b. cmp a b ≡ Less) xs → IsSorted cmp xs
ascending_sorted cmp total [] up k d low high = absurd (omega arith)
ascending_sorted cmp total (a ∷ []) up k d low high = absurd (omega arith)
ascending_sorted cmp total (a ∷ b ∷ xs) up zero d low high = not_below cmp total a b up.0.0
ascending_sorted cmp total (a ∷ b ∷ xs) up (suc k) d low high =
    let j : suc (k + 1) ≡ suc k + 1 = omega arith in
    subst (λ j. is_lt (cmp (slice_index_or (a ∷ b ∷ xs) j d) (slice_index_or (b ∷ xs) k d)) ≡ false) j (ascending_sorted cmp total (b ∷ xs) up.1 k d (omega arith) (omega arith))

pub reads_failed : {X : Type 0} (old new : State) (r : Result X Error) (P : X → Type 0) → IsErr r → Stops old new → Reads old new r P
reads_failed old new (Ok x) P is stops = absurd (let no : false ≡ true = is in cc)
reads_failed old new (Err e) P is stops = stops

module _ {E : Type 0} (n : ℕ) (to_row : E → Row) (cmp : E → E → Ordering) (agrees : Agrees n to_row cmp) (IsLawful : E → Type 0) where
  pub less_trans : (a b c : E) → cmp a b ≡ Less → cmp b c ≡ Less → cmp a c ≡ Less
  less_trans a b c h k = sym (agrees a c) ∙ (order_total n).trans (to_row a) (to_row b) (to_row c) (agrees a b ∙ h) (agrees b c ∙ k)

  in_order : (entries : List E) → IsAscending (λ a b. cmp a b ≡ Less) entries → IsAscending (λ a b. key_order n a b ≡ Less) (map to_row entries)
  in_order entries up = ascending-map (λ a b. key_order n a b ≡ Less) to_row entries (ascending_weaker _ _ (λ a b h. agrees a b ∙ h) entries up)

  -- ---- from the rows that were shown to what the database holds

  abbrev IsShown : Database → List ℕ → List (List ℕ) → List Row → Type 0
  IsShown db name columns rows = (raw : List Row) × (found db name columns ≡ rows_of raw) × IsPermutation raw rows × AreInOrder n rows

  same_rows : {a b : List Row} → rows_of a ≡ rows_of b → b ≡ a
  same_rows h = cc

  tells_some : (db : Database) (name : List ℕ) (columns : List (List ℕ)) (rows : List Row) → IsShown db name columns rows → (entries : List E) → AreRowsOf to_row (AreLawful cmp IsLawful) rows entries
      → HoldsTable db name columns to_row (AreLawful cmp IsLawful) entries
  tells_some db name columns rows h entries are = record { are = are.are; rows = h.0; found_is = h.1; same = subst (λ l. IsPermutation l h.0) are.is (IsPermutation-sym _ _ h.2) }

  tells_none : (db : Database) (name : List ℕ) (columns : List (List ℕ)) (rows : List Row) → IsShown db name columns rows → ((entries : List E) → ¬ AreRowsOf to_row (AreLawful cmp IsLawful) rows entries)
      → (entries : List E) → ¬ HoldsTable db name columns to_row (AreLawful cmp IsLawful) entries
  tells_none db name columns rows h none entries holds =
      let raw : h.0 ≡ holds.rows = same_rows (sym holds.found_is ∙ h.1) in
      let same : IsPermutation (map to_row entries) rows = IsPermutation-trans _ _ _ holds.same (subst (λ l. IsPermutation l rows) raw h.2) in
      none entries (record { are = holds.are; is = sorted_unique (key_order n) (order_total n) (map to_row entries) rows (in_order entries holds.are.rising) same h.3 })

  -- ---- for a call

  pub tells_folded : {X F : Type 0} (Has : F → List X → Type 0) (meant : X → E) (db : Database) (name : List ℕ) (columns : List (List ℕ)) (rows : List Row) → IsShown db name columns rows
      → (told : Option F) → TellsRows Has meant to_row (AreLawful cmp IsLawful) rows told → TellsFold Has meant (HoldsTable db name columns to_row (AreLawful cmp IsLawful)) told
  tells_folded Has meant db name columns rows h None none = tells_none db name columns rows h none
  tells_folded Has meant db name columns rows h (Some fold) some = (some.0, tells_some db name columns rows h (map meant some.0) some.1, some.2)

  pub reads_folded : {X F : Type 0} (Has : F → List X → Type 0) (meant : X → E) (db : Database) (name : List ℕ) (columns : List (List ℕ)) (rows : List Row) (old new : State) → IsShown db name columns rows → IsUnchanged old new
      → (r : Result (Option F) Error) → IfOk r (TellsRows Has meant to_row (AreLawful cmp IsLawful) rows) → Reads old new r (TellsFold Has meant (HoldsTable db name columns to_row (AreLawful cmp IsLawful)))
  reads_folded Has meant db name columns rows old new h same (Ok told) is = (tells_folded Has meant db name columns rows h told is, same)
  reads_folded Has meant db name columns rows old new h same (Err e) is = inl same

  -- a database holds one list of entries at most
  pub held_once : (from_row : Row → E) (back : (e : E) → from_row (to_row e) ≡ e) (db : Database) (name : List ℕ) (columns : List (List ℕ)) (xs ys : List E) → HoldsTable db name columns to_row (AreLawful cmp IsLawful) xs → HoldsTable db name columns to_row (AreLawful cmp IsLawful) ys → xs ≡ ys
  held_once from_row back db name columns xs ys h k =
      let raw : k.rows ≡ h.rows = same_rows (sym h.found_is ∙ k.found_is) in
      let same : IsPermutation (map to_row xs) (map to_row ys) = IsPermutation-trans _ _ _ h.same (subst (λ l. IsPermutation l (map to_row ys)) raw (IsPermutation-sym _ _ k.same)) in
      let rows : map to_row xs ≡ map to_row ys = sym (sorted_unique (key_order n) (order_total n) (map to_row xs) (map to_row ys) (in_order xs h.are.rising) same (ascending_sorted (key_order n) (order_total n) (map to_row ys) (in_order ys k.are.rising))) in
      sym (map_back to_row from_row back xs) ∙ ap (map from_row) rows ∙ map_back to_row from_row back ys
