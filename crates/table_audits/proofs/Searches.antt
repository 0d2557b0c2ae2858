-- What a binary search finds among rows in the order of their keys, each key once.
use Rattle.table_audits.proofs.Common.{Bool, Err, FinMap, IsAntisymmetric, IsAscending, IsBinarySearchResult, IsSearchInRange, IsTotalOrder, Less, List, None, Ok, Option, Ordering, Result, RisesByNumber, Some, WaybillRow, [], ap, ap₂, arith, ascending_sorted, cases_Bool, contains_key, entries, entries_rise, eq_by_cmp, eq_by_cmp_equiv, false, get, get-entries, has_key, inl, inr, int_cmp, int_cmp_total, int_tied, is_eq, is_some, length, list_any, map, nat_lt, nat_tests, on_total, refl, searchable_from_sorted, slice_index_or, subst, suc, sym, true, waybill_id, waybill_meant, zero, ℕ, ℤ, ◌<◌, ◌||◌, ◌∙◌, ◌∷◌, ◌≡◌, ◌≤◌, ascending_from_map}
use Rattle.std.specs.Result.{is_ok}
use Rattle.std.specs.FinMap.{find as find_entry}
use Rattle.table_audits.proofs.Lists.{or_yes}

-- ---- lists

any_at : {X : Type 0} (p : X → Bool) (xs : List X) (i : ℕ) → i < length xs → ((d : X) → p (slice_index_or xs i d) ≡ true) → list_any p xs ≡ true
any_at p [] i low h = absurd (omega arith)
any_at p (x ∷ xs) zero low h = ap (λ b. b || list_any p xs) (h x)
any_at p (x ∷ xs) (suc i) low h = ap (λ b. p x || b) (any_at p xs i (omega arith) h) ∙ or_yes (p x)

none_at : {X : Type 0} (p : X → Bool) (xs : List X) → ((i : ℕ) (d : X) → i < length xs → p (slice_index_or xs i d) ≡ false) → list_any p xs ≡ false
none_at p [] h = refl
none_at p (x ∷ xs) h = ap₂ ◌||◌ (h 0 x (omega arith)) (none_at p xs (λ i d low. h (suc i) d (omega arith)))

-- ---- a search by a key

module _ {K X : Type 0} (R : K → K → Ordering) (total : IsTotalOrder R) (key : X → K) (q : K) where
  abbrev ties : X → Bool
  ties x = eq_by_cmp R (key x) q

  pub is_found : (xs : List X) → IsAscending (λ a b. R (key a) (key b) ≡ Less) xs → (r : Result ℕ ℕ) → IsSearchInRange r (length xs) → IsBinarySearchResult (λ y. R (key y) q) xs r → is_ok r ≡ list_any ties xs
  is_found xs up (Ok i) low h = sym (any_at ties xs i low (λ d. ap is_eq (h d)))
  is_found xs up (Err i) low h =
      let parts = h (searchable_from_sorted total key xs q (ascending_sorted (λ a b. R (key a) (key b)) (on_total key total) xs up)) in
      sym (none_at ties xs (λ k d below. elim (cases_Bool (nat_lt k i)) [
        | inl early ↦ ap is_eq (parts.0 k d (omega arith) (grind (arith, nat_tests)))
        | inr late ↦ ap is_eq (parts.1 k d (grind (arith, nat_tests)) below)
      ]))

-- ---- rows under a number

has_key-any : {X Y : Type 0} (f : X → Y) (key : Y → ℤ) (xs : List X) (id : ℤ) → list_any (λ x. eq_by_cmp int_cmp (key (f x)) id) xs ≡ has_key key (map f xs) id
has_key-any f key [] id = refl
has_key-any f key (x ∷ xs) id = grind (arith, int_tied (key (f x)) id, has_key-any f key xs id)

pub has_number : (rows : List WaybillRow) (id : ℤ) (r : Result ℕ ℕ) → RisesByNumber (map waybill_meant rows) → IsSearchInRange r (length rows) → IsBinarySearchResult (λ row. int_cmp row.awb id) rows r
    → is_ok r ≡ has_key waybill_id (map waybill_meant rows) id
has_number rows id r up low h = is_found int_cmp int_cmp_total (λ (row : WaybillRow). row.awb) id rows (ascending_from_map _ waybill_meant rows up) r low h ∙ has_key-any waybill_meant waybill_id rows id

-- ---- the rows of a map

not_some : {X : Type 0} (o : Option X) → is_some o ≡ false → o ≡ None
not_some None h = refl
not_some (Some x) h = cc

module _ {X K V : Type 0} (R : K → K → Ordering) (total : IsTotalOrder R) (same : IsAntisymmetric R) (f : X → K × V) where
  found_any : (q : K) (xs : List X) → is_some (find_entry R q (map f xs)) ≡ list_any (λ x. eq_by_cmp R (f x).0 q) xs
  found_any q [] = refl
  found_any q (x ∷ xs) = grind (arith, (eq_by_cmp_equiv total).symm q (f x).0, found_any q xs)

  module _ (m : FinMap R V) (xs : List X) (are : entries m ≡ map f xs) (q : K) where
    rows_rise : IsAscending (λ a b. R (f a).0 (f b).0 ≡ Less) xs
    rows_rise = ascending_from_map (λ a b. R a.0 b.0 ≡ Less) f xs (subst (IsAscending (λ a b. R a.0 b.0 ≡ Less)) are (entries_rise R total m))

    pub any_entry : contains_key m q ≡ list_any (λ x. eq_by_cmp R (f x).0 q) xs
    any_entry = ap is_some (get-entries m q ∙ ap (find_entry R q) are) ∙ found_any q xs

    has_entry : (r : Result ℕ ℕ) → IsSearchInRange r (length xs) → IsBinarySearchResult (λ x. R (f x).0 q) xs r → is_ok r ≡ contains_key m q
    has_entry r low h = is_found R total (λ x. (f x).0) q xs rows_rise r low h ∙ sym any_entry

    pub no_entry : (i : ℕ) → i ≤ length xs → IsBinarySearchResult (λ x. R (f x).0 q) xs (Err i) → get m q ≡ None
    no_entry i low h = not_some (get m q) (sym (has_entry (Err i) low h))
