-- Entries in the order of their keys: those of a map, and those of another that is made of them.
use Rattle.table_audits.proofs.Common.{AllByRecursion, Bool, FinMap, IsAntisymmetric, IsTotalOrder, Less, List, Ordering, Some, T, [], ap, below_all, cond, each_entry, entries, entries-from_sorted, false, from_sorted, get, get-from_sorted, is_at, is_eq, is_lt, is_sorted, keys_of, lookup, refl, same_map, subst, sym, true, ◌&&◌, ◌∙◌, ◌∷◌, ◌≡◌}
use Rattle.std.specs.List.Sorted.{IsStrictlySortedBy}
use Rattle.std.specs.FinMap.{find}

pub both : (a b : Bool) → T a → T b → T (a && b)
both true b p q = q
both false b p q = p

less : (o : Ordering) → o ≡ Less → T (is_lt o)
less o h = subst (λ x. T (is_lt x)) (sym h) tt

module _ {K V : Type 0} (R : K → K → Ordering) where
  lookup_is : (es : List (K × V)) (q : K) → lookup (is_at (R q)) es ≡ find R q es
  lookup_is [] q = refl
  lookup_is (e ∷ es) q = ap (cond (is_eq (R q e.0)) (Some e.1)) (lookup_is es q)

  keys_below : (k : K) (es : List (K × V)) → AllByRecursion (λ q. R k q ≡ Less) (keys_of es) → T (below_all R k es)
  keys_below k [] all = tt
  keys_below k (e ∷ es) all = both (is_lt (R k e.0)) (below_all R k es) (less (R k e.0) all.0) (keys_below k es all.1)

  pub keys_sorted : (es : List (K × V)) → IsStrictlySortedBy R (keys_of es) → T (is_sorted R es)
  unfolding IsStrictlySortedBy
  keys_sorted [] up = tt
  keys_sorted (e ∷ es) up = both (below_all R e.0 es) (is_sorted R es) (keys_below e.0 es up.0) (keys_sorted es up.1)

  -- each entry is what its key finds
  pub each_looked_up : IsTotalOrder R → (es : List (K × V)) → IsStrictlySortedBy R (keys_of es) → (P : K × V → Type 0) → ((q : K) (v : V) → lookup (is_at (R q)) es ≡ Some v → P (q, v)) → AllByRecursion P es
  each_looked_up total es up P h =
      let sorted : T (is_sorted R es) = keys_sorted es up in
      subst (AllByRecursion P) (entries-from_sorted R es sorted)
      (each_entry R total P (from_sorted es) (λ q v is. h q v (lookup_is es q ∙ sym (get-from_sorted R es q sorted) ∙ is)))

  -- a map whose values are those of sorted entries has those entries
  pub entries_are : IsTotalOrder R → IsAntisymmetric R → (m : FinMap R V) (es : List (K × V)) → T (is_sorted R es) → ((q : K) → get m q ≡ find R q es) → entries m ≡ es
  entries_are total same m es sorted is =
      let one : m ≡ from_sorted es = same_map total same m (from_sorted es) (λ q. is q ∙ sym (get-from_sorted R es q sorted)) in
      ap entries one ∙ entries-from_sorted R es sorted
