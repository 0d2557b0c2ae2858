-- Maps and lists of entries: each key once, in some order.
use Rattle.station_schema.proofs.Common.{AllByRecursion, Bool, Equal, FinMap, Greater, IsAntisymmetric, IsAscending, IsPermutation, IsPermutation-cons, IsPermutation-middle, IsPermutation-refl, IsPermutation-trans, IsTotalOrder, Less, List, None, Option, Ordering, Some, T, [], adjust, all_both, all_weaker, ap, arith, cond, empty, entries, entries-insert, entries_sorted, eq_by_cmp, eq_by_cmp_equiv, false, filter, filter_none, find, from_entries, get, get-entries, get-from_entries, get-insert, get-remove, insert, is_eq, is_lt, is_sorted, len-empty, len-entries, length, length_permutation, map, not, one_permutation, option_map, option_to_list, put, refl, remove, same_map, subst, sym, true, unwrap_or, ◌&&◌, ◌∙◌, ◌∷◌, ◌≡◌, ◌≤◌}
use Rattle.station_schema.proofs.OneRow.{is_tied}
use Rattle.std.specs.FinMap.Entries.{below_all, by_order, where_key, find-where_key}

no_entries : {E : Type 0} (es : List E) → length es ≡ 0 → es ≡ []
no_entries [] h = refl
no_entries (e ∷ es) h = absurd (omega arith)

both_hold : (a b : Bool) → T (a && b) → T a × T b
both_hold true b h = (tt, h)
both_hold false b h = absurd h

is_less : (o : Ordering) → T (is_lt o) → o ≡ Less
is_less Less h = refl
is_less _ h = absurd h

pub all_passed : {X : Type 0} (p : X → Bool) (xs : List X) → AllByRecursion (λ x. p x ≡ true) (filter p xs)
all_passed p [] = tt
all_passed p (x ∷ xs) = go (p x) refl (all_passed p xs)
  where
    go : (b : Bool) → p x ≡ b → AllByRecursion (λ y. p y ≡ true) (filter p xs) → AllByRecursion (λ y. p y ≡ true) (cond b (x ∷ filter p xs) (filter p xs))
    go true e more = (e, more)
    go false e more = more

-- one order for another, where the rows have a property
pub ascending_where : {X : Type 0} (P : X → Type 0) (R S : X → X → Type 0) → ((a b : X) → P a → P b → R a b → S a b) → (xs : List X) → AllByRecursion P xs → IsAscending R xs → IsAscending S xs
ascending_where P R S f [] all up = tt
ascending_where P R S f (x ∷ xs) all up = (all_both P (R x) (S x) (λ b h r. f x b all.0 h r) xs all.1 up.0, ascending_where P R S f xs all.1 up.1)

pub same_one : {X : Type 0} (o : Option X) (ys : List X) → IsPermutation (option_to_list o) ys → ys ≡ option_to_list o
same_one None [] same = refl
same_one None (y ∷ ys) same = absurd (omega (arith, length_permutation [] (y ∷ ys) same))
same_one (Some x) ys same = one_permutation x ys same

pub at_most_one : {X : Type 0} (o : Option X) → length (option_to_list o) ≤ 1
at_most_one None = omega arith
at_most_one (Some x) = omega arith

pub map_one : {X Y : Type 0} (f : X → Y) (o : Option X) → map f (option_to_list o) ≡ option_to_list (option_map f o)
map_one f None = refl
map_one f (Some x) = refl

turn : {K : Type 0} (R : K → K → Ordering) → IsTotalOrder R → (x y : K) → eq_by_cmp R x y ≡ eq_by_cmp R y x
turn R total = (eq_by_cmp_equiv total).symm

module _ {K V : Type 0} (R : K → K → Ordering) (total : IsTotalOrder R) where
  none_found : (k : K) (es : List (K × V)) → AllByRecursion (λ e. eq_by_cmp R k e.0 ≡ false) es → find R k es ≡ None
  none_found k [] all = refl
  none_found k (e ∷ es) all = rw all.0 (none_found k es all.1)

  put_new : (k : K) (v : V) (es : List (K × V)) → find R k es ≡ None → IsPermutation ((k, v) ∷ es) (put R k v es)
  put_new k v [] h = IsPermutation-refl _
  put_new k v (e ∷ es) h = go (R k e.0) h (put_new k v es)
    where
      go : (o : Ordering) → cond (is_eq o) (Some e.1) (find R k es) ≡ None → (find R k es ≡ None → IsPermutation ((k, v) ∷ es) (put R k v es))
          → IsPermutation ((k, v) ∷ e ∷ es) (by_order o ((k, v) ∷ e ∷ es) ((e.0, v) ∷ es) (e ∷ put R k v es))
      go Less h more = IsPermutation-refl _
      go Equal h more = absurd (cc)
      go Greater h more = IsPermutation-trans _ _ _ (IsPermutation-middle ((k, v) ∷ []) e es) (IsPermutation-cons e _ _ (more h))

  -- entries with each key once are those of their map
  pub entries_of : (es : List (K × V)) → IsAscending (λ a b. eq_by_cmp R a.0 b.0 ≡ false) es → IsPermutation es (entries (from_entries {R = R} es))
  entries_of [] up = subst (IsPermutation []) (sym (no_entries (entries (empty {X = V} {R = R})) (sym (len-entries empty) ∙ len-empty R V))) (IsPermutation-refl [])
  entries_of (e ∷ es) up =
      let m : FinMap R V = from_entries es in
      let none : find R e.0 (entries m) ≡ None = sym (get-entries m e.0) ∙ get-from_entries total es e.0 ∙ none_found e.0 es up.0 in
      subst (IsPermutation (e ∷ es)) (sym (entries-insert total m e.0 e.1)) (IsPermutation-trans _ _ _ (IsPermutation-cons e _ _ (entries_of es up.1)) (put_new e.0 e.1 (entries m) none))

  below : (k : K) (es : List (K × V)) → T (below_all R k es) → AllByRecursion (λ e. R k e.0 ≡ Less) es
  below k [] h = tt
  below k (e ∷ es) h = let two = both_hold (is_lt (R k e.0)) _ h in (is_less _ two.0, below k es two.1)

  rises_from : (es : List (K × V)) → T (is_sorted R es) → IsAscending (λ a b. R a.0 b.0 ≡ Less) es
  rises_from [] h = tt
  rises_from (e ∷ es) h = let two = both_hold (below_all R e.0 es) _ h in (below e.0 es two.0, rises_from es two.1)

  pub entries_rise : (m : FinMap R V) → IsAscending (λ (a b : K × V). R a.0 b.0 ≡ Less) (entries m)
  entries_rise m = rises_from (entries m) (entries_sorted m)

  module _ (same : IsAntisymmetric R) where
    filter_found : (k : K) (es : List (K × V)) → IsAscending (λ a b. R a.0 b.0 ≡ Less) es → filter (λ e. eq_by_cmp R k e.0) es ≡ option_to_list (option_map (λ v. (k, v)) (find R k es))
    filter_found k [] up = refl
    filter_found k (e ∷ es) up = go (eq_by_cmp R k e.0) refl (filter_found k es up.1)
      where
        go : (b : Bool) → eq_by_cmp R k e.0 ≡ b → filter (λ d. eq_by_cmp R k d.0) es ≡ option_to_list (option_map (λ v. (k, v)) (find R k es))
            → cond b (e ∷ filter (λ d. eq_by_cmp R k d.0) es) (filter (λ d. eq_by_cmp R k d.0) es) ≡ option_to_list (option_map (λ v. (k, v)) (cond b (Some e.1) (find R k es)))
        go true is more =
            let key : k ≡ e.0 = same k e.0 (is_tied _ is) in
            let rest : filter (λ d. eq_by_cmp R k d.0) es ≡ [] = filter_none _ es (all_weaker _ (λ d. eq_by_cmp R k d.0 ≡ false) (λ d h. ap (λ x. eq_by_cmp R x d.0) key ∙ ap is_eq h) es up.0) in
            ap (λ l. e ∷ l) rest ∙ ap (λ x. (x, e.1) ∷ []) (sym key)
        go false is more = more

    pub entry_at : (m : FinMap R V) (k : K) → filter (λ e. eq_by_cmp R k e.0) (entries m) ≡ option_to_list (option_map (λ v. (k, v)) (get m k))
    entry_at m k = filter_found k (entries m) (entries_rise m) ∙ ap (λ o. option_to_list (option_map (λ v. (k, v)) o)) (sym (get-entries m k))

    turned : (b : Bool) (o : Option V) → cond (not b) o None ≡ cond b None o
    turned true o = refl
    turned false o = refl

    pub removed_is : (es : List (K × V)) (k : K) → remove (from_entries {R = R} es) k ≡ from_entries (filter (λ e. not (eq_by_cmp R k e.0)) es)
    removed_is es k = same_map total same _ _ (λ q.
        get-remove total (from_entries es) k q ∙ ap (cond (eq_by_cmp R q k) None) (get-from_entries total es q)
        ∙ sym (get-from_entries total (where_key R (λ x. not (eq_by_cmp R k x)) es) q
        ∙ find-where_key R (λ x. not (eq_by_cmp R k x)) q (λ x tied. ap (λ y. not (eq_by_cmp R k y)) (sym (same q x tied))) es
        ∙ turned (eq_by_cmp R k q) (find R q es) ∙ ap (λ b. cond b None (find R q es)) (turn R total k q)))

    pub found_none : (es : List (K × V)) (k : K) → AllByRecursion (λ e. eq_by_cmp R e.0 k ≡ false) es → find R k es ≡ None
    found_none es k all = none_found k es (all_weaker _ (λ e. eq_by_cmp R k e.0 ≡ false) (λ e h. turn R total k e.0 ∙ h) es all)

    module _ (g : V → V) where
      -- the entry with a key, changed
      abbrev pub changes_at : K → K × V → K × V
      changes_at k e = cond (eq_by_cmp R k e.0) (e.0, g e.1) e

      same_key : (k : K) (e : K × V) → (changes_at k e).0 ≡ e.0
      same_key k e = elim (eq_by_cmp R k e.0) as (λ b. (cond b (e.0, g e.1) e).0 ≡ e.0) [ true ↦ refl | false ↦ refl ]

      new_value : (b : Bool) (e : K × V) → Some (cond b (e.0, g e.1) e).1 ≡ cond b (option_map g (Some e.1)) (Some e.1)
      new_value true e = refl
      new_value false e = refl

      find_changed : (k q : K) (es : List (K × V)) → find R q (map (changes_at k) es) ≡ cond (eq_by_cmp R q k) (option_map g (find R q es)) (find R q es)
      find_changed k q [] = elim (eq_by_cmp R q k) as (λ b. find R q [] ≡ cond b (option_map g None) None) [ true ↦ refl | false ↦ refl ]
      find_changed k q (e ∷ es) = ap (λ x. cond (eq_by_cmp R q x) (Some (changes_at k e).1) (find R q (map (changes_at k) es))) (same_key k e) ∙ go (eq_by_cmp R q e.0) refl (find_changed k q es)
        where
          go : (t : Bool) → eq_by_cmp R q e.0 ≡ t → find R q (map (changes_at k) es) ≡ cond (eq_by_cmp R q k) (option_map g (find R q es)) (find R q es)
              → cond t (Some (changes_at k e).1) (find R q (map (changes_at k) es)) ≡ cond (eq_by_cmp R q k) (option_map g (cond t (Some e.1) (find R q es))) (cond t (Some e.1) (find R q es))
          go true is more =
              let here : eq_by_cmp R k e.0 ≡ eq_by_cmp R q k = ap (eq_by_cmp R k) (sym (same q e.0 (is_tied _ is))) ∙ turn R total k q in
              ap (λ b. Some (cond b (e.0, g e.1) e).1) here ∙ new_value (eq_by_cmp R q k) e
          go false is more = more

      get_adjusted : (m : FinMap R V) (k q : K) → get (adjust m k g) q ≡ cond (eq_by_cmp R q k) (option_map g (get m q)) (get m q)
      get_adjusted m k q = go (get m k) refl
        where
          here : (b : Bool) (o : Option V) → eq_by_cmp R q k ≡ b → get m k ≡ o → (b ≡ true → get m q ≡ o)
          here b o is has so = ap (get m) (same q k (is_tied _ (is ∙ so))) ∙ has

          none : (b : Bool) → eq_by_cmp R q k ≡ b → get m k ≡ None → get m q ≡ cond b (option_map g (get m q)) (get m q)
          none true is has = let no : get m q ≡ None = here true None is has refl in no ∙ sym (ap (option_map g) no)
          none false is has = refl

          some : (b : Bool) (v : V) → eq_by_cmp R q k ≡ b → get m k ≡ Some v → cond b (Some (g v)) (get m q) ≡ cond b (option_map g (get m q)) (get m q)
          some true v is has = sym (ap (option_map g) (here true (Some v) is has refl))
          some false v is has = refl

          go : (o : Option V) → get m k ≡ o → get (unwrap_or (option_map (λ v. insert m k (g v)) o) m) q ≡ cond (eq_by_cmp R q k) (option_map g (get m q)) (get m q)
          go None has = none (eq_by_cmp R q k) refl has
          go (Some v) has = get-insert total m k (g v) q ∙ some (eq_by_cmp R q k) v refl has

      pub adjusted_is : (es : List (K × V)) (k : K) → adjust (from_entries {R = R} es) k g ≡ from_entries (map (changes_at k) es)
      adjusted_is es k = same_map total same _ _ (λ q.
          get_adjusted (from_entries es) k q ∙ ap (λ o. cond (eq_by_cmp R q k) (option_map g o) o) (get-from_entries total es q) ∙ sym (get-from_entries total (map (changes_at k) es) q ∙ find_changed k q es))
