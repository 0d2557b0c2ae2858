-- SELECT .. ORDER BY the key downwards LIMIT n, over one table whose key is made of columns.
use Rattle.std.proofs.Common.{◌≡◌, ℕ, zero, suc, ◌-◌, ℤ, pos, length, drop, arith, List, [], ◌∷◌, ◌++◌, map, filter, take, reverse, Bool, true, Option, None, Some, append_assoc, append-nil, refl, sym, ap, subst, ◌∙◌, Ordering, Less}
use Rattle.station_rows.proofs.Common.{AllByRecursion, Answers, FinMap, Int, IsAscending, IsMap, IsTotalOrder, Key, Query, Row, Term, Trees, all-append, as_count, ascending-append, ascending-filter, entries, eval, eval_all, holds, last_or, length-drop, length-reverse, limited, list_all, map-append, one_table, option_to_list, output, output_cmp, reverse-append, reverse-reverse, take-append-drop, take-map, take_all, take_at}
use Rattle.std.proofs.lemmas.List.Sorted.{IsPermutation-reverse}
use Rattle.sqlite.specs.Schema.{Schema}
use Rattle.station_schema.proofs.ColumnKeys.{rows_limited}
use Rattle.station_schema.proofs.Maps.{all_passed, ascending_where, entries_rise}

one_first : {X : Type 0} (ys : List X) (x : X) (rest : List X) → take 1 (ys ++ (x ∷ rest)) ≡ take 1 (ys ++ (x ∷ []))
one_first [] x rest = refl
one_first (y ∷ ys) x rest = refl

last_then : {X : Type 0} (o : Option X) (xs : List X) → take 1 (reverse xs ++ option_to_list o) ≡ option_to_list (last_or o xs)
last_then None [] = refl
last_then (Some x) [] = refl
last_then o (x ∷ xs) =
    ap (λ l. take 1 (l ++ option_to_list o)) (reverse-append (x ∷ []) xs) ∙ ap (take 1) (append_assoc (reverse xs) (x ∷ []) (option_to_list o))
    ∙ one_first (reverse xs) x (option_to_list o) ∙ last_then (Some x) xs

-- the first of a list turned is its last
pub first_turned : {X : Type 0} (xs : List X) → take 1 (reverse xs) ≡ option_to_list (last_or None xs)
first_turned xs = ap (take 1) (sym (append-nil (reverse xs))) ∙ last_then None xs

-- the first n of a list turned are its last n, turned
pub firsts_turned : {X : Type 0} (n : ℕ) (xs : List X) → take n (reverse xs) ≡ reverse (drop (length xs - n) xs)
firsts_turned {X} n xs = go (length xs - n) refl
  where
    go : (k : ℕ) → length xs - n ≡ k → take n (reverse xs) ≡ reverse (drop k xs)
    go zero e = take_all n (reverse xs) (omega (arith, e, length-reverse xs))
    go (suc k) e =
        ap (λ l. take n (reverse l)) (sym (take-append-drop (suc k) xs)) ∙ ap (take n) (reverse-append (take (suc k) xs) (drop (suc k) xs))
        ∙ take_at (reverse (drop (suc k) xs)) (reverse (take (suc k) xs)) n (omega (arith, e, length-reverse (drop (suc k) xs), length-drop (suc k) xs))

turned_back : {X Y : Type 0} (f : X → Y) (xs : List X) → reverse (map f (reverse xs)) ≡ map f xs
turned_back f [] = refl
turned_back f (x ∷ xs) =
    ap (λ l. reverse (map f l)) (reverse-append (x ∷ []) xs) ∙ ap reverse (map-append f (reverse xs) (x ∷ [])) ∙ reverse-append (map f (reverse xs)) (f x ∷ [])
    ∙ ap (λ l. f x ∷ l) (turned_back f xs)

-- a list that was read from the last to the first, turned
pub turned : {X Y : Type 0} (f : X → Y) (xs : List X) (ys : List Y) → map f xs ≡ reverse ys → map f (reverse xs) ≡ ys
turned f xs ys is = sym (reverse-reverse (map f (reverse xs))) ∙ ap reverse (turned_back f xs ∙ is) ∙ reverse-reverse ys

-- the first rows alone, in the order of ORDER BY
abbrev pub last_of : Term → ℕ → List Term → List Term → List (Term × Key) → Query
last_of limit t filter project order = record (one_table t filter project order) { limit = limit }

all_reverse : {X : Type 0} (P : X → Type 0) (xs : List X) → AllByRecursion P xs → AllByRecursion P (reverse xs)
all_reverse P [] h = tt
all_reverse {X} P (x ∷ xs) h = subst (AllByRecursion P) (sym (reverse-append (x ∷ []) xs)) (all-append P (reverse xs) (x ∷ []) (all_reverse P xs h.1) (h.0, tt))

all_one : {X : Type 0} (R : X → X → Type 0) (x : X) (xs : List X) → AllByRecursion (λ y. R y x) xs → AllByRecursion (λ y. AllByRecursion (R y) (x ∷ [])) xs
all_one R x [] h = tt
all_one R x (y ∷ ys) h = ((h.0, tt), all_one R x ys h.1)

pub falls : {X : Type 0} (R : X → X → Type 0) (xs : List X) → IsAscending (λ a b. R b a) xs → IsAscending R (reverse xs)
falls R [] h = tt
falls R (x ∷ xs) h =
    subst (IsAscending R) (sym (reverse-append (x ∷ []) xs))
    (ascending-append R (reverse xs) (x ∷ []) (falls R xs h.1) (tt, tt) (all_one R x (reverse xs) (all_reverse (λ y. R y x) xs h.0)))

module _ {K V : Type 0} (R : K → K → Ordering) (total : IsTotalOrder R) (to_row : K × V → Row) (schema : Schema) (db : Trees) (t : ℕ) (m : FinMap R V) (was : IsMap R to_row (db t) m) (params : Row) (filters project : List Term)
    (p : K × V → Bool) (tests : (n : ℤ) (e : K × V) → list_all (holds (params ∷ (Int n ∷ to_row e) ∷ [])) filters ≡ p e)
    (show : K × V → Row) (shows : (n : ℤ) (e : K × V) → eval_all project (params ∷ (Int n ∷ to_row e) ∷ []) ≡ show e) where
  pub last_shown : (limit : Term) (n : ℕ) → as_count (eval limit (params ∷ [])) ≡ Some n → (order : List (Term × Key)) → ((n : ℤ) (e : K × V) → output (last_of limit t filters project order) (params ∷ (Int n ∷ to_row e) ∷ []) ≡ output (last_of limit t filters project order) (params ∷ (Int (pos 0) ∷ to_row e) ∷ []))
      → ((a b : K × V) → p a ≡ true → p b ≡ true
      → output_cmp (last_of limit t filters project order) (output (last_of limit t filters project order) (params ∷ (Int (pos 0) ∷ to_row a) ∷ [])) (output (last_of limit t filters project order) (params ∷ (Int (pos 0) ∷ to_row b) ∷ [])) ≡ R b.0 a.0)
      → (rows : List Row) → Answers (record { schema = schema; trees = db }) (record { lets = []; body = last_of limit t filters project order }) params rows → rows ≡ map show (take n (reverse (filter p (entries m))))
  last_shown limit n counts order unseen agrees rows h =
      let all = filter p (entries m) in
      rows_limited R total to_row schema db t m was params filters project p tests show shows limit order unseen (reverse all) (IsPermutation-reverse all)
      (falls _ all (ascending_where (λ e. p e ≡ true) (λ a b. R a.0 b.0 ≡ Less) _ (λ a b pa pb less. agrees b a pb pa ∙ less) all (all_passed p (entries m)) (ascending-filter _ p (entries m) (entries_rise R total m)))) rows h
      ∙ ap (λ (c : Option ℕ). limited c (map show (reverse all))) counts ∙ take-map show n (reverse all)
