-- Two lists of rows whose keys strictly rise are equal, where each look-up finds the same in both. A
-- look-up in those of them that pass a test finds what passes.
use Rattle.station_core.proofs.Common.{Bool, Equal, Greater, IsTrue, Less, List, None, Option, Ordering, Some, [], ap, cond, false, filter, find, is_lt, is_some, map, refl, sym, true, ◌∙◌, ◌∷◌, ◌≡◌}
use Rattle.std.specs.FinMap.Entries.{is_sorted, below_all}
use Rattle.std.specs.Option.{option_map, unwrap_or}
use Rattle.std.proofs.lemmas.Bool.{and_from, and_parts, false≢true, true≢false}

less : (o : Ordering) → IsTrue (is_lt o) → o ≡ Less
less Less h = refl
less Equal h = absurd (false≢true h)
less Greater h = absurd (false≢true h)

not_none : {X : Type 0} (x : X) → Some x ≡ None → ⊥
not_none x e = true≢false (ap is_some e)

some_is : {X : Type 0} (x y : X) → Some x ≡ Some y → x ≡ y
some_is x y e = ap (λ o. unwrap_or o x) e

-- The order has no two keys each below the other, and keys that test the same are equal.
module _ {K X Row : Type 0} (R : K → K → Ordering) (same : K → K → Bool) (key : Row → K) (value : Row → X)
    (apart : (a b : K) → R a b ≡ Less → R b a ≡ Less → ⊥)
    (same_is : (a b : K) → same a b ≡ true → a ≡ b)
    (itself : (a : K) → same a a ≡ true)
    (one_row : (x y : Row) → key x ≡ key y → value x ≡ value y → x ≡ y) where
  abbrev pub Rises : List Row → Type 0
  Rises rows = IsTrue (is_sorted R (map (λ row. (key row, value row)) rows))

  abbrev pub found : K → List Row → Option X
  found q rows = option_map value (find (λ row. same q (key row)) rows)

  abbrev IsBelow : K → List Row → Type 0
  IsBelow k rows = IsTrue (below_all R k (map (λ row. (key row, value row)) rows))

  pub found_first : (row : Row) (rows : List Row) → found (key row) (row ∷ rows) ≡ Some (value row)
  found_first row rows = ap (λ b. option_map value (cond b (Some row) (find (λ other. same (key row) (key other)) rows))) (itself (key row))

  -- behind a row of another key
  pub found_behind : (q : K) (row : Row) (rows : List Row) → same q (key row) ≡ false → found q (row ∷ rows) ≡ found q rows
  found_behind q row rows other = ap (λ b. option_map value (cond b (Some row) (find (λ other. same q (key other)) rows))) other

  -- a key below all is not found
  pub not_found : (k : K) (rows : List Row) → IsBelow k rows → found k rows ≡ None
  not_found k [] h = refl
  not_found k (row ∷ rows) h =
      let parts = and_parts _ _ h in
      let below : R k (key row) ≡ Less = less _ parts.0 in
      elim (same k (key row)) as (λ b. same k (key row) ≡ b → found k (row ∷ rows) ≡ None) [
        | true ↦ λ e.
            let itself_below : R k k ≡ Less = ap (R k) (same_is k (key row) e) ∙ below in
            absurd (apart k k itself_below itself_below)
        | false ↦ λ e. found_behind k row rows e ∙ not_found k rows parts.1
      ] refl

  -- a key below all is below each that is found
  below_found : (k q : K) (v : X) (rows : List Row) → IsBelow k rows → found q rows ≡ Some v → R k q ≡ Less
  below_found k q v [] h e = absurd (not_none v (sym e))
  below_found k q v (row ∷ rows) h e =
      let parts = and_parts _ _ h in
      elim (same q (key row)) as (λ b. same q (key row) ≡ b → R k q ≡ Less) [
        | true ↦ λ t. ap (R k) (same_is q (key row) t) ∙ less _ parts.0
        | false ↦ λ t. below_found k q v rows parts.1 (sym (found_behind q row rows t) ∙ e)
      ] refl

  -- of two lists with the same first key
  tails : (k q : K) (x y : Row) (xs ys : List Row) → key x ≡ k → key y ≡ k → IsBelow k xs → IsBelow k ys → found q (x ∷ xs) ≡ found q (y ∷ ys) → found q xs ≡ found q ys
  tails k q x y xs ys kx ky bx by e =
      elim (same q k) as (λ b. same q k ≡ b → found q xs ≡ found q ys) [
        | true ↦ λ t. ap (λ q. found q xs) (same_is q k t) ∙ not_found k xs bx ∙ sym (not_found k ys by) ∙ sym (ap (λ q. found q ys) (same_is q k t))
        | false ↦ λ t. sym (found_behind q x xs (ap (same q) kx ∙ t)) ∙ e ∙ found_behind q y ys (ap (same q) ky ∙ t)
      ] refl

  -- keys that differ from one side differ from the other
  other_way : (a b : K) → same a b ≡ false → same b a ≡ false
  other_way a b other =
      elim (same b a) as (λ t. same b a ≡ t → t ≡ false) [
        | true ↦ λ t. absurd (true≢false (sym (itself a) ∙ ap (same a) (sym (same_is b a t)) ∙ other))
        | false ↦ λ t. refl
      ] refl

  pub one_list : (xs ys : List Row) → Rises xs → Rises ys → ((q : K) → found q xs ≡ found q ys) → xs ≡ ys
  one_list [] [] rx ry e = refl
  one_list [] (y ∷ ys) rx ry e = absurd (not_none (value y) (sym (found_first y ys) ∙ sym (e (key y))))
  one_list (x ∷ xs) [] rx ry e = absurd (not_none (value x) (sym (found_first x xs) ∙ e (key x)))
  one_list (x ∷ xs) (y ∷ ys) rx ry e =
      let px = and_parts _ _ rx in
      let py = and_parts _ _ ry in
      elim (same (key x) (key y)) as (λ b. same (key x) (key y) ≡ b → x ∷ xs ≡ y ∷ ys) [
        | true ↦ λ t.
            let k : key x ≡ key y = same_is (key x) (key y) t in
            let v : value x ≡ value y = some_is (value x) (value y) (sym (found_first x xs) ∙ e (key x) ∙ ap (λ q. found q (y ∷ ys)) k ∙ found_first y ys) in
            let by_y : IsBelow (key x) ys = ap (λ q. below_all R q (map (λ row. (key row, value row)) ys)) k ∙ py.0 in
            let rest : xs ≡ ys = one_list xs ys px.1 py.1 (λ q. tails (key x) q x y xs ys refl (sym k) px.0 by_y (e q)) in
            λ i. one_row x y k v i ∷ rest i
        | false ↦ λ t.
            let there : found (key x) ys ≡ Some (value x) = sym (found_behind (key x) y ys t) ∙ sym (e (key x)) ∙ found_first x xs in
            let here : found (key y) xs ≡ Some (value y) = sym (found_behind (key y) x xs (other_way (key x) (key y) t)) ∙ e (key y) ∙ found_first y ys in
            absurd (apart (key x) (key y) (below_found (key x) (key y) (value y) xs px.0 here) (below_found (key y) (key x) (value x) ys py.0 there))
      ] refl

-- of what is found, what passes the test
abbrev pub passing : {X : Type 0} → (X → Bool) → Option X → Option X
passing test None = None
passing test (Some x) = cond (test x) (Some x) None

-- Of rows that rise, those that pass a test by key and value rise, and a look-up among them finds what passes.
module _ {K X Row : Type 0} (R : K → K → Ordering) (same : K → K → Bool) (key : Row → K) (value : Row → X)
    (apart : (a b : K) → R a b ≡ Less → R b a ≡ Less → ⊥)
    (same_is : (a b : K) → same a b ≡ true → a ≡ b)
    (itself : (a : K) → same a a ≡ true)
    (one_row : (x y : Row) → key x ≡ key y → value x ≡ value y → x ≡ y) (test : K → X → Bool) where
  abbrev Rise : List Row → Type 0
  Rise rows = Rises R same key value apart same_is itself one_row rows

  abbrev of_key : K → List Row → Option X
  of_key q rows = found R same key value apart same_is itself one_row q rows

  abbrev kept : List Row → List Row
  kept rows = filter (λ row. test (key row) (value row)) rows

  abbrev IsBefore : K → List Row → Type 0
  IsBefore k rows = IsTrue (below_all R k (map (λ row. (key row, value row)) rows))

  before_kept : (k : K) (rows : List Row) → IsBefore k rows → IsBefore k (kept rows)
  before_kept k [] h = h
  before_kept k (row ∷ rows) h =
      let parts = and_parts _ _ h in
      let rest = before_kept k rows parts.1 in
      elim (test (key row) (value row)) as (λ b. IsBefore k (cond b (row ∷ kept rows) (kept rows))) [ true ↦ and_from _ _ parts.0 rest | false ↦ rest ]

  pub kept_rise : (rows : List Row) → Rise rows → Rise (kept rows)
  kept_rise [] h = h
  kept_rise (row ∷ rows) h =
      let parts = and_parts _ _ h in
      let rest = kept_rise rows parts.1 in
      elim (test (key row) (value row)) as (λ b. Rise (cond b (row ∷ kept rows) (kept rows))) [
        | true ↦ and_from _ _ (before_kept (key row) rows parts.0) rest
        | false ↦ rest
      ]

  pub found_kept : (q : K) (rows : List Row) → Rise rows → of_key q (kept rows) ≡ passing (test q) (of_key q rows)
  found_kept q [] h = refl
  found_kept q (row ∷ rows) h =
      let parts = and_parts _ _ h in
      let rest : of_key q (kept rows) ≡ passing (test q) (of_key q rows) = found_kept q rows parts.1 in
      elim (same q (key row)) as (λ b. same q (key row) ≡ b → of_key q (kept (row ∷ rows)) ≡ passing (test q) (of_key q (row ∷ rows))) [
        | true ↦ λ t.
            let k : q ≡ key row = same_is q (key row) t in
            let gone : of_key q rows ≡ None = ap (λ q. of_key q rows) k ∙ not_found R same key value apart same_is itself one_row (key row) rows parts.0 in
            let first : (more : List Row) → of_key q (row ∷ more) ≡ Some (value row) =
            λ more. ap (λ q. of_key q (row ∷ more)) k ∙ found_first R same key value apart same_is itself one_row row more in
            elim (test (key row) (value row)) as (λ b. test (key row) (value row) ≡ b → of_key q (cond b (row ∷ kept rows) (kept rows)) ≡ passing (test q) (of_key q (row ∷ rows))) [
              | true ↦ λ p. first (kept rows) ∙ sym (ap (passing (test q)) (first rows) ∙ ap (λ b. cond b (Some (value row)) None) (ap (λ a. test a (value row)) k ∙ p))
              | false ↦ λ p. rest ∙ ap (passing (test q)) gone ∙ sym (ap (passing (test q)) (first rows) ∙ ap (λ b. cond b (Some (value row)) None) (ap (λ a. test a (value row)) k ∙ p))
            ] refl
        | false ↦ λ t.
            let behind : (more : List Row) → of_key q (row ∷ more) ≡ of_key q more = λ more. found_behind R same key value apart same_is itself one_row q row more t in
            let still : of_key q (kept (row ∷ rows)) ≡ of_key q (kept rows) =
            elim (test (key row) (value row)) as (λ b. of_key q (cond b (row ∷ kept rows) (kept rows)) ≡ of_key q (kept rows)) [ true ↦ behind (kept rows) | false ↦ refl ] in
            still ∙ rest ∙ ap (passing (test q)) (sym (behind rows))
      ] refl
