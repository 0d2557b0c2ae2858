-- Lists of ascending numbers, and the waybills on a flight.
use Rattle.shipment_machine.proofs.Common.{AllByRecursion, Bool, List, [], ap, arith, false, filter, if◌then◌else◌, is_in, nat_lt, nat_tests, put_rising, refl, subst, sym, true, true≢false, ℕ, ◌&&◌, ◌<◌, ◌==◌, ◌||◌, ◌∙◌, ◌∷◌, ◌≡◌, ◌≢◌}
use Rattle.shipment_machine.specs.Cargo.{IsAscending as Rising}

above_trans : (a b : ℕ) (xs : List ℕ) → a < b → AllByRecursion (λ y. b < y) xs → AllByRecursion (λ y. a < y) xs
above_trans a b [] h all = tt
above_trans a b (x ∷ xs) h all = (let p : b < x = all.0 in omega arith, above_trans a b xs h all.1)

above_put : (a q : ℕ) (xs : List ℕ) → a < q → AllByRecursion (λ y. a < y) xs → AllByRecursion (λ y. a < y) (put_rising q xs)
above_put a q [] h all = (h, tt)
above_put a q (x ∷ xs) h all =
    elim (q == x) as (λ b. AllByRecursion (λ y. a < y) (if b then x ∷ xs else (if nat_lt q x then q ∷ x ∷ xs else x ∷ put_rising q xs))) [
      | true ↦ all
      | false ↦ elim (nat_lt q x) as (λ b. AllByRecursion (λ y. a < y) (if b then q ∷ x ∷ xs else x ∷ put_rising q xs)) [
        | true ↦ (h, all)
        | false ↦ (all.0, above_put a q xs h all.1)
      ]
    ]

pub Rising-put_rising : (q : ℕ) (xs : List ℕ) → Rising xs → Rising (put_rising q xs)
Rising-put_rising q [] r = (tt, tt)
Rising-put_rising q (x ∷ xs) r =
    elim (q == x) as (λ b. (q == x) ≡ b → Rising (if b then x ∷ xs else (if nat_lt q x then q ∷ x ∷ xs else x ∷ put_rising q xs))) [
      | true ↦ λ _. r
      | false ↦ λ e. elim (nat_lt q x) as (λ b. nat_lt q x ≡ b → Rising (if b then q ∷ x ∷ xs else x ∷ put_rising q xs)) [
        | true ↦ λ l. let less : q < x = grind (arith, nat_tests) in ((less, above_trans q x xs less r.0), r)
        | false ↦ λ l. let more : x < q = grind (arith, nat_tests) in (above_put x q xs more r.0, Rising-put_rising q xs r.1)
      ] refl
    ] refl

swap_or : (a b c : Bool) → (a || (b || c)) ≡ (b || (a || c))
swap_or true true c = refl
swap_or true false c = refl
swap_or false b c = refl

pub is_in-put_rising : (r q : ℕ) (xs : List ℕ) → is_in r (put_rising q xs) ≡ ((q == r) || is_in r xs)
is_in-put_rising r q [] = refl
is_in-put_rising r q (x ∷ xs) =
    elim (q == x) as (λ b. (q == x) ≡ b → is_in r (if b then x ∷ xs else (if nat_lt q x then q ∷ x ∷ xs else x ∷ put_rising q xs)) ≡ ((q == r) || ((x == r) || is_in r xs))) [
      | true ↦ λ e. let same : q ≡ x = grind (arith, nat_tests) in ap (λ n. (n == r) || is_in r xs) (sym same) ∙ twice (q == r) (is_in r xs) ∙ ap (λ n. (q == r) || ((n == r) || is_in r xs)) same
      | false ↦ λ e. elim (nat_lt q x) as (λ b. is_in r (if b then q ∷ x ∷ xs else x ∷ put_rising q xs) ≡ ((q == r) || ((x == r) || is_in r xs))) [
        | true ↦ refl
        | false ↦ ap (λ b. (x == r) || b) (is_in-put_rising r q xs) ∙ swap_or (x == r) (q == r) (is_in r xs)
      ]
    ] refl
  where
    twice : (a b : Bool) → (a || b) ≡ (a || (a || b))
    twice true b = refl
    twice false b = refl

above_filter : (a : ℕ) (p : ℕ → Bool) (xs : List ℕ) → AllByRecursion (λ y. a < y) xs → AllByRecursion (λ y. a < y) (filter p xs)
above_filter a p [] h = tt
above_filter a p (x ∷ xs) h = elim (p x) as (λ b. AllByRecursion (λ y. a < y) (if b then x ∷ filter p xs else filter p xs)) [ true ↦ (h.0, above_filter a p xs h.1) | false ↦ above_filter a p xs h.1 ]

pub Rising-filter : (p : ℕ → Bool) (xs : List ℕ) → Rising xs → Rising (filter p xs)
Rising-filter p [] r = tt
Rising-filter p (x ∷ xs) r = elim (p x) as (λ b. Rising (if b then x ∷ filter p xs else filter p xs)) [ true ↦ (above_filter x p xs r.0, Rising-filter p xs r.1) | false ↦ Rising-filter p xs r.1 ]

pub is_in-filter : (p : ℕ → Bool) (r : ℕ) (xs : List ℕ) → is_in r (filter p xs) ≡ (p r && is_in r xs)
is_in-filter p r [] = none (p r)
  where
    none : (b : Bool) → false ≡ (b && false)
    none true = refl
    none false = refl
is_in-filter p r (x ∷ xs) =
    elim (p x) as (λ b. p x ≡ b → is_in r (if b then x ∷ filter p xs else filter p xs) ≡ (p r && ((x == r) || is_in r xs))) [
      | true ↦ λ e. ap (λ b. (x == r) || b) (is_in-filter p r xs) ∙ elim (x == r) as (λ b. (x == r) ≡ b → (b || (p r && is_in r xs)) ≡ (p r && (b || is_in r xs))) [
        | true ↦ λ t. let same : x ≡ r = grind (arith, nat_tests) in let yes : p r ≡ true = ap p (sym same) ∙ e in ap (λ b. b && true) (sym yes)
        | false ↦ λ _. refl
      ] refl
      | false ↦ λ e. is_in-filter p r xs ∙ elim (x == r) as (λ b. (x == r) ≡ b → (p r && is_in r xs) ≡ (p r && (b || is_in r xs))) [
        | true ↦ λ t. let same : x ≡ r = grind (arith, nat_tests) in let no : p r ≡ false = ap p (sym same) ∙ e in ap (λ b. b && is_in r xs) no ∙ ap (λ b. b && true) (sym no)
        | false ↦ λ _. refl
      ] refl
    ] refl

pub not_in : (q : ℕ) (xs : List ℕ) → AllByRecursion (λ y. q < y) xs → is_in q xs ≡ false
not_in q [] h = refl
not_in q (x ∷ xs) h = let p : q < x = h.0 in let no : (x == q) ≡ false = grind (arith, nat_tests) in ap (λ b. b || is_in q xs) no ∙ not_in q xs h.1

pub below_in : (a q : ℕ) (xs : List ℕ) → AllByRecursion (λ y. a < y) xs → is_in q xs ≡ true → a < q
below_in a q [] h e = absurd (true≢false (sym e))
below_in a q (x ∷ xs) h e =
    elim (x == q) as (λ b. (x == q) ≡ b → (b || is_in q xs) ≡ true → a < q) [
      | true ↦ λ t _. let p : a < x = h.0 in grind (arith, nat_tests)
      | false ↦ λ _ e. below_in a q xs h.1 e
    ] refl e

pub yes_here : (x : ℕ) (b : Bool) → ((x == x) || b) ≡ true
yes_here x b = let e : (x == x) ≡ true = grind (arith, nat_tests) in ap (λ c. c || b) e

pub first_or_later : (x q : ℕ) (b : Bool) → ((x == q) || b) ≡ true → x ≢ q → b ≡ true
first_or_later x q b = elim (x == q) as (λ c. (x == q) ≡ c → (c || b) ≡ true → x ≢ q → b ≡ true) [ true ↦ λ t _ ne. absurd (let e : x ≡ q = grind (arith, nat_tests) in ne e) | false ↦ λ _ e _. e ] refl

rest_alike : (x r : ℕ) (a b c d : Bool) → a ≡ false → b ≡ false → ((x == r) || c) ≡ ((x == r) || d) → (x ≡ r → (c ≡ a) × (d ≡ b)) → c ≡ d
rest_alike x r a b c d na nb = elim (x == r) as (λ t. (x == r) ≡ t → (t || c) ≡ (t || d) → (x ≡ r → (c ≡ a) × (d ≡ b)) → c ≡ d) [
  | true ↦ λ t _ at. let e : x ≡ r = grind (arith, nat_tests) in (at e).0 ∙ na ∙ sym nb ∙ sym (at e).1
  | false ↦ λ _ e _. e
] refl

-- two ascending lists with the same numbers are one
pub same_rising : (xs ys : List ℕ) → Rising xs → Rising ys → ((r : ℕ) → is_in r xs ≡ is_in r ys) → xs ≡ ys
same_rising [] [] p q e = refl
same_rising [] (y ∷ ys) p q e = absurd (true≢false (sym (yes_here y (is_in y ys)) ∙ sym (e y)))
same_rising (x ∷ xs) [] p q e = absurd (true≢false (sym (yes_here x (is_in x xs)) ∙ e x))
same_rising (x ∷ xs) (y ∷ ys) p q e = joined x y xs ys p q e (heads x y xs ys p q e) (same_rising xs ys p.1 q.1)
  where
    heads : (x y : ℕ) (xs ys : List ℕ) → Rising (x ∷ xs) → Rising (y ∷ ys) → ((r : ℕ) → is_in r (x ∷ xs) ≡ is_in r (y ∷ ys)) → x ≡ y
    heads x y xs ys p q e =
        elim (x == y) as (λ b. (x == y) ≡ b → x ≡ y) [
          | true ↦ λ t. grind (arith, nat_tests)
          | false ↦ λ t. let ne : x ≢ y = grind (arith, nat_tests) in
              let ne' : y ≢ x = λ h. ne (sym h) in
              let a : y < x = below_in y x ys q.0 (first_or_later y x (is_in x ys) (sym (e x) ∙ yes_here x (is_in x xs)) ne') in
              let b : x < y = below_in x y xs p.0 (first_or_later x y (is_in y xs) (e y ∙ yes_here y (is_in y ys)) ne) in
              absurd (omega arith)
        ] refl

    joined : (x y : ℕ) (xs ys : List ℕ) → Rising (x ∷ xs) → Rising (y ∷ ys) → ((r : ℕ) → is_in r (x ∷ xs) ≡ is_in r (y ∷ ys)) → x ≡ y → (((r : ℕ) → is_in r xs ≡ is_in r ys) → xs ≡ ys) → x ∷ xs ≡ y ∷ ys
    joined x y xs ys p q e same rest =
        let q' : AllByRecursion (λ z. x < z) ys = subst (λ n. AllByRecursion (λ z. n < z) ys) (sym same) q.0 in
        let tails : xs ≡ ys = rest (λ r. rest_alike x r false false (is_in r xs) (is_in r ys) refl refl
        (e r ∙ ap (λ n. (n == r) || is_in r ys) (sym same))
        (λ h. (subst (λ n. is_in n xs ≡ false) h (not_in x xs p.0), subst (λ n. is_in n ys ≡ false) h (not_in x ys q')))) in
        λ i. same i ∷ tails i
