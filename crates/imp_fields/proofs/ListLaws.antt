-- One more element at the end of a list.
use Rattle.imp_fields.proofs.Common.{Bool, List, None, Some, [], ap, arith, before_last_while, cases_lt, cond, cond-false, cond-true, eq-eqb, false, inl, inr, le-ltb, length, length-append, length-take-le, lt-ltb, ne_eqb, not, position, position_or_len, prefix_len, prefix_len-append, prefix_len-le-length, refl, reverse-append, suffix_len, sym, take, take-append-le, take_all, true, ℕ, ◌++◌, ◌+◌, ◌-◌, ◌<◌, ◌==◌, ◌∙◌, ◌∷◌, ◌≡◌, ◌≤◌}

pub suffix_len-more : {X : Type 0} (p : X → Bool) (xs : List X) (y : X) → suffix_len p (xs ++ y ∷ []) ≡ cond (p y) (1 + suffix_len p xs) 0
suffix_len-more p xs y = ap (prefix_len p) (reverse-append xs (y ∷ []))

pub length-before_last_while : {X : Type 0} (p : X → Bool) (xs : List X) → length (before_last_while p xs) ≡ length xs - suffix_len p xs
length-before_last_while p xs = length-take-le (length xs - suffix_len p xs) xs (omega arith)

pub before_last_while-more : {X : Type 0} (p : X → Bool) (xs : List X) (y : X)
    → length (before_last_while p (xs ++ y ∷ [])) ≡ cond (p y) (length (before_last_while p xs)) (length xs + 1)
before_last_while-more p xs y = at (p y) refl
  where
    at : (b : Bool) → p y ≡ b → length (before_last_while p (xs ++ y ∷ [])) ≡ cond b (length (before_last_while p xs)) (length xs + 1)
    at true e =
        let run : suffix_len p (xs ++ y ∷ []) ≡ 1 + suffix_len p xs = suffix_len-more p xs y ∙ cond-true _ _ _ e in
        omega (arith, length-before_last_while p (xs ++ y ∷ []), length-before_last_while p xs, run, length-append xs (y ∷ []))
    at false e =
        let run : suffix_len p (xs ++ y ∷ []) ≡ 0 = suffix_len-more p xs y ∙ cond-false _ _ _ e in
        omega (arith, length-before_last_while p (xs ++ y ∷ []), run, length-append xs (y ∷ []))

-- ---- the first place

pub position-none : {X : Type 0} (p : X → Bool) (xs : List X) → position p xs ≡ None → position_or_len p xs ≡ length xs
position-none p xs e =
    elim (cases_lt (position_or_len p xs) (length xs)) [
      | inl lt ↦ absurd (let found : Some (position_or_len p xs) ≡ None = sym (cond-true _ _ _ (lt-ltb _ _ lt)) ∙ e in cc)
      | inr le ↦ omega (arith, le, prefix_len-le-length (λ x. not (p x)) xs)
    ]

pub none-position : {X : Type 0} (p : X → Bool) (xs : List X) → length xs ≤ position_or_len p xs → position p xs ≡ None
none-position p xs le = cond-false _ _ _ (le-ltb _ _ le)

pub position-some : {X : Type 0} (p : X → Bool) (xs : List X) (k : ℕ) → position p xs ≡ Some k → (position_or_len p xs ≡ k) × (k < length xs)
position-some p xs k e =
    elim (cases_lt (position_or_len p xs) (length xs)) [
      | inl lt ↦
          let same : position_or_len p xs ≡ k = (let found : Some (position_or_len p xs) ≡ Some k = sym (cond-true _ _ _ (lt-ltb _ _ lt)) ∙ e in cc) in
          (same, omega (arith, lt, same))
      | inr le ↦ absurd (let lost : None ≡ Some k = sym (cond-false _ _ _ (le-ltb _ _ le)) ∙ e in cc)
    ]

pub some-position : {X : Type 0} (p : X → Bool) (xs : List X) (k : ℕ) → position_or_len p xs ≡ k → k < length xs → position p xs ≡ Some k
some-position p xs k e lt =
    let before : position_or_len p xs < length xs = omega (arith, e, lt) in cond-true _ _ _ (lt-ltb _ _ before) ∙ ap (λ n. Some n) e

pub position-append : {X : Type 0} (p : X → Bool) (xs ys : List X) (k : ℕ) → position p xs ≡ Some k → position p (xs ++ ys) ≡ Some k
position-append p xs ys k e =
    let at = position-some p xs k e in
    let short : (prefix_len (λ x. not (p x)) xs == length xs) ≡ false = ne_eqb _ _ (λ same. omega (arith, same, at.0, at.1)) in
    some-position p (xs ++ ys) k (prefix_len-append (λ x. not (p x)) xs ys ∙ cond-false _ _ _ short ∙ at.0) (omega (arith, at.1, length-append xs ys))

pub all_pass : {X : Type 0} (p : X → Bool) (xs ys : List X) → position p xs ≡ None → position_or_len p (xs ++ ys) ≡ length xs + position_or_len p ys
all_pass p xs ys e = prefix_len-append (λ x. not (p x)) xs ys ∙ cond-true _ _ _ (eq-eqb _ _ (position-none p xs e))

pub position-more_no : {X : Type 0} (p : X → Bool) (xs : List X) (y : X) → position p xs ≡ None → p y ≡ false → position p (xs ++ y ∷ []) ≡ None
position-more_no p xs y e fails =
    let one : position_or_len p (y ∷ []) ≡ 1 = ap (λ b. cond (not b) (1 + 0) 0) fails in
    none-position p (xs ++ y ∷ []) (omega (arith, all_pass p xs (y ∷ []) e, one, length-append xs (y ∷ [])))

pub position-more_yes : {X : Type 0} (p : X → Bool) (xs : List X) (y : X) → position p xs ≡ None → p y ≡ true → position p (xs ++ y ∷ []) ≡ Some (length xs)
position-more_yes p xs y e passes =
    let none : position_or_len p (y ∷ []) ≡ 0 = ap (λ b. cond (not b) (1 + 0) 0) passes in
    some-position p (xs ++ y ∷ []) (length xs) (omega (arith, all_pass p xs (y ∷ []) e, none)) (omega (arith, length-append xs (y ∷ [])))

-- ---- the elements in front

pub take-more : {X : Type 0} (n : ℕ) (xs : List X) (y : X) → length xs < n → take n (xs ++ y ∷ []) ≡ take n xs ++ y ∷ []
take-more n xs y lt =
    take_all n (xs ++ y ∷ []) (omega (arith, length-append xs (y ∷ []), lt)) ∙ ap (λ l. l ++ y ∷ []) (sym (take_all n xs (omega (arith, lt))))

pub take-full : {X : Type 0} (n : ℕ) (xs : List X) (y : X) → n ≤ length xs → take n (xs ++ y ∷ []) ≡ take n xs
take-full n xs y le = take-append-le n xs (y ∷ []) le
