-- What holds of each row of a table holds of what is found in it, and the other way round.
use Rattle.table_audits.proofs.Common.{AllByRecursion, Bool, IsAscending, IsLawfulAmount, Less, List, Some, [], all_both, all_from_test, all_weaker, and_parts, ap, arith, cond, false, find, get_by, int_cmp, int_eq, int_le, ints, is_within, list_all, natural, negsuc, pos, refl, subst, test_from_all, true, ℕ, ℤ, ◌&&◌, ◌∙◌, ◌∷◌, ◌≡◌, ◌≤◌}

-- ---- tests of lists

pub found_holds : {X : Type 0} (P : X → Type 0) (test : X → Bool) (xs : List X) (x : X) → AllByRecursion P xs → find test xs ≡ Some x → P x
found_holds P test [] x all has = absurd (cc)
found_holds P test (y ∷ xs) x all has = go (test y) has (found_holds P test xs x all.1)
  where
    go : (b : Bool) → cond b (Some y) (find test xs) ≡ Some x → (find test xs ≡ Some x → P x) → P x
    go true is more = let same : y ≡ x = cc in subst P same all.0
    go false is more = more is

pub found_test : {X : Type 0} (test : X → Bool) (xs : List X) (x : X) → find test xs ≡ Some x → test x ≡ true
found_test test [] x has = cc
found_test test (y ∷ xs) x has = go (test y) refl has (found_test test xs x)
  where
    go : (b : Bool) → test y ≡ b → cond b (Some y) (find test xs) ≡ Some x → (find test xs ≡ Some x → test x ≡ true) → test x ≡ true
    go true e is more = let same : y ≡ x = cc in subst (λ z. test z ≡ true) same e
    go false e is more = more is

pub both_lists : {X : Type 0} (p q : X → Bool) (xs : List X) → list_all (λ x. p x && q x) xs ≡ true → (list_all p xs ≡ true) × (list_all q xs ≡ true)
both_lists p q xs all = (
  test_from_all p xs (all_weaker (λ x. (p x && q x) ≡ true) (λ x. p x ≡ true) (λ x h. (and_parts (p x) (q x) h).0) xs (all_from_test (λ x. p x && q x) xs all)),
  test_from_all q xs (all_weaker (λ x. (p x && q x) ≡ true) (λ x. q x ≡ true) (λ x h. (and_parts (p x) (q x) h).1) xs (all_from_test (λ x. p x && q x) xs all)),
)

-- ---- rows under a number

tied_number : (a b : ℤ) → int_cmp a b ≡ Less → int_eq a b ≡ false
tied_number a b h = grind (arith, ints)

module _ {X : Type 0} (key : X → ℤ) where
  pub each_by_number : (xs : List X) → IsAscending (λ a b. int_cmp (key a) (key b) ≡ Less) xs → AllByRecursion (λ x. get_by key xs (key x) ≡ Some x) xs
  each_by_number [] up = tt
  each_by_number (x ∷ xs) up = (
    (let e : int_eq (key x) (key x) ≡ true = grind (arith, ints) in ap (λ b. cond b (Some x) (get_by key xs (key x))) e),
    all_both (λ y. int_cmp (key x) (key y) ≡ Less) (λ y. get_by key xs (key y) ≡ Some y) (λ y. get_by key (x ∷ xs) (key y) ≡ Some y)
        (λ y low is. ap (λ b. cond b (Some x) (get_by key xs (key y))) (tied_number (key x) (key y) low) ∙ is) xs up.0 (each_by_number xs up.1),
  )

-- ---- numbers in range

pub natural_again : (low high : ℕ) (z : ℤ) → is_within low high z ≡ true → pos (natural z) ≡ z
natural_again low high (pos n) h = refl
natural_again low high (negsuc n) h = absurd (let no : ⊥ = grind (arith, ints) in no)

pub amount_of : (p t : ℤ) → is_within 1 9999 p ≡ true → is_within 0 999_999 t ≡ true → int_le p t ≡ true → IsLawfulAmount (natural p) (natural t)
amount_of (pos p) (pos t) a b c = record { some = grind (arith, ints); not_more = grind (arith, ints); tenth_a_piece = grind (arith, ints); not_heavier = grind (arith, ints) }
amount_of _ _ a b c = absurd (let no : ⊥ = grind (arith, ints) in no)

pub amount_back : (p t : ℤ) → is_within 1 9999 p ≡ true → is_within 0 999_999 t ≡ true → IsLawfulAmount (natural p) (natural t) → int_le p t ≡ true
amount_back (pos p) (pos t) a b c = let enough : p ≤ t = c.tenth_a_piece in grind (arith, ints)
amount_back _ _ a b c = absurd (let no : ⊥ = grind (arith, ints) in no)
