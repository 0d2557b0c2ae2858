-- What clones of collections have in common with what they are clones of.
use Rattle.std.proofs.Common.{ap, ap₂, refl, ◌≡◌, Bool, List, [], ◌∷◌, map, Some, option_map, inl, inr}
use Rattle.std.proofs.lemmas.Bool.{cases_Bool}
use Rattle.std.specs.List.{AllZip}
use Rattle.std.specs.Map.{lookup}

-- what is made of each item is made of its clone
pub mapped_alike : {A B : Type 0} {R : A → A → Type 0} (f : A → B) → ((x y : A) → R x y → f y ≡ f x) → (xs ys : List A) → AllZip R xs ys → map f ys ≡ map f xs
mapped_alike f same [] [] h = refl
mapped_alike f same [] (y ∷ ys) h = absurd h
mapped_alike f same (x ∷ xs) [] h = absurd h
mapped_alike f same (x ∷ xs) (y ∷ ys) h = ap₂ ◌∷◌ (same x y h.0) (mapped_alike f same xs ys h.1)

pub all_alike : {A : Type 0} {R : A → A → Type 0} → ((x y : A) → R x y → y ≡ x) → (xs ys : List A) → AllZip R xs ys → ys ≡ xs
all_alike same [] [] h = refl
all_alike same [] (y ∷ ys) h = absurd h
all_alike same (x ∷ xs) [] h = absurd h
all_alike same (x ∷ xs) (y ∷ ys) h = ap₂ ◌∷◌ (same x y h.0) (all_alike same xs ys h.1)

-- what is made of the value under a key that passes is made of its clone
pub found_alike : {K X B : Type 0} {R : K × X → K × X → Type 0} (p : K → Bool) (f : X → B)
    → ((x y : K × X) → R x y → (p y.0 ≡ p x.0) × (f y.1 ≡ f x.1)) → (xs ys : List (K × X)) → AllZip R xs ys
    → option_map f (lookup p ys) ≡ option_map f (lookup p xs)
found_alike p f same [] [] h = refl
found_alike p f same [] (y ∷ ys) h = absurd h
found_alike p f same (x ∷ xs) [] h = absurd h
found_alike p f same (x ∷ xs) (y ∷ ys) h =
    let one = same x y h.0 in
    elim (cases_Bool (p x.0)) [
      | inl is ↦ rw (one.0, is) (ap Some one.1)
      | inr other ↦ rw (one.0, other) (found_alike p f same xs ys h.1)
    ]

-- the same of the value itself
pub found_again : {K X : Type 0} {R : K × X → K × X → Type 0} (p : K → Bool)
    → ((x y : K × X) → R x y → (p y.0 ≡ p x.0) × (y.1 ≡ x.1)) → (xs ys : List (K × X)) → AllZip R xs ys
    → lookup p ys ≡ lookup p xs
found_again p same [] [] h = refl
found_again p same [] (y ∷ ys) h = absurd h
found_again p same (x ∷ xs) [] h = absurd h
found_again p same (x ∷ xs) (y ∷ ys) h =
    let one = same x y h.0 in
    elim (cases_Bool (p x.0)) [
      | inl is ↦ rw (one.0, is) (ap Some one.1)
      | inr other ↦ rw (one.0, other) (found_again p same xs ys h.1)
    ]
