-- A table is what its fields are, and a list what its items are.
use Rattle.station_schema.proofs.Common.{List, [], ap, ap₂, arith, drop, length, map, refl, slice_index_or, subst, suc, sym, zero, ℕ, ◌+◌, ◌<◌, ◌∙◌, ◌∷◌, ◌≡◌}

pub no_items : {X : Type 0} (xs : List X) → length xs ≡ 0 → xs ≡ []
no_items [] h = refl
no_items (x ∷ xs) h = absurd (omega arith)

pub one_item : {X : Type 0} (xs : List X) (x : X) → length xs ≡ 1 → x ≡ slice_index_or xs 0 x → xs ≡ x ∷ []
one_item [] x h is = absurd (omega arith)
one_item (y ∷ []) x h is = ap (λ z. z ∷ []) (sym is)
one_item (y ∷ z ∷ xs) x h is = absurd (omega arith)

drop_at : {X : Type 0} (xs : List X) (i : ℕ) (x : X) → i < length xs → x ≡ slice_index_or xs i x → drop i xs ≡ x ∷ drop (suc i) xs
drop_at [] i x low is = absurd (omega arith)
drop_at (y ∷ xs) zero x low is = ap (λ z. z ∷ xs) (sym is)
drop_at (y ∷ xs) (suc i) x low is = drop_at xs i x (omega arith) is

drop_all : {X : Type 0} (n : ℕ) (xs : List X) → length xs ≡ n → drop n xs ≡ []
drop_all zero [] h = refl
drop_all (suc n) [] h = refl
drop_all zero (x ∷ xs) h = absurd (omega arith)
drop_all (suc n) (x ∷ xs) h = drop_all n xs (omega arith)

module _ {X Y : Type 0} (f : Y → X) (xs : List X) (ys : List Y) where
  -- the items before this one are those that are wanted
  abbrev pub AreSoFar : ℕ → Type 0
  AreSoFar i = drop i xs ≡ map f (drop i ys) → xs ≡ map f ys

  pub one_more : (i : ℕ) (x : X) (y : Y) → i < length xs → i < length ys → x ≡ slice_index_or xs i x → y ≡ slice_index_or ys i y → x ≡ f y → AreSoFar i → AreSoFar (i + 1)
  one_more i x y low low' at at' is before rest =
      let next : i + 1 ≡ suc i = omega arith in
      let same : drop (suc i) xs ≡ map f (drop (suc i) ys) = subst (λ n. drop n xs ≡ map f (drop n ys)) next rest in
      before (drop_at xs i x low at ∙ ap₂ ◌∷◌ is same ∙ sym (ap (map f) (drop_at ys i y low' at')))

  pub all_are : (n : ℕ) → length xs ≡ n → length ys ≡ n → AreSoFar n → xs ≡ map f ys
  all_are n h k before = before (drop_all n xs h ∙ sym (ap (map f) (drop_all n ys k)))
