-- Lists, index by index and one element more.
use Rattle.table_audits.proofs.Common.{AllByRecursion, Bool, IsAscending, List, Some, [], ap, arith, false, get_or, length, list_any, list_any-append, map, none_is, refl, slice_get, some_is, suc, sym, true, true≢false, zero, ℕ, ◌++◌, ◌<◌, ◌||◌, ◌∙◌, ◌∷◌, ◌≡◌}

pub or_no : (b : Bool) → (b || false) ≡ b
or_no b = grind arith

pub or_yes : (b : Bool) → (b || true) ≡ true
or_yes b = grind arith

pub got_map : {X Y : Type 0} (f : X → Y) (xs : List X) (i : ℕ) (x : X) → slice_get xs i ≡ Some x → slice_get (map f xs) i ≡ Some (f x)
got_map f [] i x is = absurd (true≢false (sym (none_is x is)))
got_map f (y ∷ xs) zero x is = ap (λ z. Some (f z)) (some_is y x is)
got_map f (y ∷ xs) (suc i) x is = got_map f xs i x is

pub all_pop : {X : Type 0} (P : X → Type 0) (xs : List X) (x : X) → AllByRecursion P (xs ++ x ∷ []) → AllByRecursion P xs × P x
all_pop P [] x all = (tt, all.0)
all_pop P (y ∷ xs) x all = let rest = all_pop P xs x all.1 in ((all.0, rest.0), rest.1)

-- the elements before the last of an ascending list

pub below_last : {X : Type 0} (R : X → X → Type 0) (xs : List X) (x : X) → IsAscending R (xs ++ x ∷ []) → AllByRecursion (λ y. R y x) xs
below_last R [] x up = tt
below_last R (y ∷ xs) x up = ((all_pop (R y) xs x up.0).1, below_last R xs x up.1)

pub rises_before : {X : Type 0} (R : X → X → Type 0) (xs : List X) (x : X) → IsAscending R (xs ++ x ∷ []) → IsAscending R xs
rises_before R [] x up = tt
rises_before R (y ∷ xs) x up = ((all_pop (R y) xs x up.0).0, rises_before R xs x up.1)

pub any_push : {X : Type 0} (p : X → Bool) (xs : List X) (x : X) → list_any p (xs ++ x ∷ []) ≡ (list_any p xs || p x)
any_push p xs x = list_any-append p xs (x ∷ []) ∙ ap (λ b. list_any p xs || b) (or_no (p x))

pub any_within : {X : Type 0} (p : X → Bool) (xs : List X) (x : X) (ys : List X) → p x ≡ true → list_any p (xs ++ x ∷ ys) ≡ true
any_within p [] x ys is = ap (λ b. b || list_any p ys) is
any_within p (a ∷ xs) x ys is = ap (λ b. p a || b) (any_within p xs x ys is) ∙ or_yes (p a)

-- what stands at an index within a list
pub element : {X : Type 0} (xs : List X) (i : ℕ) → i < length xs → (x : X) × (slice_get xs i ≡ Some x) × ((d : X) → get_or xs i d ≡ x)
element [] i low = absurd (omega arith)
element (x ∷ xs) zero low = (x, refl, λ d. refl)
element (x ∷ xs) (suc i) low = element xs i (omega arith)
