-- A walk over rows, of which each gives a row, or some do.
use Rattle.reports.proofs.Common.{Bool, List, [], ap, filter, get_or, length, map, sym, take, take_more, ℕ, ◌++◌, ◌+◌, ◌<◌, ◌∙◌, ◌∷◌, ◌≡◌}
use Rattle.std.proofs.lemmas.List.Elements.{filter_more}
use Rattle.std.proofs.lemmas.List.{map-append}

-- one more row is kept, if it passes
pub picked_more : {X : Type 0} (p : X → Bool) (xs ys zs : List X) (i : ℕ) (x : X) → i < length xs → x ≡ get_or xs i x → ys ≡ filter p (take i xs) → zs ≡ ys ++ filter p (x ∷ []) → zs ≡ filter p (take (i + 1) xs)
picked_more p xs ys zs i x lt is before pushed =
    pushed ∙ ap (λ l. l ++ filter p (x ∷ [])) before ∙ ap (λ y. filter p (take i xs) ++ filter p (y ∷ [])) is ∙ sym (filter_more p xs i x lt)

-- one more row is made
pub mapped_more : {X Y : Type 0} (f : X → Y) (xs : List X) (ys zs : List Y) (i : ℕ) (x : X) → i < length xs → x ≡ get_or xs i x → ys ≡ map f (take i xs) → zs ≡ ys ++ f x ∷ [] → zs ≡ map f (take (i + 1) xs)
mapped_more f xs ys zs i x lt is before pushed =
    pushed ∙ ap (λ l. l ++ f x ∷ []) before ∙ ap (λ y. map f (take i xs) ++ f y ∷ []) is ∙ sym (ap (map f) (take_more xs i x lt) ∙ map-append f (take i xs) (get_or xs i x ∷ []))
