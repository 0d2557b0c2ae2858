-- Lists that are mapped.
use Rattle.station_core.proofs.Common.{List, [], ap, get_or, length, map, map_more, refl, sym, take, ℕ, ◌++◌, ◌+◌, ◌<◌, ◌∙◌, ◌∷◌, ◌≡◌}

-- one element more of a list that is walked
pub mapped : {X Y : Type 0} (f : X → Y) (xs : List X) (ys zs : List Y) (i : ℕ) (x : X) → i < length xs → x ≡ get_or xs i x → ys ≡ map f (take i xs) → zs ≡ ys ++ f x ∷ [] → zs ≡ map f (take (i + 1) xs)
mapped f xs ys zs i x lt read before after =
    after ∙ ap (λ l. l ++ f x ∷ []) before ∙ ap (λ y. map f (take i xs) ++ f y ∷ []) read ∙ sym (map_more f xs i x lt)

pub map_twice : {X Y Z : Type 0} (g : Y → Z) (f : X → Y) (xs : List X) → map (λ x. g (f x)) xs ≡ map g (map f xs)
map_twice g f [] = refl
map_twice g f (x ∷ xs) = ap (λ l. g (f x) ∷ l) (map_twice g f xs)
