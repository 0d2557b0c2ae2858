-- What holds of the lines so far, and of the next one, holds of one line more.
use Rattle.station_core.proofs.Common.{AllByRecursion, List, [], get_or, length, subst, sym, take, take_more, ℕ, ◌++◌, ◌+◌, ◌<◌, ◌∷◌}

all_end : {X : Type 0} (P : X → Type 0) (xs : List X) (y : X) → AllByRecursion P xs → P y → AllByRecursion P (xs ++ y ∷ [])
all_end P [] y all next = (next, tt)
all_end P (x ∷ xs) y all next = (all.0, all_end P xs y all.1 next)

pub all_more : {X : Type 0} (P : X → Type 0) (xs : List X) (i : ℕ) (d : X) → i < length xs → AllByRecursion P (take i xs) → P (get_or xs i d) → AllByRecursion P (take (i + 1) xs)
all_more P xs i d within all next = subst (AllByRecursion P) (sym (take_more xs i d within)) (all_end P (take i xs) (get_or xs i d) all next)
