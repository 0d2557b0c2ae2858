-- Rows that are written one after another.
use Rattle.station_engine.proofs.Common.{Cargo, Change, List, State, [], ap, get_or, length, refl, sym, take, take_more, with_changes, written, written_all, ℕ, ◌++◌, ◌+◌, ◌<◌, ◌∙◌, ◌∷◌, ◌≡◌}

written_then : (text : List ℕ) (xs : List Change) (x : Change) (c : Cargo) → written_all text (xs ++ x ∷ []) c ≡ written text x (written_all text xs c)
written_then text [] x c = refl
written_then text (y ∷ ys) x c = written_then text ys x (written text y c)

pub change_then : (text : List ℕ) (xs : List Change) (x : Change) (s : State) → with_changes text (xs ++ x ∷ []) s ≡ with_changes text (x ∷ []) (with_changes text xs s)
change_then text xs x s = ap (λ c. record s { cargo = c }) (written_then text xs x s.cargo)

-- one more row is written
pub change_next : (text : List ℕ) (xs : List Change) (i : ℕ) (x : Change) (s : State) → i < length xs → x ≡ get_or xs i x → with_changes text (x ∷ []) (with_changes text (take i xs) s) ≡ with_changes text (take (i + 1) xs) s
change_next text xs i x s lt read = sym (change_then text (take i xs) x s) ∙ ap (λ y. with_changes text (take i xs ++ y ∷ []) s) read ∙ sym (ap (λ l. with_changes text l s) (take_more xs i x lt))
