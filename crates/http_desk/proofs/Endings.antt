-- A path without `.json` at its end.
use Rattle.http_desk.proofs.Common.{Bool, List, ap, bytes_eq-true, codes, drop, false, is_json, length, refl, sym, take, take-append-drop, true, ℕ, ◌++◌, ◌-◌, ◌∙◌, ◌≡◌}

pub not_json : (path : List ℕ) → ((front : List ℕ) → ¬ (path ≡ front ++ codes ".json")) → is_json path ≡ false
not_json path none = by (is_json path) refl
  where
    by : (v : Bool) → is_json path ≡ v → v ≡ false
    by true e =
        absurd (none (take (length path - 5) path) (sym (take-append-drop (length path - 5) path) ∙ ap (λ l. take (length path - 5) path ++ l) (bytes_eq-true (drop (length path - 5) path) (codes ".json") e)))
    by false e = refl
