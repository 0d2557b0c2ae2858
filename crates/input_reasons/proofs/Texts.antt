-- Texts of several parts.
use Rattle.input_reasons.proofs.Common.{Bool, Err, IfOk, List, Ok, Option, Result, String, [], ap, codes, cons_option, false, flat_map-map, get_or, join_by, length, map, refl, string_bytes, sym, take, take_more, true, ℕ, ◌++◌, ◌+◌, ◌<◌, ◌∙◌, ◌∷◌, ◌≡◌}
use Rattle.std.specs.Prelude.{if◌then◌else◌}
use Rattle.std.specs.List.{filter_map}
use Rattle.input_reasons.specs.Common.{boolean, compact_text}
use Rattle.std.specs.declared.alloc.Global.{Global}
use Rattle.std.proofs.lemmas.List.Elements.{filter_map-append}

-- a text that was written is one that is equal
pub told : {E : Type 0} (r : Result (String Global) E) (bytes text : List ℕ) → bytes ≡ text → IfOk r (λ s. string_bytes s ≡ bytes) → IfOk r (λ s. string_bytes s ≡ text)
told (Ok s) bytes text same is = is ∙ same
told (Err e) bytes text same is = tt

pub joined : (between : List ℕ) (texts : List (String Global)) → join_by string_bytes between texts ≡ join_by (λ text. text) between (map string_bytes texts)
joined between [] = refl
joined between (text ∷ texts) = ap (λ t. string_bytes text ++ t) (sym (flat_map-map (λ other. between ++ other) string_bytes texts))

pub filter_more : {X Y : Type 0} (f : X → Option Y) (xs : List X) (i : ℕ) (d : X) → i < length xs
    → filter_map f (take (i + 1) xs) ≡ filter_map f (take i xs) ++ cons_option (f (get_or xs i d)) []
filter_more f xs i d lt = ap (filter_map f) (take_more xs i d lt) ∙ filter_map-append f (take i xs) (get_or xs i d ∷ [])

-- a truth value is printed as its JSON
pub flag_is : (b : Bool) → (if b then codes "true" else codes "false") ≡ compact_text (boolean b)
flag_is true = refl
flag_is false = refl
