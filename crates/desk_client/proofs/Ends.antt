-- The digits at a text's end.
use Rattle.desk_client.proofs.Common.{List, [], ap, before_digits, behind_digits, false, is_digit, refl, reverse, reverse-append, reverse-reverse, sym, true, ℕ, ◌++◌, ◌∙◌, ◌∷◌, ◌≡◌}

last_first : (front : List ℕ) (last : ℕ) → reverse (front ++ last ∷ []) ≡ last ∷ reverse front
last_first front last = reverse-append front (last ∷ [])

behind_one : (last : ℕ) (rest : List ℕ) → is_digit last ≡ true → behind_digits (last ∷ rest) ≡ behind_digits rest
behind_one last rest digit = rw digit refl

behind_none : (last : ℕ) (rest : List ℕ) → is_digit last ≡ false → behind_digits (last ∷ rest) ≡ last ∷ rest
behind_none last rest none = rw none refl

-- a digit at the end
pub more_digits : (text front : List ℕ) (last : ℕ) → text ≡ front ++ last ∷ [] → is_digit last ≡ true → before_digits text ≡ before_digits front
more_digits text front last is digit =
    ap (λ t. reverse (behind_digits t)) (ap reverse is ∙ last_first front last) ∙ ap reverse (behind_one last (reverse front) digit)

-- none
pub no_digit : (text front : List ℕ) (last : ℕ) → text ≡ front ++ last ∷ [] → is_digit last ≡ false → before_digits text ≡ text
no_digit text front last is none =
    ap (λ t. reverse (behind_digits t)) (ap reverse is ∙ last_first front last)
    ∙ ap reverse (behind_none last (reverse front) none)
    ∙ ap reverse (sym (ap reverse is ∙ last_first front last))
    ∙ reverse-reverse text
