-- The last of some lines, and whether it ends a manifest.
use Rattle.ffm_text.proofs.Common.{Bool, List, Some, Token, [], add-one, ap, arith, codes, false, has_last_line, is_last_line, length, length-map, option_map, or_left, refl, slice_get, sym, texts_of, true, ℕ, ◌+◌, ◌-◌, ◌||◌, ◌∙◌, ◌∷◌, ◌≡◌}
use Rattle.std.specs.Str.{bytes_eq}
use Rattle.std.proofs.lemmas.Option.{slice_get-map}

next_of : {X : Type 0} (x : X) (xs : List X) (n : ℕ) → slice_get (x ∷ xs) (n + 1) ≡ slice_get xs n
next_of x xs n = rw add-one refl

last_at : (lines : List (List ℕ)) (line : List ℕ) → slice_get lines (length lines - 1) ≡ Some line → has_last_line lines ≡ is_last_line line
last_at [] line e = absurd cc
last_at (x ∷ []) line e = ap is_last_line (let same : Some x ≡ Some line = e in let it : x ≡ line = cc in it)
last_at (x ∷ next ∷ lines) line e =
    let place : length (x ∷ next ∷ lines) - 1 ≡ (length (next ∷ lines) - 1) + 1 = omega arith in
    last_at (next ∷ lines) line (sym (next_of x (next ∷ lines) (length (next ∷ lines) - 1)) ∙ ap (slice_get (x ∷ next ∷ lines)) (sym place) ∙ e)

pub last_token : (lines : List Token) (line : Token) → slice_get lines (length lines - 1) ≡ Some line → has_last_line (texts_of lines) ≡ is_last_line line.text.now
last_token lines line e =
    let text : Token → List ℕ = λ t. t.text.now in
    let place : length (texts_of lines) - 1 ≡ length lines - 1 = ap (λ n. n - 1) (length-map lines text) in
    last_at (texts_of lines) line.text.now (ap (slice_get (texts_of lines)) place ∙ slice_get-map text lines (length lines - 1) ∙ ap (option_map text) e)

-- whether a line ends a manifest, by two comparisons
pub ends_so : (line last : List ℕ) (same : Bool) → last ≡ codes "LAST" → same ≡ bytes_eq line last → same ≡ true → same ≡ is_last_line line
ends_so line last same e is h = h ∙ sym (or_left _ _ (ap (bytes_eq line) (sym e) ∙ sym is ∙ h))

pub ends_or : (line last cont : List ℕ) (same other : Bool) → last ≡ codes "LAST" → cont ≡ codes "CONT" → same ≡ bytes_eq line last → other ≡ bytes_eq line cont → same ≡ false
    → other ≡ is_last_line line
ends_or line last cont same other e f is else h =
    let left : bytes_eq line (codes "LAST") ≡ false = ap (bytes_eq line) (sym e) ∙ sym is ∙ h in
    else ∙ ap (bytes_eq line) f ∙ sym (ap (λ b. b || bytes_eq line (codes "CONT")) left)
