-- Printable texts that grow.
use Rattle.input_reasons.proofs.Common.{List, [], is_printable, le-leb, list_all, list_all-append, refl, true, ℕ, ◌++◌, ◌∙◌, ◌∷◌, ◌≡◌, ◌≤◌}

printable : (b : ℕ) → 32 ≤ b → b ≤ 126 → is_printable b ≡ true
printable b least most = rw (le-leb 32 b least, le-leb b 126 most) refl

pub grown : (old : List ℕ) (b : ℕ) → 32 ≤ b → b ≤ 126 → list_all is_printable old ≡ true → list_all is_printable (old ++ b ∷ []) ≡ true
grown old b least most all = list_all-append is_printable old (b ∷ []) ∙ rw (all, printable b least most) refl
