-- The text of rows, one after another, and of their end.
use Rattle.std.specs.Prelude.{ℕ, ◌+◌, List, [], ◌∷◌, ◌++◌, length}

-- the pieces of rows, after `n` others
abbrev pub pieces_of : {Row : Type 0} → (ℕ → Row → List ℕ) → ℕ → List Row → List ℕ
pieces_of piece n [] = []
pieces_of piece n (row ∷ rows) = piece n row ++ pieces_of piece (n + 1) rows

-- all of them, and the end
abbrev pub whole_text : {Row : Type 0} → (ℕ → Row → List ℕ) → (ℕ → List ℕ) → List Row → List ℕ
whole_text piece end rows = pieces_of piece 0 rows ++ end (length rows)
