-- Reasons on standard error: one line each, for people.
use Rattle.std.specs.Prelude.{◌≡◌, ◌==◌, ◌||◌, ℕ, Bool, IsTrue, List, [], ◌∷◌, ◌++◌, codes, decimal, take}
use Rattle.input_reasons.specs.Common.{list_all, is_printable, Refusal}

-- a line of printable ASCII that begins with this head
abbrev pub IsReason : List ℕ → List ℕ → Type 0
IsReason head text =
    (words : List ℕ) × IsTrue (list_all is_printable words) × (text ≡ head ++ (words ++ 10 ∷ []))

-- how the reason of a line with this number begins
abbrev pub numbered_head : ℕ → List ℕ
numbered_head number = codes "line " ++ (decimal number ++ codes ": ")

-- a reason with this head was written, or a beginning of one, which may be nothing
abbrev pub HasReason : List ℕ → List ℕ → List ℕ → Type 0
HasReason head before after =
    (line : List ℕ) × IsReason head line × ((n : ℕ) × (after ≡ before ++ take n line))

-- whether a refusal says that a telegram can't be read
abbrev pub is_unread : Refusal → Bool
is_unread refusal = (refusal.number == 301) || (refusal.number == 302)
