-- The lines of a text, read one after another.
use Rattle.std.proofs.Common.{arith, ◌≡◌, ◌∙◌, sym, refl, ap, subst, ℕ, ◌+◌, ◌<◌, ◌==◌, Bool, true, false, cond, List, [], ◌∷◌, ◌++◌, map, length, length-take, append_assoc, Option, Some, None, IfSome}
use Rattle.cli_run.proofs.Common.{AreFirst, append-nil, drop_through, in_front, kept, kept_lines, lines_of, most_line, take_through, take_through-nil}

-- the first line of a text, and the lines behind it
abbrev Cut : List ℕ → Type 0
Cut xs = lines_of xs ≡ take_through 10 xs ∷ lines_of (drop_through 10 xs)

cut_by : (q : Bool) (b : ℕ) (bs : List ℕ) → (q ≡ false → in_front b (lines_of bs) ≡ (b ∷ take_through 10 bs) ∷ lines_of (drop_through 10 bs))
    → cond q ((b ∷ []) ∷ lines_of bs) (in_front b (lines_of bs)) ≡ cond q (b ∷ []) (b ∷ take_through 10 bs) ∷ lines_of (cond q bs (drop_through 10 bs))
cut_by true b bs more = refl
cut_by false b bs more = more refl

cut : (b : ℕ) (bs : List ℕ) → Cut (b ∷ bs)
cut b [] = cut_by (b == 10) b [] (λ _. refl)
cut b (c ∷ cs) = cut_by (b == 10) b (c ∷ cs) (λ _. ap (λ lines. in_front b lines) (cut c cs))

-- what is left of a text behind these lines
abbrev pub Known : Option (List ℕ) → List (List ℕ) → List ℕ → Type 0
Known now lines bytes = (left : List ℕ) × (now ≡ Some left) × (kept_lines bytes ≡ lines ++ kept_lines left)

pub known_start : (known : Option (List ℕ)) → IfSome known (Known known [])
known_start None = tt
known_start (Some bytes) = (bytes, refl, refl)

-- the reader gave the first line of what was left, as far as it is kept
abbrev pub Read : Option (List ℕ) → Option (List ℕ) → List ℕ → Type 0
Read a b line = IfSome a (λ xs. (line ≡ kept (take_through 10 xs)) × (b ≡ Some (drop_through 10 xs)))

line_read : (left line : List ℕ) → line ≡ kept (take_through 10 left) → 0 < length line → kept_lines left ≡ line ∷ kept_lines (drop_through 10 left)
line_read [] line is some = absurd (omega (arith, ap length is, length-take (most_line + 1) (take_through 10 []), some))
line_read (b ∷ bs) line is some = ap (map kept) (cut b bs) ∙ ap (λ first. first ∷ kept_lines (drop_through 10 (b ∷ bs))) (sym is)

more_of : (bytes left : List ℕ) (a b : Option (List ℕ)) (lines : List (List ℕ)) (line : List ℕ) → a ≡ Some left → kept_lines bytes ≡ lines ++ kept_lines left
    → Read a b line → 0 < length line → Known b (lines ++ line ∷ []) bytes
more_of bytes left a b lines line is same read some =
    let (front, rest) = subst (λ (o : Option (List ℕ)). Read o b line) is read in (
      drop_through 10 left,
      rest,
      same ∙ ap (λ more. lines ++ more) (line_read left line front some) ∙ sym (append_assoc lines (line ∷ []) (kept_lines (drop_through 10 left))),
    )

pub known_more : (known a b : Option (List ℕ)) (lines : List (List ℕ)) (line : List ℕ) → IfSome known (Known a lines) → Read a b line → 0 < length line
    → IfSome known (Known b (lines ++ line ∷ []))
known_more None a b lines line known read some = tt
known_more (Some bytes) a b lines line known read some = more_of bytes known.0 a b lines line known.1 known.2 read some

-- no line is left
pub known_end : (known a b : Option (List ℕ)) (lines : List (List ℕ)) (line : List ℕ) → IfSome known (Known a lines) → Read a b line → length line ≡ 0
    → IfSome known (λ bytes. lines ≡ kept_lines bytes)
known_end None a b lines line known read empty = tt
known_end (Some bytes) a b lines line (left, is, same) read empty =
    let front = (subst (λ (o : Option (List ℕ)). Read o b line) is read).0 in
    let none : left ≡ [] = take_through-nil 10 left (omega (arith, empty, ap length front, length-take (most_line + 1) (take_through 10 left))) in
    sym (same ∙ ap (λ more. lines ++ kept_lines more) none ∙ append-nil lines)

pub known_first : (known a : Option (List ℕ)) (lines : List (List ℕ)) → IfSome known (Known a lines) → IfSome known (AreFirst kept_lines lines)
known_first None a lines known = tt
known_first (Some bytes) a lines known = (kept_lines known.0, known.2)
