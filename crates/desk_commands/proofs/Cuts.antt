-- A text that is cut at its first end of a line.
use Rattle.desk_commands.proofs.Common.{Bool, List, [], ap, arith, cond-false, cond-true, drop, false, is_end, length, lines_of, not, onto_first, position_or_len, refl, slice_split_first, subst, sym, take, true, ℕ, ◌+◌, ◌<◌, ◌∙◌, ◌∷◌, ◌≡◌}

pub cut_at : (text : List ℕ) (place : ℕ) → place ≡ position_or_len is_end text → place < length text → lines_of text ≡ take place text ∷ lines_of (drop (place + 1) text)
cut_at text place e lt =
    subst (λ k. lines_of text ≡ take k text ∷ lines_of (drop (k + 1) text)) (sym e)
    (slice_split_first is_end text 0 (subst (λ k. k < length text) e lt))

pub uncut : (text : List ℕ) → position_or_len is_end text ≡ length text → lines_of text ≡ text ∷ []
uncut [] e = refl
uncut (b ∷ text) e = at (is_end b) refl (uncut text)
  where
    at : (slash : Bool) → is_end b ≡ slash → (position_or_len is_end text ≡ length text → lines_of text ≡ text ∷ []) → lines_of (b ∷ text) ≡ (b ∷ text) ∷ []
    at true h whole = absurd (let none : position_or_len is_end (b ∷ text) ≡ 0 = cond-false _ _ _ (ap not h) in omega (arith, e, none))
    at false h whole =
        let more : position_or_len is_end (b ∷ text) ≡ 1 + position_or_len is_end text = cond-true _ _ _ (ap not h) in
        let rest = whole (omega (arith, e, more)) in
        cond-false _ _ _ h ∙ ap (onto_first b) rest
