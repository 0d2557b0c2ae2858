-- A text that is cut at its first slash.
use Rattle.imp_fields.proofs.Common.{Bool, List, [], ap, arith, cond-false, cond-true, drop, false, fields, is_slash, join_with_byte, join_with_byte-slice_split, length, not, onto_first, position_or_len, refl, slice_split_first, subst, sym, take, true, ℕ, ◌+◌, ◌<◌, ◌∙◌, ◌∷◌, ◌≡◌}

pub cut_at : (text : List ℕ) (place : ℕ) → place ≡ position_or_len is_slash text → place < length text → fields text ≡ take place text ∷ fields (drop (place + 1) text)
cut_at text place e lt =
    subst (λ k. fields text ≡ take k text ∷ fields (drop (k + 1) text)) (sym e)
    (slice_split_first is_slash text 0 (subst (λ k. k < length text) e lt))

pub uncut : (text : List ℕ) → position_or_len is_slash text ≡ length text → fields text ≡ text ∷ []
uncut [] e = refl
uncut (b ∷ text) e = at (is_slash b) refl (uncut text)
  where
    at : (slash : Bool) → is_slash b ≡ slash → (position_or_len is_slash text ≡ length text → fields text ≡ text ∷ []) → fields (b ∷ text) ≡ (b ∷ text) ∷ []
    at true h whole = absurd (let none : position_or_len is_slash (b ∷ text) ≡ 0 = cond-false _ _ _ (ap not h) in omega (arith, e, none))
    at false h whole =
        let more : position_or_len is_slash (b ∷ text) ≡ 1 + position_or_len is_slash text = cond-true _ _ _ (ap not h) in
        let rest = whole (omega (arith, e, more)) in
        cond-false _ _ _ h ∙ ap (onto_first b) rest

pub joined_again : (text first rest : List ℕ) → fields text ≡ first ∷ fields rest → join_with_byte 47 (drop 1 (fields text)) ≡ rest
joined_again text first rest e = ap (λ parts. join_with_byte 47 (drop 1 parts)) e ∙ join_with_byte-slice_split 47 rest
