-- Every verb: its word, and its row.
use Rattle.desk_commands.proofs.Common.{Command, Field, FieldValue, IsCommand, List, Verb, [], ap, arith, leb-true, length, map, nat_le, places, places_of, refl, row, slice_get, suc, true, values_of, verb_of, word, ◌∷◌, ◌≡◌, ◌≤◌}
use Rattle.desk_commands.proofs.EachVerb.{fits}
use Rattle.desk_commands.proofs.Fit.{AreFit}
use Rattle.desk_commands.proofs.Free.{free}
use Rattle.desk_commands.proofs.Words.{of_every}

pub free_word : (v : Verb) → free (word v) ≡ true
free_word v = of_every (λ v. free (word v)) refl v

-- ---- rows of at most six fields

pub row_short : (v : Verb) → length (row v) ≤ 6
row_short v = leb-true _ _ (of_every (λ v. nat_le (length (row v)) 6) refl v)

same_length : (fs : List Field) (gs : List FieldValue) → AreFit fs gs → length gs ≡ length fs
same_length [] [] h = refl
same_length (f ∷ fs) (g ∷ gs) h = ap suc (same_length fs gs h.1)
same_length _ _ h = absurd h

pub values_short : (c : Command) → IsCommand c → length (values_of c) ≤ 6
values_short c h = omega (arith, same_length (row (verb_of c)) (values_of c) (fits c h), row_short (verb_of c))

first_six : {A : Type 0} (xs : List A) → map (slice_get xs) (0 ∷ 1 ∷ 2 ∷ 3 ∷ 4 ∷ 5 ∷ []) ≡ places_of 6 xs
first_six [] = refl
first_six (a ∷ []) = refl
first_six (a ∷ b ∷ []) = refl
first_six (a ∷ b ∷ c ∷ []) = refl
first_six (a ∷ b ∷ c ∷ d ∷ []) = refl
first_six (a ∷ b ∷ c ∷ d ∷ e ∷ []) = refl
first_six (a ∷ b ∷ c ∷ d ∷ e ∷ f ∷ xs) = refl

pub places_are : (v : Verb) → places v ≡ places_of 6 (row v)
places_are v = first_six (row v)
