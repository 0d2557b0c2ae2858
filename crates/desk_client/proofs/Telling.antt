-- A text that goes out in parts.
use Rattle.desk_client.proofs.Common.{Given, HasCause, HasSent, List, NoneFailed, SendsLine, ap, append_assoc, cause_behind, first_part, inl, inr, next_part, subst, sym, ℕ, ⊎_elim, ◌++◌, ◌∙◌, ◌≡◌}

-- its first part, or a beginning of that
pub stopped : (whole a b : List ℕ) (old new : Given) → whole ≡ a ++ b → HasSent a old new → HasCause old new → SendsLine whole old new
stopped whole a b old new is sent cause = subst (λ (l : List ℕ). SendsLine l old new) (sym is) (inr (first_part a b old new sent, cause))

-- its first part, and then what is behind it
pub gone_on : (whole a b : List ℕ) (old mid new : Given) → whole ≡ a ++ b → mid.bytes ≡ old.bytes ++ a → NoneFailed old mid → SendsLine b mid new → SendsLine whole old new
gone_on whole a b old mid new is first smooth more =
    subst (λ (l : List ℕ). SendsLine l old new) (sym is) (⊎_elim
    (λ (all : new.bytes ≡ mid.bytes ++ b). inl (all ∙ ap (λ (l : List ℕ). l ++ b) first ∙ append_assoc old.bytes a b))
    (λ (part : HasSent b mid new × HasCause mid new). inr (next_part a b old mid new first part.0, cause_behind old mid new smooth part.1)) more)
