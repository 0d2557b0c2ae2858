-- Words of verbs. What holds of each verb of the list holds of every verb.
use Rattle.desk_commands.proofs.Common.{Bool, List, Some, Verb, [], and_parts, ap, bytes_eq-true, cond, false, find, is_word, list_all, refl, sym, true, verb_called, verbs, word, ℕ, ◌∙◌, ◌∷◌, ◌≡◌}
use Rattle.desk_commands.specs.declared.verb.Verb.TheVariants as verb
use Rattle.desk_commands.proofs.Steps.{some_is}

-- each verb is called by its word, as the list computes
pub called_again : (v : Verb) → verb_called (word v) ≡ Some v
called_again verb.TakeIn = refl
called_again _ = refl

-- what is found passes the test
found_passes : (test : Verb → Bool) (vs : List Verb) (v : Verb) → find test vs ≡ Some v → test v ≡ true
found_passes test [] v h = cc h
found_passes test (u ∷ vs) v h = by (test u) refl (found_passes test vs v) h
  where
    by : (b : Bool) → test u ≡ b → (find test vs ≡ Some v → test v ≡ true) → cond b (Some u) (find test vs) ≡ Some v → test v ≡ true
    by true e more g = ap test (sym (some_is u v g)) ∙ e
    by false e more g = more g

pub called_is : (text : List ℕ) (v : Verb) → verb_called text ≡ Some v → word v ≡ text
called_is text v h = bytes_eq-true (word v) text (found_passes (is_word text) verbs v h)

holds_of : (test found : Verb → Bool) (vs : List Verb) (v : Verb) → list_all test vs ≡ true → find found vs ≡ Some v → test v ≡ true
holds_of test found [] v h e = cc e
holds_of test found (u ∷ vs) v h e = by (found u) refl (holds_of test found vs v (and_parts _ _ h).1) e
  where
    by : (b : Bool) → found u ≡ b → (find found vs ≡ Some v → test v ≡ true) → cond b (Some u) (find found vs) ≡ Some v → test v ≡ true
    by true is more g = ap test (sym (some_is u v g)) ∙ (and_parts _ _ h).0
    by false is more g = more g

pub of_every : (test : Verb → Bool) → list_all test verbs ≡ true → (v : Verb) → test v ≡ true
of_every test h v = holds_of test (is_word (word v)) verbs v h (called_again v)
