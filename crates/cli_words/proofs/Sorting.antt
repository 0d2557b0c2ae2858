-- Options at the start of words, one after another.
use Rattle.std.proofs.Common.{IfSome, List, None, Option, Some, [], ap, inl, inr, map, refl, subst, sym, ℕ, ◌++◌, ◌∙◌, ◌∷◌, ◌≡◌}
use Rattle.std.specs.List.{IsFirstAndRest}
use Rattle.cli_words.specs.Sorted.{BeginsWith, IsGiven, OptionTexts}

pub some_more : {A : Type 0} (found : Option A) (P Q : A → Type 0) → ((x : A) → P x → Q x) → IfSome found P → IfSome found Q
some_more None P Q more is = is
some_more (Some x) P Q more is = more x is

here : (o : OptionTexts) (word : List ℕ) (rest : List (List ℕ)) → BeginsWith o (word ∷ rest) o word
here o word [] = (refl, refl)
here o word (next ∷ rest) = inl (refl, refl)

joined : (o mid new : OptionTexts) (name value command word : List ℕ) (rest : List (List ℕ)) → word ≡ name ++ 61 ∷ value → IsGiven o name value mid
    → BeginsWith mid rest new command → BeginsWith o (word ∷ rest) new command
joined o mid new name value command word [] is given begins = absurd begins
joined o mid new name value command word (next ∷ rest) is given begins = inr (inl (name, value, mid, is, given, begins))

module _ {A : Type 0} (text : A → List ℕ) where
  -- the first word is the command's name
  pub command_first : (o : OptionTexts) (words rest : List A) (first : A) (command : List ℕ) → IsFirstAndRest words first rest → command ≡ text first
      → BeginsWith o (map text words) o command
  command_first o words rest first command split is =
      subst (λ (all : List A). BeginsWith o (map text all) o command) (sym split.0)
      (subst (λ (name : List ℕ). BeginsWith o (text first ∷ map text rest) o name) (sym is) (here o (text first) (map text rest)))

  -- the first word is an option and its value
  pub joined_first : (o mid new : OptionTexts) (words rest : List A) (first : A) (name value command word : List ℕ) → IsFirstAndRest words first rest → word ≡ text first
      → word ≡ name ++ 61 ∷ value → IsGiven o name value mid → BeginsWith mid (map text rest) new command → BeginsWith o (map text words) new command
  joined_first o mid new words rest first name value command word split is cut given begins =
      subst (λ (all : List A). BeginsWith o (map text all) new command) (sym split.0)
      (joined o mid new name value command (text first) (map text rest) (sym is ∙ cut) given begins)

  -- the first word is an option, the second one its value
  pub apart_first : (o mid new : OptionTexts) (words behind rest : List A) (first second : A) (command word value : List ℕ) → IsFirstAndRest words first behind
      → IsFirstAndRest behind second rest → word ≡ text first → value ≡ text second → IsGiven o word value mid → BeginsWith mid (map text rest) new command
      → BeginsWith o (map text words) new command
  apart_first o mid new words behind rest first second command word value split next is told given begins =
      subst (λ (all : List A). BeginsWith o (map text all) new command) (sym (split.0 ∙ ap (λ (left : List A). first ∷ left) next.0))
      (inr (inr (mid, subst (λ (v : List ℕ). IsGiven o (text first) v mid) told (subst (λ (n : List ℕ). IsGiven o n value mid) is given), begins)))
