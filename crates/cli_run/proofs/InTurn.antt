-- One item more, and one input more.
use Rattle.cli_run.proofs.Common.{AreAnswered, AreFirst, AreMade, Bool, Err, HasEndedAt, HaveBeenAnswered, HaveBeenMade, IfSome, IsErrAnd, List, None, Ok, Option, Result, RunFault, Some, [], ap, append-nil, arith, false, inl, inr, length, refl, subst, suc, sym, told_by, true, ℕ, ◌&&◌, ◌++◌, ◌+◌, ◌<◌, ◌∙◌, ◌∷◌, ◌≡◌}
use Rattle.cli_run.specs.declared.telling.RunFault.TheVariants as fault

and_true : (b : Bool) → (b && true) ≡ b
and_true true = refl
and_true false = refl

and_assoc : (a b c : Bool) → ((a && b) && c) ≡ (a && (b && c))
and_assoc true b c = refl
and_assoc false b c = refl

none_more : (n : ℕ) → n + 0 ≡ n
none_more n = omega arith

one_more : {A : Type 0} (n : ℕ) (item : A) (items : List A) → n + length (item ∷ items) ≡ (n + 1) + length items
one_more n item items = omega arith

pub length_more : {A : Type 0} (items : List A) (item : A) → length (items ++ item ∷ []) ≡ length items + 1
length_more [] item = refl
length_more (i ∷ items) item = let more = length_more items item in omega (arith, more)

module _ {A C : Type 0} (Step : ℕ → A → C → C → Result Bool RunFault → Type 0) where
  pub answered_more : (number : ℕ) (items : List A) (item : A) (old mid new : C) (good one : Bool)
      → AreAnswered Step number items old mid good → Step (number + length items) item mid new (Ok one) → AreAnswered Step number (items ++ item ∷ []) old new (good && one)
  answered_more number [] item old mid new good one answered step =
      let here : Step number item mid new (Ok one) = subst (λ (k : ℕ). Step k item mid new (Ok one)) (none_more number) step in
      let there : Step number item old new (Ok one) = subst (λ (from : C). Step number item from new (Ok one)) answered.0 here in
      (new, (one, true, there, (refl, refl), ap (λ b. b && one) answered.1 ∙ sym (and_true one)))
  answered_more number (i ∷ items) item old mid new good one answered step =
      let first : Bool = answered.1.0 in
      let rest : Bool = answered.1.1 in
      let here : Step ((number + 1) + length items) item mid new (Ok one) = subst (λ (k : ℕ). Step k item mid new (Ok one)) (one_more number i items) step in (
        answered.0,
        (
          first,
          rest && one,
          answered.1.2,
          answered_more (number + 1) items item answered.0 mid new rest one answered.1.3 here,
          ap (λ b. b && one) answered.1.4 ∙ and_assoc first rest one,
        ),
      )

  module _ (items_of : List ℕ → List A) (left : Option (List ℕ)) (old new : C) where
    -- an item's fault that is passed on
    pub passed_items : (r : Result Bool RunFault) (e : RunFault) → IsErrAnd r (λ x. x ≡ e)
        → HaveBeenAnswered items_of Step left old new (Err e) → HaveBeenAnswered items_of Step left old new r
    passed_items (Ok x) e same run = absurd same
    passed_items (Err x) e same run = subst (λ (f : RunFault). HaveBeenAnswered items_of Step left old new (Err f)) (sym same) run

-- all the items are the first ones, and so is none of them
all_first : {A : Type 0} (items_of : List ℕ → List A) (items : List A) (left : Option (List ℕ)) → IfSome left (λ bytes. items ≡ items_of bytes) → IfSome left (AreFirst items_of items)
all_first items_of items None all = tt
all_first items_of items (Some bytes) all = ([], sym all ∙ sym (append-nil items))

pub none_first : {A : Type 0} (items_of : List ℕ → List A) (left : Option (List ℕ)) → IfSome left (AreFirst items_of [])
none_first items_of None = tt
none_first items_of (Some bytes) = (items_of bytes, refl)

-- a run that is told once it is known whether its reader has failed
module _ {A C : Type 0} (Step : ℕ → A → C → C → Result Bool RunFault → Type 0) where
  memory_at : (items : List A) (next : Option A) (old new : C) → HasEndedAt Step items next old new fault.Read → HasEndedAt Step items next old new fault.Memory
  memory_at items None old new ended = (inr refl, ended.1)
  memory_at items (Some item) old new ended = absurd (ended.0 refl)

  pub told_items : (items_of : List ℕ → List A) (left : Option (List ℕ)) (old new : C) (ended : Result Bool RunFault) (failed : Bool)
      → HaveBeenAnswered items_of Step left old new ended → HaveBeenAnswered items_of Step left old new (told_by ended failed)
  told_items items_of left old new (Ok good) true run = (run.0, (None, all_first items_of run.0 left run.1, (inl refl, (good, run.2))))
  told_items items_of left old new (Ok good) false run = run
  told_items items_of left old new (Err fault.Read) true run = run
  told_items items_of left old new (Err fault.Read) false run = (run.0, (run.1.0, run.1.1, memory_at run.0 run.1.0 old new run.1.2))
  told_items items_of left old new (Err _) failed run = run

-- one input more

next_is : (n : ℕ) → suc n ≡ n + 1
next_is n = omega arith

pub made_more : {C : Type 0} (Step : C → C → Result Bool RunFault → Type 0) (n : ℕ) (old mid new : C) (good one : Bool)
    → AreMade Step n old mid good → Step mid new (Ok one) → AreMade Step (n + 1) old new (good && one)
made_more {C} Step n old mid new good one made step =
    subst (λ (k : ℕ). AreMade Step k old new (good && one)) (next_is n) (mid, (good, one, made, step, refl))

-- the step that ended the call
pub made_until : {C : Type 0} (Step : C → C → Result Bool RunFault → Type 0) (n count : ℕ) (old mid new : C) (good : Bool) (r : Result Bool RunFault) (e : RunFault)
    → IsErrAnd r (λ x. x ≡ e) → n < count → AreMade Step n old mid good → Step mid new (Err e) → HaveBeenMade Step count old new r
made_until {C} Step n count old mid new good (Ok x) e same few made step = absurd same
made_until {C} Step n count old mid new good (Err x) e same few made step =
    (n, few, (mid, (good, made, subst (λ (f : RunFault). Step mid new (Err f)) (sym same) step)))
