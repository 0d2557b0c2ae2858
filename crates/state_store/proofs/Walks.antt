-- One call after another, and rows that are walked.
use Rattle.state_store.proofs.Common.{Err, IfOk, List, Ok, Reads, ReadsAtRest, Result, Says, State, Storing, Survives, [], ap, get_or, length, map, mapped, take, ℕ, ◌++◌, ◌+◌, ◌<◌, ◌∙◌, ◌∷◌, ◌≡◌}

-- what is said of a value is said in other words
pub told_so : {X E : Type 0} (P Q : X → Type 0) (r : Result X E) → ((x : X) → P x → Q x) → IfOk r P → IfOk r Q
told_so P Q (Ok x) so h = so x h
told_so P Q (Err e) so h = tt

-- what is said without a read
pub unread : {K X E : Type 0} (k : Storing K) (a : K) (Is : State → X → Type 0) {x : X} → Says k a (λ s. Is s x) → Reads {E = E} k a a (Ok x) Is
unread k a Is so = record {
  value = so;
  same = λ x shows. shows;
  rests = λ s shows. shows;
  survives = record { clean = λ clean. clean; still = λ was _. was; sound = λ sound. sound; leaves = λ _ found finds. finds };
}

module _ {K : Type 0} (k : Storing K) (a b c : K) where
  pub survives_then : Survives k a b → Survives k b c → Survives k a c
  survives_then first second = record {
    clean = λ clean. first.clean (second.clean clean);
    still = λ was clean. second.still (first.still was (second.clean clean)) clean;
    sound = λ sound. first.sound (second.sound sound);
    leaves = λ sound found finds. first.leaves (second.sound sound) found (second.leaves sound found finds);
  }

  -- two reads, and what is said by both
  pub reads_then : {X Y Z E F G : Type 0} {P : State → X → Type 0} {Q : State → Y → Type 0} (R : State → Z → Type 0) {x : X} {y : Y} (z : Z)
      → Reads {E = E} k a b (Ok x) P → Reads {E = F} k b c (Ok y) Q → ((s : State) → P s x → Q s y → R s z) → Reads {E = G} k a c (Ok z) R
  reads_then R z first second so = record {
    value = λ x shows sound. so x.now (first.value x shows (second.survives.sound sound)) (second.value x (first.same x shows) sound);
    same = λ x shows. second.same x (first.same x shows);
    rests = λ s shows. second.rests s (first.rests s shows);
    survives = survives_then first.survives second.survives;
  }

  -- the same between two transactions, of what the second read returned
  pub rests_then : {X Y E F : Type 0} {P : State → X → Type 0} {Q : State → Y → Type 0} (R : State → Y → Type 0) {x : X} {r : Result Y F}
      → ReadsAtRest {E = E} k a b (Ok x) P → ReadsAtRest k b c r Q → ((s : State) → P s x → (y : Y) → Q s y → R s y) → ReadsAtRest k a c r R
  rests_then {Q = Q} R {r = r} first second so = record {
    value = λ s shows sound. told_so (Q s) (R s) r (so s (first.value s shows (second.survives.sound sound))) (second.value s (first.rests s shows) sound);
    rests = λ s shows. second.rests s (first.rests s shows);
    survives = survives_then first.survives second.survives;
  }

  -- one more row is read
  pub row_then : {X Y E F : Type 0} (f : State → X → Y) (xs : List X) (i : ℕ) (x : X) (ys zs : List Y) {y : Y} → i < length xs → x ≡ get_or xs i x
      → ReadsAtRest {E = E} k a b (Ok ys) (λ s rows. rows ≡ map (f s) (take i xs)) → ReadsAtRest {E = F} k b c (Ok y) (λ s row. row ≡ f s x) → zs ≡ ys ++ y ∷ []
      → ReadsAtRest {E = E} k a c (Ok zs) (λ s rows. rows ≡ map (f s) (take (i + 1) xs))
  row_then f xs i x ys zs lt read before row pushed = record {
    value = λ s shows sound. mapped (f s) xs ys zs i x lt read (before.value s shows (row.survives.sound sound)) (pushed ∙ ap (λ y. ys ++ y ∷ []) (row.value s (before.rests s shows) sound));
    rests = λ s shows. row.rests s (before.rests s shows);
    survives = survives_then before.survives row.survives;
  }
