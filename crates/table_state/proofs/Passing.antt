-- What rows of tables do to the sink that they are handed on to.
use Rattle.table_state.proofs.Common.{Bool, Err, HandedOut, Hands, HandsIfOpen, HandsOf, HandsOut, IsErr, IsOk, KnownCounts, Knows, List, Means, Ok, OnOk, Result, Shows, Some, State, TableState, Tables, View, [], ap, at_rest, false, in_tables, inl, inr, length, map, refl, subst, subst₂, suc, sym, take, take-length, take-map, true, zero, ℕ, ◌∙◌, ◌∷◌, ◌≡◌, ◌⊎◌}
use Rattle.station_schema.specs.Store as row
use Rattle.station_rows.specs.Shown as rows
use Rattle.table_state.specs.Shown as shown
use Rattle.table_state.proofs.Lifting.{rests_on, seen_in, survives_so}
use Rattle.table_state.specs.Handing.{Tells}
use Rattle.table_state.specs.declared.handing.Telling.{Telling}

take_twice : {X : Type 0} (m n : ℕ) (xs : List X) → (k : ℕ) × (take m (take n xs) ≡ take k xs)
take_twice zero n xs = (0, refl)
take_twice (suc m) zero xs = (0, refl)
take_twice (suc m) (suc n) [] = (0, refl)
take_twice (suc m) (suc n) (x ∷ xs) = let more = take_twice m n xs in (suc more.0, ap (λ l. x ∷ l) more.1)

-- so many of the first rows were handed on, and no further one can be told
pub record IsStuck {K V : Type 0} (takes : K → V → Bool → K → Type 0) (values : List V) (from to : Telling K) : Type 0 where
  pub stuck : to.stuck ≡ true
  pub count : ℕ
  pub handed : HandedOut takes (take count values) from.sink.now to.sink.now

module _ {K V X : Type 0} (takes : K → V → Bool → K → Type 0) (value : X → V) (raw : Telling K → X → Bool → Telling K → Type 0)
    (step : (old : Telling K) (x : X) (go : Bool) (new : Telling K) → raw old x go new → Tells takes (value x) old go new) where
  abbrev On : List X → Telling K → Telling K → Type 0
  On xs from to = (to.sink.ghost_name ≡ from.sink.ghost_name) × (((to.stuck ≡ from.stuck) × HandedOut takes (map value xs) from.sink.now to.sink.now) ⊎ IsStuck takes (map value xs) from to)

  go_on : (x : X) (xs : List X) (from mid to : Telling K) → Tells takes (value x) from true mid → On xs mid to → On (x ∷ xs) from to
  go_on x xs from mid to (name, inl (took, same)) (later, inl (still, handed)) = (later ∙ name, inl (still ∙ same, (true, mid.sink.now, took, handed)))
  go_on x xs from mid to (name, inl (took, same)) (later, inr stuck) = (later ∙ name, inr (record { stuck = stuck.stuck; count = suc stuck.count; handed = (true, mid.sink.now, took, stuck.handed) }))
  go_on x xs from mid to (name, inr (ends, same, stuck)) later = absurd (cc)

  stop : (x : X) (xs : List X) (from mid to : Telling K) → Tells takes (value x) from false mid → to ≡ mid → On (x ∷ xs) from to
  stop x xs from mid to (name, inl (took, same)) end = (
    ap (λ (t : Telling K). t.sink.ghost_name) end ∙ name,
    inl (ap (λ (t : Telling K). t.stuck) end ∙ same, (false, mid.sink.now, took, ap (λ (t : Telling K). t.sink.now) end)),
  )
  stop x xs from mid to (name, inr (ends, same, stuck)) end = (
    ap (λ (t : Telling K). t.sink.ghost_name) end ∙ name,
    inr (record { stuck = ap (λ (t : Telling K). t.stuck) end ∙ stuck; count = 0; handed = ap (λ (t : Telling K). t.sink.now) end ∙ same }),
  )

  pub handed_on : (xs : List X) (from to : Telling K) → HandedOut raw xs from to → On xs from to
  handed_on [] from to end = (ap (λ (t : Telling K). t.sink.ghost_name) end, inl (ap (λ (t : Telling K). t.stuck) end, ap (λ (t : Telling K). t.sink.now) end))
  handed_on (x ∷ xs) from to (true, mid, took, rest) = go_on x xs from mid to (step from x true mid took) (handed_on xs mid to rest)
  handed_on (x ∷ xs) from to (false, mid, took, rest) = stop x xs from mid to (step from x false mid took) rest

  -- whatever rows were handed out, some were handed on
  pub some_told : (xs : List X) (from to : Telling K) → HandedOut raw xs from to → (to.sink.ghost_name ≡ from.sink.ghost_name) × (values : List V) × HandedOut takes values from.sink.now to.sink.now
  some_told xs from to handed = go (handed_on xs from to handed)
    where
      go : On xs from to → (to.sink.ghost_name ≡ from.sink.ghost_name) × (values : List V) × HandedOut takes values from.sink.now to.sink.now
      go (name, inl (still, all)) = (name, map value xs, all)
      go (name, inr stuck) = (name, take stuck.count (map value xs), stuck.handed)

  -- all of them, where each could be told
  all_told : (xs : List X) (from to : Telling K) → to.stuck ≡ false → On xs from to → HandedOut takes (map value xs) from.sink.now to.sink.now
  all_told xs from to well (name, inl (still, all)) = all
  all_told xs from to well (name, inr stuck) = absurd (let e = sym stuck.stuck ∙ well in cc)

  first_told : (xs : List X) (from to : Telling K) → On xs from to → (n : ℕ) × HandedOut takes (take n (map value xs)) from.sink.now to.sink.now
  first_told xs from to (name, inl (still, all)) = (length (map value xs), subst (λ l. HandedOut takes l from.sink.now to.sink.now) (sym (take-length (map value xs))) all)
  first_told xs from to (name, inr stuck) = (stuck.count, stuck.handed)

  first_of : (n : ℕ) (xs : List X) (from to : Telling K) → On (take n xs) from to → (k : ℕ) × HandedOut takes (take k (map value xs)) from.sink.now to.sink.now
  first_of n xs from to on =
      let part = first_told (take n xs) from to on in
      let same = take_twice part.0 n (map value xs) in
      (same.0, subst (λ l. HandedOut takes l from.sink.now to.sink.now) (ap (take part.0) (sym (take-map value n xs)) ∙ same.1) part.1)

  pub hands_on : {E F : Type 0} (xs : List X) (from to : Telling K) (r : Result (Unit {0}) E) → Hands raw xs from to r → (r' : Result (Unit {0}) F) → OnOk r' (IsOk r × (to.stuck ≡ false)) → Hands takes (map value xs) from.sink.now to.sink.now r'
  hands_on xs from to (Ok x) handed (Ok y) well = all_told xs from to well.1 (handed_on xs from to handed)
  hands_on xs from to (Err e) handed (Ok y) well = absurd (let no : false ≡ true = well.0 in cc)
  hands_on xs from to (Ok x) handed (Err f) well = first_told xs from to (handed_on xs from to handed)
  hands_on xs from to (Err e) (n, handed) (Err f) well = first_of n xs from to (handed_on (take n xs) from to handed)

not_both : {A E : Type 0} (r : Result A E) → IsOk r → ¬ IsErr r
not_both (Ok x) ok err = let no : false ≡ true = err in cc
not_both (Err e) ok err = let no : false ≡ true = ok in cc

-- of a store that shows a state, what a reader is given of it
module _ {K V X E F : Type 0} (takes : K → V → Bool → K → Type 0) (value : X → V) (raw : Telling K → X → Bool → Telling K → Type 0)
    (step : (old : Telling K) (x : X) (go : Bool) (new : Telling K) → raw old x go new → Tells takes (value x) old go new)
    (old new : View) (here : List ℕ) (counted : KnownCounts) (confirmed : ℕ) (s : State) (was : Shows old here counted confirmed (at_rest s)) (survives : row.Survives old new)
    (rows : Tables → List X) (all : List V) (are : Means old.now (Some s) → Knows here counted.sizes confirmed (at_rest s) → map value (rows old.now) ≡ all) (from to : Telling K) (r : Result (Unit {0}) E)
    (hands : HandsOf old new r raw rows from to) (shut : HandsIfOpen old new r from to) where
  pub given_on : (r' : Result (Unit {0}) F) → OnOk r' (IsOk r × (to.stuck ≡ false)) → new.IsSound → Hands takes all from.sink.now to.sink.now r'
  given_on r' well sound = elim (shut sound) [
    | inl up ↦
        let k = was (survives.sound sound) in
        subst (λ l. Hands takes l from.sink.now to.sink.now r') (are (k.holds.stands up).now k.knows)
        (hands_on takes value raw step (rows old.now) from to r (hands (seen_in old) (λ _. record { is_open = up; now_is = refl; committed_is = refl; mode = refl }) sound) r' well)
    | inr none ↦ nothing r' well none
  ]
    where
      nothing : (r' : Result (Unit {0}) F) → OnOk r' (IsOk r × (to.stuck ≡ false)) → IsErr r × (to ≡ from) → Hands takes all from.sink.now to.sink.now r'
      nothing (Ok x) well none = absurd (not_both r well.0 none.0)
      nothing (Err f) well none = (0, ap (λ (t : Telling K). t.sink.now) none.1)

-- what a reader is given of a state in tables, by rows that its store handed on
module _ {S K V X T E F : Type 0} (view : S → View) (old : TableState S) (store : S) (takes : K → V → Bool → K → Type 0) (meant : T → X) (value : X → V) (listing : Tables → List X) (listed : State → List V)
    (are : (s : State) → Means (view old.store).now (Some s) → shown.Tells (view old.store) old.here old.counted old.confirmed (at_rest s) → map value (listing (view old.store).now) ≡ listed s) where
  pub handed_so : (from to : Telling K) (start end : K) {r : Result (Unit {0}) E} (r' : Result (Unit {0}) F)
      → rows.HandsOut (view old.store) (view store) r (λ x row. meant row ≡ x) (λ o row go n. Tells takes (value (meant row)) o go n) listing from to
      → OnOk r' (IsOk r × (to.stuck ≡ false)) → from.sink.now ≡ start → (to.sink.ghost_name ≡ from.sink.ghost_name → to.sink.now ≡ end)
      → HandsOut (in_tables view) old (record old { store = store }) r' takes listed start end
  handed_so from to start end {r} r' hands well starts ends =
      let told = some_told takes (λ row. value (meant row)) _ (λ o x go n h. h) _ from to hands.took.1 in
      record {
        rows = λ s shown sound. subst₂ (λ a b. Hands takes (listed s) a b r') starts (ends told.0)
            (given_on takes value _ (λ o x go n h. subst (λ l. Tells takes (value l) o go n) h.1 h.2) (view old.store) (view store) old.here old.counted old.confirmed s shown hands.survives listing (listed s)
            (λ means knows. are s means (shown (hands.survives.sound sound))) from to r hands.hands hands.shut r' well sound);
        took = (told.1, subst₂ (λ a b. HandedOut takes told.1 a b) starts (ends told.0) told.2);
        rests = λ s shown. rests_on (view old.store) (view store) old.here old.counted old.confirmed s shown hands.survives hands.rests;
        survives = survives_so view old (record old { store = store }) hands.survives;
      }
