-- Sums of one flight stand next to one another, so that they are counted in one pass.
use Rattle.table_audits.proofs.Common.{AllByRecursion, Bool, BuildPlace, IsAscending, IsTrue, Less, List, Tally, [], all_weaker, and_from, and_parts, ap, arith, build_place_cmp, cond, false, keys_of, le-leb, leb-true, length, nat_le, nat_tests, on_flight, refl, sym, true, true≢false, ℕ, ◌&&◌, ◌+◌, ◌<◌, ◌==◌, ◌↔◌, ◌∙◌, ◌∷◌, ◌≡◌, ◌≢◌, ◌≤◌}
use Rattle.std.specs.List.Sorted.{IsStrictlySortedBy}

-- the length of a run of sums of one flight, one sum on
abbrev pub on_run : ℕ → ℕ → ℕ → ℕ
on_run last run flight = cond (flight == last) (run + 1) 1

pub run_on : (last run flight now : ℕ) → flight ≡ last → now ≡ run + 1 → now ≡ on_run last run flight
run_on last run flight now h is = grind (arith, nat_tests)

pub new_run : (last run flight now : ℕ) → flight ≢ last → now ≡ 1 → now ≡ on_run last run flight
new_run last run flight now h is = grind (arith, nat_tests)

-- whether no run is longer than 500
abbrev pub runs_fit : ℕ → ℕ → List (BuildPlace × Tally) → Bool
runs_fit last run [] = true
runs_fit last run (e ∷ es) = nat_le (on_run last run e.0.flight) 500 && runs_fit e.0.flight (on_run last run e.0.flight) es

-- what of a run stands behind
abbrev pub carried : ℕ → ℕ → ℕ → ℕ
carried last run i = cond (i == last) run 0

-- ---- how many sums are on a flight

counted : (i : ℕ) (e : BuildPlace × Tally) (es : List (BuildPlace × Tally)) → length (on_flight i (e ∷ es)) ≡ length (on_flight i es) + cond (e.0.flight == i) 1 0
counted i e es = elim (e.0.flight == i) as (λ b. length (cond b (e ∷ on_flight i es) (on_flight i es)) ≡ length (on_flight i es) + cond b 1 0) [ true ↦ omega arith | false ↦ omega arith ]

none_on : (i : ℕ) (es : List (BuildPlace × Tally)) → AllByRecursion (λ (d : BuildPlace × Tally). i < d.0.flight) es → length (on_flight i es) ≡ 0
none_on i [] all = refl
none_on i (e ∷ es) all = let above = all.0 in grind (arith, nat_tests, counted i e es, none_on i es all.1)

abbrev AllFit : ℕ → ℕ → List (BuildPlace × Tally) → Type 0
AllFit last run es = (i : ℕ) → length (on_flight i es) + carried last run i ≤ 500

-- one sum on, of the same flight or of a later one
module _ (last run : ℕ) (fits : run ≤ 500) (e : BuildPlace × Tally) (es : List (BuildPlace × Tally))
    (low : last ≤ e.0.flight) (up : AllByRecursion (λ (d : BuildPlace × Tally). e.0.flight ≤ d.0.flight) es) where
  there : AllFit e.0.flight (on_run last run e.0.flight) es → AllFit last run (e ∷ es)
  there all i =
      let none : i < e.0.flight → length (on_flight i es) ≡ 0 = λ h.
      none_on i es (all_weaker (λ (d : BuildPlace × Tally). e.0.flight ≤ d.0.flight) (λ (d : BuildPlace × Tally). i < d.0.flight) (λ d k. omega (arith, h, k)) es up) in
      grind (arith, nat_tests, counted i e es, all i, none)

  back : AllFit last run (e ∷ es) → AllFit e.0.flight (on_run last run e.0.flight) es
  back all i = grind (arith, nat_tests, counted i e es, all i)

  small : AllFit last run (e ∷ es) → on_run last run e.0.flight ≤ 500
  small all = grind (arith, nat_tests, counted e.0.flight e es, all e.0.flight)

abbrev IsByFlight : List (BuildPlace × Tally) → Type 0
IsByFlight = IsAscending (λ (a b : BuildPlace × Tally). a.0.flight ≤ b.0.flight)

runs_are : (last run : ℕ) (es : List (BuildPlace × Tally)) → AllByRecursion (λ (e : BuildPlace × Tally). last ≤ e.0.flight) es → IsByFlight es → run ≤ 500
    → (runs_fit last run es ≡ true) ↔ AllFit last run es
runs_are last run [] low up fits = (λ h i. grind arith, λ h. refl)
runs_are last run (e ∷ es) low up fits =
    let now = on_run last run e.0.flight in
    let rest = runs_are e.0.flight now es up.0 up.1 in (
      λ h.
          let two = and_parts (nat_le now 500) (runs_fit e.0.flight now es) h in
          there last run fits e es low.0 up.0 ((rest (leb-true now 500 two.0)).0 two.1),
      λ all.
          let short = small last run fits e es low.0 up.0 all in
          and_from (nat_le now 500) (runs_fit e.0.flight now es) (le-leb now 500 short) ((rest short).1 (back last run fits e es low.0 up.0 all)),
    )

-- ---- sums in the order of their keys

by_flight : (a b : BuildPlace) → build_place_cmp a b ≡ Less → a.flight ≤ b.flight
by_flight a b less = grind (arith, nat_tests)

pub of_keys : {K V : Type 0} (P Q : K → Type 0) (es : List (K × V)) → ((k : K) → P k → Q k) → AllByRecursion P (keys_of es) → AllByRecursion (λ (e : K × V). Q e.0) es
of_keys P Q [] f all = tt
of_keys P Q (e ∷ es) f all = (f e.0 all.0, of_keys P Q es f all.1)

rises : (es : List (BuildPlace × Tally)) → IsStrictlySortedBy build_place_cmp (keys_of es) → IsByFlight es
unfolding IsStrictlySortedBy
rises [] up = tt
rises (e ∷ es) up = (of_keys (λ q. build_place_cmp e.0 q ≡ Less) (λ q. e.0.flight ≤ q.flight) es (λ q h. by_flight e.0 q h) up.0, rises es up.1)

each_natural : (es : List (BuildPlace × Tally)) → AllByRecursion (λ (e : BuildPlace × Tally). 0 ≤ e.0.flight) es
each_natural [] = tt
each_natural (e ∷ es) = (omega arith, each_natural es)

-- no run is longer than 500 where no more are on any flight
pub runs_kept : (es : List (BuildPlace × Tally)) → IsStrictlySortedBy build_place_cmp (keys_of es) → IsTrue (runs_fit 0 0 es) ↔ ((i : ℕ) → length (on_flight i es) ≤ 500)
runs_kept es up =
    let both = runs_are 0 0 es (each_natural es) (rises es up) (omega arith) in (
      λ h i. let a = both.0 h i in omega (arith, a),
      λ all. both.1 (λ i. let a = all i in let b = nothing_carried i in omega (arith, a, b)),
    )
  where
    nothing_carried : (i : ℕ) → carried 0 0 i ≡ 0
    nothing_carried i = grind arith

-- ---- the pass

module _ (es : List (BuildPlace × Tally)) (up : IsStrictlySortedBy build_place_cmp (keys_of es)) (last run : ℕ) (ahead : List (BuildPlace × Tally)) (was : runs_fit 0 0 es ≡ runs_fit last run ahead) where
  pub all_kept : ahead ≡ [] → IsTrue true ↔ ((i : ℕ) → length (on_flight i es) ≤ 500)
  all_kept none = (λ h. (runs_kept es up).0 (was ∙ ap (runs_fit last run) none), λ h. refl)

  pub one_broken : (e : BuildPlace × Tally) (rest : List (BuildPlace × Tally)) (now : ℕ) → ahead ≡ e ∷ rest → now ≡ on_run last run e.0.flight → 500 < now → IsTrue false ↔ ((i : ℕ) → length (on_flight i es) ≤ 500)
  one_broken e rest now first is long = (
    λ h. absurd (true≢false (sym h)),
    λ all. absurd (too_long ((runs_kept es up).1 all)),
  )
    where
      too_long : runs_fit 0 0 es ≡ true → ⊥
      too_long h =
          let fits = and_parts (nat_le (on_run last run e.0.flight) 500) (runs_fit e.0.flight (on_run last run e.0.flight) rest) (sym (was ∙ ap (runs_fit last run) first) ∙ h) in
          let short : on_run last run e.0.flight ≤ 500 = leb-true (on_run last run e.0.flight) 500 fits.0 in
          omega (arith, is, long, short)
