-- The balances of a station are lawful exactly where each sum is, and no flight has more than 500
-- of them.
use Rattle.table_audits.proofs.Common.{AllByRecursion, AreBalances, AreFlightsOf, AreSums, BookSums, Bool, Build, BuildPlace, Built, Count, CountPlace, Flight, FlightDate, FlightKey, Hand, IsAntisymmetric, IsCovered, IsStocked, IsStrictlySortedBy, IsTotalOrder, List, Move, None, Option, Ordering, Place, Some, Surplus, Tables, Tally, [], all_from_test, and_from, and_parts, ap, ap₂, arith, book_in, build_due, build_place_cmp, build_row, built, bytes_cmp, cond, count_here, count_in, count_place_cmp, count_row, drawn_at, drawn_by, each_entry, entries, eq_by_cmp, false, flight_cmp, flight_key, flights_in, get, get-entries, inl, inr, int_cmp, int_cmp-IsAntisymmetric, int_cmp_total, int_eq, int_lt, is_at, is_built, is_closed, is_covered, is_designator, is_eq, is_false, is_lawful_build, is_lawful_count, is_left, is_open, is_outside, is_set, is_tied, keys_of, length, list_all, lookup, map, nat_cmp, nat_cmp-IsAntisymmetric, nat_lt, negsuc, none_is, not, on_flight, on_total, option_map, outbound_by, pair_same, pair_total, place_code, plain_place, pos, refl, running, running_in, same-is, same_key, slice_get, some_is, subst, suc, sym, taken_and_found, test_from_all, texts_total, then_total, true, true≢false, unless_nothing, waybills_on, ℕ, ℤ, ◌&&◌, ◌||◌, ◌∙◌, ◌∷◌, ◌≡◌, ◌≢◌, ◌≤◌, ◌⊎◌}
use Rattle.std.proofs.lemmas.Option.{slice_get-map}
use Rattle.sqlite_keyed.proofs.ListLemmas.{all-slice_get}
use Rattle.std.specs.FinMap.{find}
use Rattle.shipment_machine.specs.Book.{plus, fits}
use Rattle.row_codec.proofs.Codes as codes
use Rattle.table_audits.specs.Moves.{is_within}
use Rattle.table_audits.proofs.Sorted.{each_looked_up}
use Rattle.table_audits.proofs.Mapped.{index_of, listed}
use Rattle.table_audits.proofs.Made.{distinct, build_places_total}
use Rattle.table_audits.proofs.Stocked.{row_tally, stocked_even, told_even, told_stocked, stocked_told, told_covered, covered_told, told_drawn, built_none, built_some}
use Rattle.table_audits.proofs.Aboard.{told, told_on, on_listed, on_unlisted, nothing_on}

-- what the passes over the sums find
pub record IsAudited (rows : List (FlightKey × Flight)) (sums : BookSums) : Type 0 where
  pub counts : list_all (is_lawful_count sums) sums.counts.entries ≡ true
  pub builds : list_all (is_lawful_build rows) sums.builds.entries ≡ true
  pub room : (i : ℕ) → length (on_flight i sums.builds.entries) ≤ 500

-- ---- what is found under a key

looked_up : {K V : Type 0} (R : K → K → Ordering) → IsAntisymmetric R → (P : K × V → Type 0) (es : List (K × V)) → AllByRecursion P es → (q : K) (v : V) → lookup (is_at (R q)) es ≡ Some v → P (q, v)
looked_up R same P [] all q v h = absurd (true≢false (sym (none_is v h)))
looked_up R same P (e ∷ es) all q v h = elim (is_eq (R q e.0)) as (λ b. is_eq (R q e.0) ≡ b → cond b (Some e.1) (lookup (is_at (R q)) es) ≡ Some v → P (q, v)) [
  | true ↦ λ is has. subst P (ap₂ (λ k x. (k, x)) (sym (same q e.0 (is_tied (R q e.0) is))) (some_is e.1 v has)) all.0
  | false ↦ λ is has. looked_up R same P es all.1 q v has
] refl h

count_same : IsAntisymmetric count_place_cmp
count_same a b h =
    let p = pair_same int_cmp int_cmp int_cmp-IsAntisymmetric int_cmp-IsAntisymmetric (a.awb, a.place) (b.awb, b.place) h in
    λ i. record { awb = (p i).0; place = (p i).1 }

build_same : IsAntisymmetric build_place_cmp
build_same a b h =
    let p = pair_same nat_cmp int_cmp nat_cmp-IsAntisymmetric int_cmp-IsAntisymmetric (a.flight, a.awb) (b.flight, b.awb) h in
    λ i. record { flight = (p i).0; awb = (p i).1 }

count_places_total : IsTotalOrder count_place_cmp
count_places_total = then_total (on_total (λ (p : CountPlace). p.awb) int_cmp_total) (on_total (λ (p : CountPlace). p.place) int_cmp_total)

-- ---- places

high_code : (p : Place) → is_outside p ≡ false → is_built p ≡ false → int_lt (pos (place_code p)) (pos 2) ≡ false
high_code Hand h k = absurd (true≢false h)
high_code Surplus h k = absurd (true≢false h)
high_code (Built f) h k = absurd (true≢false k)
high_code _ h k = refl

-- ---- rows of `flight`

closed_row : (b : Bool) (o : Option Flight) → is_closed (cond b (option_map outbound_by o) None) ≡ true → (b ≡ true) × (row : Flight) × (o ≡ Some row) × (is_set row.closed ≡ true)
closed_row true None h = absurd (true≢false (sym h))
closed_row true (Some row) h = (refl, row, refl, h)
closed_row false o h = absurd (true≢false (sym h))

-- a flight that isn't listed has no row
no_row : (f : FlightDate) → is_designator f.flight ≡ true → (fs : List FlightDate) (es : List (FlightKey × Flight)) → map flight_key fs ≡ map (λ (row : FlightKey × Flight). row.0) es
    → AllByRecursion (λ (g : FlightDate). is_designator g.flight ≡ true) fs → ((j : ℕ) → slice_get fs j ≢ Some f) → find flight_cmp (flight_key f) es ≡ None
no_row f is [] [] keys each nowhere = refl
no_row f is (g ∷ fs) (e ∷ es) keys each nowhere =
    let head : flight_key g ≡ e.0 = cc in
    let tail : map flight_key fs ≡ map (λ (row : FlightKey × Flight). row.0) es = cc in
    let apart : eq_by_cmp flight_cmp (flight_key f) (flight_key g) ≡ false = is_false _ (λ h. absurd (nowhere 0 (ap (λ (x : FlightDate). Some x) (sym (same-is f g (sym (same_key f g is each.0) ∙ h)))))) in
    ap (λ k. cond (eq_by_cmp flight_cmp (flight_key f) k) (Some e.1) (find flight_cmp (flight_key f) es)) (sym head)
    ∙ ap (λ b. cond b (Some e.1) (find flight_cmp (flight_key f) es)) apart
    ∙ no_row f is fs es tail each.1 (λ j. nowhere (suc j))
no_row f is _ _ keys each nowhere = absurd (cc)

module _ (t : Tables) (flights : List FlightDate) (of : AreFlightsOf flights (entries t.flights)) where
  abbrev rows : List (FlightKey × Flight)
  rows = entries t.flights

  each_row : AllByRecursion (λ (e : FlightKey × Flight). get t.flights e.0 ≡ Some e.1) rows
  each_row = each_entry flight_cmp (pair_total bytes_cmp int_cmp texts_total int_cmp_total) (λ (e : FlightKey × Flight). get t.flights e.0 ≡ Some e.1) t.flights (λ q v is. is)

  row_of : (i : ℕ) (f : FlightDate) → slice_get flights i ≡ Some f → (row : Flight) × (slice_get rows i ≡ Some (flight_key f, row)) × (get t.flights (flight_key f) ≡ Some row)
  row_of i f is = go (slice_get rows i) refl
      (sym (slice_get-map (λ (row : FlightKey × Flight). row.0) rows i) ∙ ap (λ l. slice_get l i) (sym of.keys) ∙ slice_get-map flight_key flights i ∙ ap (option_map flight_key) is)
    where
      go : (o : Option (FlightKey × Flight)) → slice_get rows i ≡ o → option_map (λ (row : FlightKey × Flight). row.0) o ≡ Some (flight_key f)
          → (row : Flight) × (slice_get rows i ≡ Some (flight_key f, row)) × (get t.flights (flight_key f) ≡ Some row)
      go None at h = absurd (true≢false (sym (none_is (flight_key f) h)))
      go (Some e) at h =
          let key : e.0 ≡ flight_key f = some_is e.0 (flight_key f) h in
          (e.1, at ∙ ap (λ (k : FlightKey). Some (k, e.1)) key, subst (λ k. get t.flights k ≡ Some e.1) key (all-slice_get (λ (e : FlightKey × Flight). get t.flights e.0 ≡ Some e.1) rows i e at each_row))

  -- where a flight with a row stands
  row_at : (f : FlightDate) (row : Flight) → is_designator f.flight ≡ true → get t.flights (flight_key f) ≡ Some row → (i : ℕ) × (slice_get flights i ≡ Some f) × (slice_get rows i ≡ Some (flight_key f, row))
  row_at f row is has = go (index_of flights f)
    where
      go : ((i : ℕ) × (slice_get flights i ≡ Some f)) ⊎ ((i : ℕ) → slice_get flights i ≢ Some f) → (i : ℕ) × (slice_get flights i ≡ Some f) × (slice_get rows i ≡ Some (flight_key f, row))
      go (inl (i, at)) =
          let r = row_of i f at in
          (i, at, r.1 ∙ ap (λ (x : Flight). Some (flight_key f, x)) (some_is r.0 row (sym r.2 ∙ has)))
      go (inr nowhere) = absurd (true≢false (sym (none_is row (sym (no_row f is flights rows of.keys of.each nowhere) ∙ sym (get-entries t.flights (flight_key f)) ∙ has))))

  module _ (sums : BookSums) (are : AreSums flights sums (running (book_in t.moves))) where
    abbrev book : List Move
    book = book_in t.moves

    abbrev count_told_at : ℕ → Place → Option Tally
    count_told_at w p = lookup (is_at (count_place_cmp (record { awb = pos w; place = pos (place_code p) }))) sums.counts.entries

    told_at : (w : ℕ) (p : Place) → is_built p ≡ false → (count_told_at w p) ≡ unless_nothing (running book w p)
    told_at w p plain = row_tally count_row running_in (λ t. refl) (count_told_at w p) (unless_nothing (running book w p)) (are.counts (pos w, pos (place_code p)) ∙ codes.at_key (running book) w p (running book w p) plain)

    same_drawn : (w : ℕ) → plus (drawn_at sums (pos w) (pos 0)) (drawn_at sums (pos w) (pos 1)) ≡ taken_and_found book w
    same_drawn w = ap₂ plus (told_drawn book w Hand (count_told_at w Hand) (told_at w Hand refl)) (told_drawn book w Surplus (count_told_at w Surplus) (told_at w Surplus refl))

    -- ---- where the balances are lawful, so are the sums at places that aren't built

    module _ (law : AreBalances t) where
      within_at : (w : ℕ) → is_within sums (pos w) ≡ true
      within_at w = ap fits (same_drawn w) ∙ law.within w

      left_at : (w : ℕ) (p : Place) (v : Tally) → is_outside p ≡ false → is_built p ≡ false → count_told_at w p ≡ Some v → is_left v ≡ true
      left_at w p v inside plain is = stocked_told book w p v ((sym is) ∙ told_at w p plain) (law.stocked w p inside)

      lawful_at : (w : ℕ) (p : Place) (v : Tally) → is_built p ≡ false → count_told_at w p ≡ Some v → is_lawful_count sums (record { awb = pos w; place = pos (place_code p) }, v) ≡ true
      lawful_at w Hand v plain is = and_from (is_within sums (pos w)) (is_covered v) (within_at w) (covered_told book w v ((sym is) ∙ told_at w Hand plain) (law.covered w))
      lawful_at w Surplus v plain is = and_from (is_within sums (pos w)) true (within_at w) refl
      lawful_at w (Built f) v plain is = absurd (true≢false plain)
      lawful_at w p v plain is = left_at w p v refl refl is

      -- of which place a sum is
      count_due : (awb place : ℤ) (c : Count) → Some c ≡ count_in (running book) (awb, place) → (w : ℕ) × (p : Place) × (awb ≡ pos w) × (plain_place place ≡ Some p)
      count_due (negsuc n) place c h = absurd (true≢false (sym (none_is c (sym h))))
      count_due (pos w) place c h = go (plain_place place) refl h
        where
          go : (o : Option Place) → plain_place place ≡ o → Some c ≡ count_here (running book) w o → (v : ℕ) × (p : Place) × (pos w ≡ pos v) × (plain_place place ≡ Some p)
          go None is h = absurd (true≢false (sym (none_is c (sym h))))
          go (Some p) is h = (w, p, refl, is)

      count_is : (q : CountPlace) (v : Tally) → lookup (is_at (count_place_cmp q)) sums.counts.entries ≡ Some v → is_lawful_count sums (q, v) ≡ true
      count_is q v is =
          let due = count_due q.awb q.place (count_row v) (sym (ap (option_map count_row) is) ∙ are.counts (q.awb, q.place)) in
          go due.0 due.1 due.2 (codes.plain_code q.place due.1 due.3) (codes.not_built q.place due.1 due.3)
        where
          go : (w : ℕ) (p : Place) → q.awb ≡ pos w → q.place ≡ pos (place_code p) → is_built p ≡ false → is_lawful_count sums (q, v) ≡ true
          go w p awb place plain =
              let key : q ≡ record { awb = pos w; place = pos (place_code p) } = λ i. record { awb = awb i; place = place i } in
              ap (λ (k : CountPlace). is_lawful_count sums (k, v)) key ∙ lawful_at w p v plain (ap (λ (k : CountPlace). lookup (is_at (count_place_cmp k)) sums.counts.entries) (sym key) ∙ is)

      pub lawful_counts : IsStrictlySortedBy count_place_cmp (keys_of sums.counts.entries) → list_all (is_lawful_count sums) sums.counts.entries ≡ true
      lawful_counts up = test_from_all (is_lawful_count sums) sums.counts.entries
          (each_looked_up count_place_cmp count_places_total sums.counts.entries up (λ (e : CountPlace × Tally). is_lawful_count sums e ≡ true) count_is)

    module _ (builds_up : IsStrictlySortedBy build_place_cmp (keys_of sums.builds.entries)) where
      built_told : (i w : ℕ) (f : FlightDate) → slice_get flights i ≡ Some f → (told flights sums book are builds_up i w) ≡ unless_nothing (running book w (Built f))
      built_told = told_on flights sums book are builds_up

      -- ---- lawful sums are lawful balances

      module _ (audited : IsAudited rows sums) where
        count_passes : (q : CountPlace) (v : Tally) → lookup (is_at (count_place_cmp q)) sums.counts.entries ≡ Some v → is_lawful_count sums (q, v) ≡ true
        count_passes = looked_up count_place_cmp count_same (λ e. is_lawful_count sums e ≡ true) sums.counts.entries (all_from_test (is_lawful_count sums) sums.counts.entries audited.counts)

        build_passes : (q : BuildPlace) (v : Tally) → lookup (is_at (build_place_cmp q)) sums.builds.entries ≡ Some v → is_lawful_build rows (q, v) ≡ true
        build_passes = looked_up build_place_cmp build_same (λ e. is_lawful_build rows e ≡ true) sums.builds.entries (all_from_test (is_lawful_build rows) sums.builds.entries audited.builds)

        build_left : (i w : ℕ) (v : Tally) → told flights sums book are builds_up i w ≡ Some v → is_left v ≡ true
        build_left i w v is = (and_parts (is_left v) (is_open (slice_get rows i)) (build_passes (record { flight = i; awb = pos w }) v is)).0

        build_open : (i w : ℕ) (v : Tally) → told flights sums book are builds_up i w ≡ Some v → is_open (slice_get rows i) ≡ true
        build_open i w v is = (and_parts (is_left v) (is_open (slice_get rows i)) (build_passes (record { flight = i; awb = pos w }) v is)).1

        stocked_plain : (w : ℕ) (p : Place) → is_outside p ≡ false → is_built p ≡ false → IsStocked book w p
        stocked_plain w p inside plain = told_stocked book w p (count_told_at w p) (told_at w p plain)
            (λ v is. ap (λ b. cond b (is_within sums (pos w) && (not (int_eq (pos (place_code p)) (pos 0)) || is_covered v)) (is_left v)) (sym (high_code p inside plain)) ∙ count_passes (record { awb = pos w; place = pos (place_code p) }) v is)

        stocked_built : (w : ℕ) (f : FlightDate) → IsStocked book w (Built f)
        stocked_built w f = go (index_of flights f)
          where
            go : ((i : ℕ) × (slice_get flights i ≡ Some f)) ⊎ ((i : ℕ) → slice_get flights i ≢ Some f) → IsStocked book w (Built f)
            go (inl (i, at)) = told_stocked book w (Built f) (told flights sums book are builds_up i w) (built_told i w f at) (build_left i w)
            go (inr nowhere) = stocked_even book w (Built f) (told_even book w (Built f) (sym (are.others w f nowhere)))

        all_stocked : (w : ℕ) (p : Place) → is_outside p ≡ false → IsStocked book w p
        all_stocked w Hand inside = absurd (true≢false inside)
        all_stocked w Surplus inside = absurd (true≢false inside)
        all_stocked w (Built f) inside = stocked_built w f
        all_stocked w p inside = stocked_plain w p refl refl

        all_covered : (w : ℕ) → IsCovered book w
        all_covered w = told_covered book w (count_told_at w Hand) (told_at w Hand refl)
            (λ v is. (and_parts (is_within sums (pos w)) (is_covered v) (count_passes (record { awb = pos w; place = pos 0 }) v is)).1)

        all_within : (w : ℕ) → fits (taken_and_found book w) ≡ true
        all_within w = ap fits (sym (same_drawn w)) ∙ go (count_told_at w Hand) (count_told_at w Surplus) refl refl
          where
            go : (hand surplus : Option Tally) → count_told_at w Hand ≡ hand → count_told_at w Surplus ≡ surplus → is_within sums (pos w) ≡ true
            go (Some v) surplus h k = (and_parts (is_within sums (pos w)) (is_covered v) (count_passes (record { awb = pos w; place = pos 0 }) v h)).0
            go None (Some v) h k = (and_parts (is_within sums (pos w)) true (count_passes (record { awb = pos w; place = pos 1 }) v k)).0
            go None None h k = ap₂ (λ a b. fits (plus (drawn_by a) (drawn_by b))) h k

        all_empty : (f : FlightDate) (w : ℕ) → is_closed (flights_in t.flights f) ≡ true → (built book w f).pieces ≡ 0
        all_empty f w closed =
            let c = closed_row (is_designator f.flight) (get t.flights (flight_key f)) closed in
            let at = row_at f c.1 c.0 c.2 in
            go at.0 at.1 (ap is_open at.2 ∙ ap not c.3) (told flights sums book are builds_up at.0 w) refl
          where
            go : (i : ℕ) → slice_get flights i ≡ Some f → is_open (slice_get rows i) ≡ false → (o : Option Tally) → told flights sums book are builds_up i w ≡ o → (built book w f).pieces ≡ 0
            go i at shut None is = built_none book w f ((sym is) ∙ built_told i w f at)
            go i at shut (Some v) is = absurd (true≢false (sym (build_open i w v is) ∙ shut))

        all_room : (f : FlightDate) → length (waybills_on book f) ≤ 500
        all_room f = go (index_of flights f)
          where
            go : ((i : ℕ) × (slice_get flights i ≡ Some f)) ⊎ ((i : ℕ) → slice_get flights i ≢ Some f) → length (waybills_on book f) ≤ 500
            go (inl (i, at)) = subst (λ n. n ≤ 500) (on_listed flights sums book are builds_up i f at (build_left i)) (audited.room i)
            go (inr nowhere) = let none = nothing_on flights sums book are builds_up f (λ w. are.others w f nowhere) in omega (arith, none)

        pub lawful_balances : AreBalances t
        lawful_balances = record { stocked = all_stocked; covered = all_covered; within = all_within; empty = all_empty; room = all_room }

      -- ---- where the balances are lawful, so are the sums on flights

      module _ (law : AreBalances t) where
        on_left : (i w : ℕ) (f : FlightDate) → slice_get flights i ≡ Some f → (v : Tally) → told flights sums book are builds_up i w ≡ Some v → is_left v ≡ true
        on_left i w f at v is = stocked_told book w (Built f) v ((sym is) ∙ built_told i w f at) (law.stocked w (Built f) refl)

        not_closed : (f : FlightDate) (row : Flight) → is_designator f.flight ≡ true → get t.flights (flight_key f) ≡ Some row → (w : ℕ) → nat_lt 0 (built book w f).pieces ≡ true → not (is_set row.closed) ≡ true
        not_closed f row is has w some = elim (is_set row.closed) as (λ b. is_set row.closed ≡ b → not b ≡ true) [
          | false ↦ λ h. refl
          | true ↦ λ h.
              let closed : is_closed (flights_in t.flights f) ≡ true = ap₂ (λ b o. is_closed (cond b (option_map outbound_by o) None)) is has ∙ h in
              absurd (true≢false (sym some ∙ ap (nat_lt 0) (law.empty f w closed)))
        ] refl

        build_due_of : (awb : ℤ) (o : Option FlightDate) (b : Build) → Some b ≡ build_due (running book) awb o → (w : ℕ) × (f : FlightDate) × (awb ≡ pos w) × (o ≡ Some f)
        build_due_of (pos w) None b h = absurd (true≢false (sym (none_is b (sym h))))
        build_due_of (pos w) (Some f) b h = (w, f, refl, refl)
        build_due_of (negsuc n) o b h = absurd (true≢false (sym (none_is b (sym h))))

        build_is : (q : BuildPlace) (v : Tally) → lookup (is_at (build_place_cmp q)) sums.builds.entries ≡ Some v → is_lawful_build rows (q, v) ≡ true
        build_is q v is =
            let due = build_due_of q.awb (slice_get flights q.flight) (build_row v) (sym (ap (option_map build_row) is) ∙ are.builds q.flight q.awb) in
            go due.0 due.1 due.2 due.3
          where
            go : (w : ℕ) (f : FlightDate) → q.awb ≡ pos w → slice_get flights q.flight ≡ Some f → is_lawful_build rows (q, v) ≡ true
            go w f awb at =
                let key : q ≡ record { flight = q.flight; awb = pos w } = λ i. record { flight = q.flight; awb = awb i } in
                let here : told flights sums book are builds_up q.flight w ≡ Some v = ap (λ (k : BuildPlace). lookup (is_at (build_place_cmp k)) sums.builds.entries) (sym key) ∙ is in
                let left = on_left q.flight w f at v here in
                let row = row_of q.flight f at in
                let some = built_some book w f v ((sym here) ∙ built_told q.flight w f at) left in
                and_from (is_left v) (is_open (slice_get rows q.flight)) left
                (ap is_open row.1 ∙ not_closed f row.0 (listed flights rows of (distinct flights rows of) q.flight f at) row.2 w some)

        pub room_at : (i : ℕ) → length (on_flight i sums.builds.entries) ≤ 500
        room_at i = go (slice_get flights i) refl
          where
            go : (o : Option FlightDate) → slice_get flights i ≡ o → length (on_flight i sums.builds.entries) ≤ 500
            go None at = let none = on_unlisted flights sums book are builds_up i at in omega (arith, none)
            go (Some f) at = subst (λ n. n ≤ 500) (sym (on_listed flights sums book are builds_up i f at (λ w. on_left i w f at))) (law.room f)

        pub lawful_builds : list_all (is_lawful_build rows) sums.builds.entries ≡ true
        lawful_builds = test_from_all (is_lawful_build rows) sums.builds.entries
            (each_looked_up build_place_cmp build_places_total sums.builds.entries builds_up (λ (e : BuildPlace × Tally). is_lawful_build rows e ≡ true) build_is)
