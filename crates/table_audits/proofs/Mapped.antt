-- Rows of `build` that are compared with the sums one by one.
use Rattle.table_audits.proofs.Common.{AreDistinct, AreFlightsOf, AreSums, BookSums, Bool, Build, BuildKey, BuildPlace, Designator, Flight, FlightDate, FlightKey, List, Move, None, Option, Some, Tally, [], and_from, ap, build_cmp, build_due, build_entry, build_eq, build_here, build_in, build_place_cmp, build_row, bytes_cmp, cond, eq-eqb, eq_by_cmp, false, first_true, flight_key, flight_text, inl, inr, int_eq, int_itself, is_at, is_designator, is_false, is_int, is_nat, is_text, lookup, map, negsuc, none_is, option_map, pos, refl, running, same-is, same-refl, same_bool, same_flight_date, second_true, slice_get, some_is, suc, sym, text_itself, true, true≢false, written_again, written_flight, written_so, zero, ℕ, ℤ, ◌&&◌, ◌==◌, ◌∙◌, ◌∷◌, ◌≡◌, ◌≢◌, ◌⊎◌, arith}
use Rattle.std.specs.FinMap.{find}
use Rattle.std.proofs.lemmas.Option.{slice_get-map}
use Rattle.sqlite_keyed.proofs.ListLemmas.{all-slice_get}
use Rattle.row_codec.proofs.Tests.{and_no, twice}
use Rattle.table_audits.proofs.Posted.{key_eq}

-- ---- lists

abbrev first_or : {X : Type 0} → X → List X → X
first_or d [] = d
first_or d (x ∷ xs) = x

abbrev rest : {X : Type 0} → List X → List X
rest [] = []
rest (x ∷ xs) = xs

together : (x y z : Bool) → (x && (y && z)) ≡ ((x && y) && z)
together x y z = grind arith

abbrev pub entry : FlightDate → BuildPlace × Tally → BuildKey × Build
entry f e = ((flight_text f.flight, (pos f.day, e.0.awb)), build_row e.1)

abbrev at_key : BuildPlace × Tally → FlightKey → BuildKey × Build
at_key e k = ((k.0, (k.1, e.0.awb)), build_row e.1)

-- a flight stands in a list, or doesn't
pub index_of : (flights : List FlightDate) (f : FlightDate) → ((i : ℕ) × (slice_get flights i ≡ Some f)) ⊎ ((i : ℕ) → slice_get flights i ≢ Some f)
index_of [] f = inr (λ i h. absurd (true≢false (sym (none_is f h))))
index_of (g ∷ flights) f = go (same_flight_date g f) refl (index_of flights f)
  where
    go : (b : Bool) → same_flight_date g f ≡ b → ((i : ℕ) × (slice_get flights i ≡ Some f)) ⊎ ((i : ℕ) → slice_get flights i ≢ Some f)
        → ((i : ℕ) × (slice_get (g ∷ flights) i ≡ Some f)) ⊎ ((i : ℕ) → slice_get (g ∷ flights) i ≢ Some f)
    go true e more = inl (0, ap (λ x. Some x) (same-is g f e))
    go false e (inl (i, is)) = inl (suc i, is)
    go false e (inr nowhere) = inr (λ i h. not_there e nowhere i h)
      where
        not_there : same_flight_date g f ≡ false → ((i : ℕ) → slice_get flights i ≢ Some f) → (i : ℕ) → slice_get (g ∷ flights) i ≢ Some f
        not_there e nowhere zero h = true≢false (sym (ap (λ x. same_flight_date x f) (some_is g f h) ∙ same-refl f) ∙ e)
        not_there e nowhere (suc i) h = nowhere i h

module _ (flights : List FlightDate) (rows : List (FlightKey × Flight)) (of : AreFlightsOf flights rows) (distinct : AreDistinct flights) where
  pub listed : (i : ℕ) (f : FlightDate) → slice_get flights i ≡ Some f → is_designator f.flight ≡ true
  listed i f is = all-slice_get (λ (f : FlightDate). is_designator f.flight ≡ true) flights i f is of.each

  pub entry_is : (e : BuildPlace × Tally) → build_entry rows e ≡ option_map (λ f. entry f e) (slice_get flights e.0.flight)
  entry_is e =
      sym (twice (at_key e) (λ (row : FlightKey × Flight). row.0) (slice_get rows e.0.flight))
      ∙ ap (option_map (at_key e)) (sym (slice_get-map (λ (row : FlightKey × Flight). row.0) rows e.0.flight) ∙ ap (λ l. slice_get l e.0.flight) (sym of.keys) ∙ slice_get-map flight_key flights e.0.flight)
      ∙ twice (at_key e) flight_key (slice_get flights e.0.flight)

  one_flight : (f g : FlightDate) → is_designator f.flight ≡ true → is_designator g.flight ≡ true → flight_text f.flight ≡ flight_text g.flight → pos f.day ≡ pos g.day → f ≡ g
  one_flight f g is_f is_g text day =
      let flight : f.flight ≡ g.flight = some_is f.flight g.flight (sym (written_again f.flight is_f) ∙ ap written_flight text ∙ written_again g.flight is_g) in
      let on : f.day ≡ g.day = cc in
      λ i. record { flight = flight i; day = on i }

  same_key : (i j : ℕ) (f g : FlightDate) → slice_get flights i ≡ Some f → slice_get flights j ≡ Some g
      → (eq_by_cmp bytes_cmp (flight_text f.flight) (flight_text g.flight) && int_eq (pos f.day) (pos g.day)) ≡ (i == j)
  same_key i j f g is_f is_g = same_bool _ _
      (λ h. let one : f ≡ g = one_flight f g (listed i f is_f) (listed j g is_g) (is_text (flight_text f.flight) (flight_text g.flight) (first_true _ _ h)) (is_int (pos f.day) (pos g.day) (second_true _ _ h)) in
      eq-eqb i j (distinct i j f is_f (is_g ∙ ap (λ x. Some x) (sym one))))
      (λ h. let one : f ≡ g = some_is f g (sym is_f ∙ ap (slice_get flights) (is_nat i j h) ∙ is_g) in
      ap (λ (x : FlightDate). eq_by_cmp bytes_cmp (flight_text f.flight) (flight_text x.flight) && int_eq (pos f.day) (pos x.day)) (sym one)
      ∙ and_from _ _ (text_itself (flight_text f.flight)) (int_itself (pos f.day)))

  -- a row is that of a flight of the list
  row_of : (r : BuildKey × Build) (e : BuildPlace × Tally) (o : Option FlightDate) → slice_get flights e.0.flight ≡ o → ◌≡◌ {A = Option (BuildKey × Build)} (Some r) (option_map (λ f. entry f e) o)
      → (g : FlightDate) × (slice_get flights e.0.flight ≡ Some g) × (r ≡ entry g e)
  row_of r e None is h = absurd (true≢false (sym (none_is r (sym h))))
  row_of r e (Some g) is h = (g, is, some_is r (entry g e) h)

  -- what is found of a listed flight
  pub found_there : (L : List (BuildKey × Build)) (es : List (BuildPlace × Tally)) → ◌≡◌ {A = List (Option (BuildKey × Build))} (map (λ r. Some r) L) (map (build_entry rows) es)
      → (i : ℕ) (f : FlightDate) → slice_get flights i ≡ Some f → (awb : ℤ)
      → find build_cmp (flight_text f.flight, (pos f.day, awb)) L ≡ option_map build_row (lookup (is_at (build_place_cmp (record { flight = i; awb = awb }))) es)
  found_there [] [] h i f is awb = refl
  found_there (r ∷ L) (e ∷ es) h i f is awb =
      let here = row_of r e (slice_get flights e.0.flight) refl (ap (first_or None) h ∙ entry_is e) in
      let same = build_eq (flight_text f.flight) (flight_text here.0.flight) (pos f.day) (pos here.0.day) awb e.0.awb
      ∙ together (eq_by_cmp bytes_cmp (flight_text f.flight) (flight_text here.0.flight)) (int_eq (pos f.day) (pos here.0.day)) (int_eq awb e.0.awb)
      ∙ ap (λ b. b && int_eq awb e.0.awb) (same_key i e.0.flight f here.0 is here.1)
      ∙ sym (key_eq i e.0.flight awb e.0.awb) in
      ap (λ (x : BuildKey × Build). cond (eq_by_cmp build_cmp (flight_text f.flight, (pos f.day, awb)) x.0) (Some x.1) (find build_cmp (flight_text f.flight, (pos f.day, awb)) L)) here.2
      ∙ (let more = found_there L es (ap rest h) i f is awb in grind (arith, same, more))
  found_there _ _ h i f is awb = absurd (cc)

  -- and of a flight that isn't listed
  pub found_nowhere : (L : List (BuildKey × Build)) (es : List (BuildPlace × Tally)) → ◌≡◌ {A = List (Option (BuildKey × Build))} (map (λ r. Some r) L) (map (build_entry rows) es)
      → (text : List ℕ) (day awb : ℤ) → ((j : ℕ) (g : FlightDate) → slice_get flights j ≡ Some g → (eq_by_cmp bytes_cmp text (flight_text g.flight) && int_eq day (pos g.day)) ≡ false)
      → find build_cmp (text, (day, awb)) L ≡ None
  found_nowhere [] [] h text day awb nowhere = refl
  found_nowhere (r ∷ L) (e ∷ es) h text day awb nowhere =
      let here = row_of r e (slice_get flights e.0.flight) refl (ap (first_or None) h ∙ entry_is e) in
      ap (λ (x : BuildKey × Build). cond (eq_by_cmp build_cmp (text, (day, awb)) x.0) (Some x.1) (find build_cmp (text, (day, awb)) L)) here.2
      ∙ ap (λ b. cond b (Some (build_row e.1)) (find build_cmp (text, (day, awb)) L))
      (build_eq text (flight_text here.0.flight) day (pos here.0.day) awb e.0.awb
      ∙ together (eq_by_cmp bytes_cmp text (flight_text here.0.flight)) (int_eq day (pos here.0.day)) (int_eq awb e.0.awb)
      ∙ ap (λ b. b && int_eq awb e.0.awb) (nowhere e.0.flight here.0 here.1))
      ∙ found_nowhere L es (ap rest h) text day awb nowhere
  found_nowhere _ _ h text day awb nowhere = absurd (cc)

  module _ (sums : BookSums) (book : List Move) (are : AreSums flights sums (running book)) (L : List (BuildKey × Build))
      (zip : ◌≡◌ {A = List (Option (BuildKey × Build))} (map (λ r. Some r) L) (map (build_entry rows) sums.builds.entries)) where
    abbrev due : ℕ → ℤ → Option Designator → Option Build
    due day awb None = None
    due day awb (Some d) = build_due (running book) awb (Some (record { flight = d; day = day }))

    apart : (text : List ℕ) (day : ℕ) → written_flight text ≡ None → (j : ℕ) (g : FlightDate) → slice_get flights j ≡ Some g → (eq_by_cmp bytes_cmp text (flight_text g.flight) && int_eq (pos day) (pos g.day)) ≡ false
    apart text day none j g is = is_false _ (λ h. none_is g.flight (sym none ∙ ap written_flight (is_text text (flight_text g.flight) (first_true _ _ h)) ∙ written_again g.flight (listed j g is)))

    other : (text : List ℕ) (day : ℕ) (d : Designator) → written_flight text ≡ Some d → ((i : ℕ) → slice_get flights i ≢ Some (record { flight = d; day = day }))
        → (j : ℕ) (g : FlightDate) → slice_get flights j ≡ Some g → (eq_by_cmp bytes_cmp text (flight_text g.flight) && int_eq (pos day) (pos g.day)) ≡ false
    other text day d e nowhere j g is = is_false _ (λ h.
        let flight : g.flight ≡ d = some_is g.flight d (sym (written_again g.flight (listed j g is)) ∙ ap written_flight (sym (is_text text (flight_text g.flight) (first_true _ _ h))) ∙ e) in
        let same : pos day ≡ pos g.day = is_int (pos day) (pos g.day) (second_true _ _ h) in
        let on : g.day ≡ day = cc in
        absurd (nowhere j (is ∙ ap (λ (x : FlightDate). Some x) (λ i. record { flight = flight i; day = on i }))))

    nothing_due : (awb : ℤ) (f : FlightDate) → ((i : ℕ) → slice_get flights i ≢ Some f) → build_due (running book) awb (Some f) ≡ None
    nothing_due (pos w) f nowhere = ap (option_map build_row) (are.others w f nowhere)
    nothing_due (negsuc n) f nowhere = refl

    found_is : (text : List ℕ) (day : ℕ) (awb : ℤ) → find build_cmp (text, (pos day, awb)) L ≡ due day awb (written_flight text)
    found_is text day awb = go (written_flight text) refl
      where
        go : (o : Option Designator) → written_flight text ≡ o → find build_cmp (text, (pos day, awb)) L ≡ due day awb o
        go None e = found_nowhere L sums.builds.entries zip text (pos day) awb (apart text day e)
        go (Some d) e = at (index_of flights (record { flight = d; day = day }))
          where
            at : ((i : ℕ) × (slice_get flights i ≡ Some (record { flight = d; day = day }))) ⊎ ((i : ℕ) → slice_get flights i ≢ Some (record { flight = d; day = day }))
                → find build_cmp (text, (pos day, awb)) L ≡ build_due (running book) awb (Some (record { flight = d; day = day }))
            at (inl (i, is)) =
                ap (λ t. find build_cmp (t, (pos day, awb)) L) (sym (written_so text d e))
                ∙ found_there L sums.builds.entries zip i (record { flight = d; day = day }) is awb
                ∙ are.builds i awb ∙ ap (build_due (running book) awb) is
            at (inr nowhere) = found_nowhere L sums.builds.entries zip text (pos day) awb (other text day d e nowhere) ∙ sym (nothing_due awb (record { flight = d; day = day }) nowhere)

    pub told_builds : (q : BuildKey) → find build_cmp q L ≡ build_in (running book) q
    told_builds (text, (pos day, pos w)) = found_is text day (pos w) ∙ go (written_flight text)
      where
        go : (o : Option Designator) → due day (pos w) o ≡ build_here (running book) day w o
        go None = refl
        go (Some d) = refl
    told_builds (text, (pos day, negsuc n)) = found_is text day (negsuc n) ∙ go (written_flight text)
      where
        go : (o : Option Designator) → due day (negsuc n) o ≡ None
        go None = refl
        go (Some d) = refl
    told_builds (text, (negsuc n, awb)) = found_nowhere L sums.builds.entries zip text (negsuc n) awb (λ j g is. and_no (eq_by_cmp bytes_cmp text (flight_text g.flight)))
