-- The sums on a flight are those of the waybills that are built on it.
use Rattle.table_audits.proofs.Common.{AllByRecursion, AreSums, BookSums, Bool, Build, BuildPlace, Built, FlightDate, Less, List, Move, None, Option, Some, Tally, [], ap, arith, build_due, build_place_cmp, build_row, built, cond, false, int_cmp, int_eq, int_pos, ints, is_at, is_left, is_some, keys_of, length, lookup, map, nat_cmp, nat_cmp_total, nat_lt, nat_tests, natural, negsuc, none_is, on_flight, option_map, ordering_then, pos, refl, running, running_on, slice_get, subst, sym, tied_itself, true, true≢false, unless_nothing, waybills_on, ℕ, ℤ, ◌&&◌, ◌<◌, ◌==◌, ◌∙◌, ◌∷◌, ◌≡◌, length-map}
use Rattle.std.specs.List.Sorted.{IsStrictlySortedBy}
use Rattle.shipment_machine.specs.Cargo.{IsAscending as Rising, is_in}
use Rattle.shipment_machine.proofs.Rising.{same_rising}
use Rattle.shipment_machine.proofs.FlightMoves.{Rising-waybills_on}
use Rattle.shipment_machine.proofs.OnFlight.{is_in-waybills_on}
use Rattle.table_audits.proofs.Posted.{key_eq}
use Rattle.table_audits.proofs.Sorted.{each_looked_up}
use Rattle.table_audits.proofs.Made.{build_places_total}
use Rattle.table_audits.proofs.Stocked.{row_tally, built_none, built_some}

abbrev pub waybills_at : ℕ → List (BuildPlace × Tally) → List ℕ
waybills_at i es = map (λ (e : BuildPlace × Tally). natural e.0.awb) (on_flight i es)

-- a key that is a waybill's
abbrev IsNumbered : BuildPlace × Tally → Type 0
IsNumbered e = (n : ℕ) × (e.0.awb ≡ pos n)

-- ---- which waybills they are

in_sums : (r i : ℕ) (es : List (BuildPlace × Tally)) → AllByRecursion IsNumbered es → is_in r (waybills_at i es) ≡ is_some (lookup (is_at (build_place_cmp (record { flight = i; awb = pos r }))) es)
in_sums r i [] all = refl
in_sums r i (e ∷ es) all =
    let waybill : (natural e.0.awb == r) ≡ int_eq (pos r) e.0.awb = ap (λ z. natural z == r) all.0.1 ∙ sym (int_pos r all.0.0) ∙ ap (int_eq (pos r)) (sym all.0.1) in
    let turned : (e.0.flight == i) ≡ (i == e.0.flight) = grind (arith, nat_tests) in
    rw (key_eq i e.0.flight (pos r) e.0.awb, turned) (go (i == e.0.flight) (int_eq (pos r) e.0.awb) waybill (in_sums r i es all.1))
  where
    go : (b c : Bool) → (natural e.0.awb == r) ≡ c → is_in r (waybills_at i es) ≡ is_some (lookup (is_at (build_place_cmp (record { flight = i; awb = pos r }))) es)
        → is_in r (map (λ (d : BuildPlace × Tally). natural d.0.awb) (cond b (e ∷ on_flight i es) (on_flight i es)))
        ≡ is_some (cond (b && c) (Some e.1) (lookup (is_at (build_place_cmp (record { flight = i; awb = pos r }))) es))
    go true true here rest = rw here refl
    go true false here rest = rw here rest
    go false c here rest = rest

-- ---- they rise

less_then : (i j : ℕ) (a b : ℤ) → i ≡ j → ordering_then (nat_cmp i j) (int_cmp a b) ≡ Less → int_cmp a b ≡ Less
less_then i j a b same h = ap (λ o. ordering_then o (int_cmp a b)) (sym (ap (nat_cmp i) (sym same) ∙ tied_itself nat_cmp_total i)) ∙ h

less_number : (a b : ℕ) → int_cmp (pos a) (pos b) ≡ Less → a < b
less_number a b h = grind (arith, ints)

above : (i w : ℕ) (es : List (BuildPlace × Tally)) → AllByRecursion IsNumbered es → AllByRecursion (λ q. build_place_cmp (record { flight = i; awb = pos w }) q ≡ Less) (keys_of es)
    → AllByRecursion (λ y. w < y) (waybills_at i es)
above i w [] all up = tt
above i w (d ∷ es) all up = go (above i w es all.1 up.1) (d.0.flight == i) refl
  where
    go : AllByRecursion (λ y. w < y) (waybills_at i es) → (b : Bool) → (d.0.flight == i) ≡ b → AllByRecursion (λ y. w < y) (map (λ (e : BuildPlace × Tally). natural e.0.awb) (cond b (d ∷ on_flight i es) (on_flight i es)))
    go rest true h =
        let same : i ≡ d.0.flight = grind (arith, nat_tests) in
        let less : int_cmp (pos w) d.0.awb ≡ Less = less_then i d.0.flight (pos w) d.0.awb same up.0 in
        (subst (λ z. w < natural z) (sym all.0.1) (less_number w all.0.0 (ap (int_cmp (pos w)) (sym all.0.1) ∙ less)), rest)
    go rest false h = rest

rising_at : (i : ℕ) (es : List (BuildPlace × Tally)) → AllByRecursion IsNumbered es → IsStrictlySortedBy build_place_cmp (keys_of es) → Rising (waybills_at i es)
unfolding IsStrictlySortedBy
rising_at i [] all up = tt
rising_at i (e ∷ es) all up = go (rising_at i es all.1 up.1) (e.0.flight == i) refl
  where
    key_is : e.0.flight ≡ i → ◌≡◌ {A = BuildPlace} e.0 (record { flight = i; awb = pos all.0.0 })
    key_is h = λ j. record { flight = h j; awb = all.0.1 j }

    go : Rising (waybills_at i es) → (b : Bool) → (e.0.flight == i) ≡ b → Rising (map (λ (d : BuildPlace × Tally). natural d.0.awb) (cond b (e ∷ on_flight i es) (on_flight i es)))
    go rest true h =
        let same : e.0.flight ≡ i = grind (arith, nat_tests) in (
          subst (λ z. AllByRecursion (λ y. natural z < y) (waybills_at i es)) (sym all.0.1)
              (above i all.0.0 es all.1 (subst (λ (k : BuildPlace). AllByRecursion (λ q. build_place_cmp k q ≡ Less) (keys_of es)) (key_is same) up.0)),
          rest,
        )
    go rest false h = rest

-- ---- against the book

module _ (flights : List FlightDate) (sums : BookSums) (book : List Move) (are : AreSums flights sums (running book)) (up : IsStrictlySortedBy build_place_cmp (keys_of sums.builds.entries)) where
  abbrev pub told : ℕ → ℕ → Option Tally
  told i w = lookup (is_at (build_place_cmp (record { flight = i; awb = pos w }))) sums.builds.entries

  due_numbered : (awb : ℤ) (o : Option FlightDate) (b : Build) → build_due (running book) awb o ≡ Some b → (n : ℕ) × (awb ≡ pos n)
  due_numbered (pos n) o b h = (n, refl)
  due_numbered (negsuc n) o b h = absurd (true≢false (sym (none_is b h)))

  numbered : AllByRecursion IsNumbered sums.builds.entries
  numbered = each_looked_up build_place_cmp build_places_total sums.builds.entries up IsNumbered
      (λ q v is. due_numbered q.awb (slice_get flights q.flight) (build_row v) (sym (are.builds q.flight q.awb) ∙ ap (option_map build_row) is))

  -- what is said of a listed flight
  pub told_on : (i w : ℕ) (f : FlightDate) → slice_get flights i ≡ Some f → (told i w) ≡ unless_nothing (running book w (Built f))
  told_on i w f is = row_tally build_row running_on (λ t. refl) (told i w) (unless_nothing (running book w (Built f))) (are.builds i (pos w) ∙ ap (build_due (running book) (pos w)) is)

  -- and of one that isn't
  none_told : (i w : ℕ) → slice_get flights i ≡ None → told i w ≡ None
  none_told i w none = go (told i w) (are.builds i (pos w) ∙ ap (build_due (running book) (pos w)) none)
    where
      go : (o : Option Tally) → option_map build_row o ≡ None → o ≡ None
      go None h = refl
      go (Some t) h = absurd (cc)

  aboard : (w : ℕ) (f : FlightDate) (o : Option Tally) → o ≡ unless_nothing (running book w (Built f)) → ((t : Tally) → o ≡ Some t → is_left t ≡ true) → is_some o ≡ nat_lt 0 (built book w f).pieces
  aboard w f None h left = sym (ap (nat_lt 0) (built_none book w f h))
  aboard w f (Some t) h left = sym (built_some book w f t h (left t refl))

  -- where something is left of each sum, the sums on a flight are the waybills on it
  pub on_listed : (i : ℕ) (f : FlightDate) → slice_get flights i ≡ Some f → ((w : ℕ) (t : Tally) → told i w ≡ Some t → is_left t ≡ true) → length (on_flight i sums.builds.entries) ≡ length (waybills_on book f)
  on_listed i f is left =
      sym (length-map (on_flight i sums.builds.entries) (λ (e : BuildPlace × Tally). natural e.0.awb))
      ∙ ap (λ (ws : List ℕ). length ws) (same_rising (waybills_at i sums.builds.entries) (waybills_on book f) (rising_at i sums.builds.entries numbered up) (Rising-waybills_on book f)
      (λ r. in_sums r i sums.builds.entries numbered ∙ aboard r f (told i r) (told_on i r f is) (left r) ∙ sym (is_in-waybills_on r book f)))

  pub on_unlisted : (i : ℕ) → slice_get flights i ≡ None → length (on_flight i sums.builds.entries) ≡ 0
  on_unlisted i none =
      sym (length-map (on_flight i sums.builds.entries) (λ (e : BuildPlace × Tally). natural e.0.awb))
      ∙ ap (λ (ws : List ℕ). length ws) (same_rising (waybills_at i sums.builds.entries) [] (rising_at i sums.builds.entries numbered up) tt
      (λ r. in_sums r i sums.builds.entries numbered ∙ ap is_some (none_told i r none)))

  -- nothing is built on a flight that isn't listed
  pub nothing_on : (f : FlightDate) → ((w : ℕ) → unless_nothing (running book w (Built f)) ≡ None) → length (waybills_on book f) ≡ 0
  nothing_on f none = ap (λ (ws : List ℕ). length ws) (same_rising (waybills_on book f) [] (Rising-waybills_on book f) tt
      (λ r. is_in-waybills_on r book f ∙ ap (nat_lt 0) (built_none book r f (sym (none r)))))
