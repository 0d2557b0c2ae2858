-- The rows of `build` that the sums make, in the order of their keys.
use Rattle.table_audits.proofs.Common.{AllByRecursion, AreBuilds, AreDistinct, AreFlightsOf, AreSums, BookSums, Bool, Build, BuildKey, BuildPlace, Equal, Flight, FlightDate, FlightKey, Greater, IsAscending, IsTotalOrder, IsTrue, Less, List, Move, None, Option, Ordering, Some, T, Tables, Tally, [], ap, arith, below_all, build_cmp, build_due, build_entry, build_place_cmp, build_row, builds_total, bytes_cmp, entries, flight_cmp, flight_key, flight_text, get-entries, int_cmp, int_cmp-IsAntisymmetric, int_cmp_total, is_lt, is_sorted, keys_of, map, map-map, nat_cmp, nat_cmp-IsAntisymmetric, nat_cmp_total, negsuc, none_is, on_total, option_map, ordering_then, pair_cmp, pair_same, pair_total, pos, ranked, refl, running, slice_get, some_is, subst, suc, sym, texts_same, texts_total, then_total, tied_itself, true≢false, zero, ℕ, ℤ, ◌<◌, ◌↔◌, ◌∙◌, ◌∷◌, ◌≡◌}
use Rattle.std.specs.List.Sorted.{IsStrictlySortedBy}
use Rattle.sqlite_keyed.proofs.ListLemmas.{all-slice_get}
use Rattle.table_audits.proofs.Sorted.{both, each_looked_up, entries_are}
use Rattle.table_audits.proofs.Mapped.{entry, entry_is, told_builds}

pub build_places_total : IsTotalOrder build_place_cmp
build_places_total = then_total (on_total (λ (p : BuildPlace). p.flight) nat_cmp_total) (on_total (λ (p : BuildPlace). p.awb) int_cmp_total)

-- ---- flights in the order of their keys

is_below : {X : Type 0} (R : X → X → Type 0) (xs : List X) (x y : X) (i j : ℕ) → IsAscending R xs → i < j → slice_get xs i ≡ Some x → slice_get xs j ≡ Some y → R x y
is_below R [] x y i j up less is_x is_y = absurd (true≢false (sym (none_is x is_x)))
is_below R (a ∷ xs) x y zero zero up less is_x is_y = absurd (omega (arith, less))
is_below R (a ∷ xs) x y zero (suc j) up less is_x is_y = subst (λ z. R z y) (some_is a x is_x) (all-slice_get (R a) xs j y is_y up.0)
is_below R (a ∷ xs) x y (suc i) zero up less is_x is_y = absurd (omega (arith, less))
is_below R (a ∷ xs) x y (suc i) (suc j) up less is_x is_y = is_below R xs x y i j up.1 (omega (arith, less)) is_x is_y

module _ (flights : List FlightDate) (rows : List (FlightKey × Flight)) (of : AreFlightsOf flights rows) where
  pub distinct : AreDistinct flights
  distinct i j f is_i is_j = go (nat_cmp i j) refl
    where
      equal : flight_cmp (flight_key f) (flight_key f) ≡ Equal
      equal = tied_itself (pair_total bytes_cmp int_cmp texts_total int_cmp_total) (flight_key f)

      apart : flight_cmp (flight_key f) (flight_key f) ≡ Equal → flight_cmp (flight_key f) (flight_key f) ≡ Less → i ≡ j
      apart e h = absurd (cc)

      go : (o : Ordering) → nat_cmp i j ≡ o → i ≡ j
      go Less is = apart equal (is_below (λ a b. flight_cmp (flight_key a) (flight_key b) ≡ Less) flights f f i j of.rising (ranked i j Less (sym is)) is_i is_j)
      go Equal is = nat_cmp-IsAntisymmetric i j is
      go Greater is = apart equal (is_below (λ a b. flight_cmp (flight_key a) (flight_key b) ≡ Less) flights f f j i of.rising (ranked i j Greater (sym is)) is_j is_i)

  -- ---- rows made of sums

  abbrev made_of : Option FlightDate → BuildPlace × Tally → List (BuildKey × Build) → List (BuildKey × Build)
  made_of None e L = L
  made_of (Some f) e L = entry f e ∷ L

  abbrev made : List (BuildPlace × Tally) → List (BuildKey × Build)
  made [] = []
  made (e ∷ es) = made_of (slice_get flights e.0.flight) e (made es)

  abbrev IsListed : BuildPlace × Tally → Type 0
  IsListed e = (f : FlightDate) × (slice_get flights e.0.flight ≡ Some f)

  made_so : (es : List (BuildPlace × Tally)) → AllByRecursion IsListed es → ◌≡◌ {A = List (Option (BuildKey × Build))} (map (λ r. Some r) (made es)) (map (build_entry rows) es)
  made_so [] all = refl
  made_so (e ∷ es) all =
      let here : build_entry rows e ≡ Some (entry all.0.0 e) = entry_is flights rows of distinct e ∙ ap (option_map (λ f. entry f e)) all.0.1 in
      ap (λ o. map (λ (r : BuildKey × Build). Some r) (made_of o e (made es))) all.0.1
      ∙ ap (λ l. Some (entry all.0.0 e) ∷ l) (made_so es all.1)
      ∙ ap (λ o. o ∷ map (build_entry rows) es) (sym here)

  -- the order of two rows
  then_less : (a b : Ordering) → a ≡ Equal → b ≡ Less → ordering_then a b ≡ Less
  then_less Less b h k = refl
  then_less Equal b h k = k
  then_less Greater b h k = absurd (cc)

  first_less : (a b c : Ordering) → ordering_then a b ≡ Less → ordering_then a (ordering_then b c) ≡ Less
  first_less Less b c h = refl
  first_less Equal Less c h = refl
  first_less _ _ c h = absurd (cc)

  in_order : (f g : FlightDate) (d e : BuildPlace × Tally) → slice_get flights d.0.flight ≡ Some f → slice_get flights e.0.flight ≡ Some g → build_place_cmp d.0 e.0 ≡ Less → build_cmp (entry f d).0 (entry g e).0 ≡ Less
  in_order f g d e is_f is_g less = go (nat_cmp d.0.flight e.0.flight) refl less
    where
      go : (o : Ordering) → nat_cmp d.0.flight e.0.flight ≡ o → ordering_then o (int_cmp d.0.awb e.0.awb) ≡ Less → build_cmp (entry f d).0 (entry g e).0 ≡ Less
      go Less is h = first_less (bytes_cmp (flight_text f.flight) (flight_text g.flight)) (int_cmp (pos f.day) (pos g.day)) (int_cmp d.0.awb e.0.awb)
          (is_below (λ a b. flight_cmp (flight_key a) (flight_key b) ≡ Less) flights f g d.0.flight e.0.flight of.rising (ranked d.0.flight e.0.flight Less (sym is)) is_f is_g)
      go Equal is h =
          let one : f ≡ g = some_is f g (sym is_f ∙ ap (slice_get flights) (nat_cmp-IsAntisymmetric d.0.flight e.0.flight is) ∙ is_g) in
          then_less (bytes_cmp (flight_text f.flight) (flight_text g.flight)) (ordering_then (int_cmp (pos f.day) (pos g.day)) (int_cmp d.0.awb e.0.awb))
          (ap (λ (x : FlightDate). bytes_cmp (flight_text f.flight) (flight_text x.flight)) (sym one) ∙ tied_itself texts_total (flight_text f.flight))
          (then_less (int_cmp (pos f.day) (pos g.day)) (int_cmp d.0.awb e.0.awb) (ap (λ (x : FlightDate). int_cmp (pos f.day) (pos x.day)) (sym one) ∙ tied_itself int_cmp_total (pos f.day)) h)
      go Greater is h = absurd (cc)

  below_made : (f : FlightDate) (d : BuildPlace × Tally) → slice_get flights d.0.flight ≡ Some f → (es : List (BuildPlace × Tally)) → AllByRecursion IsListed es → AllByRecursion (λ q. build_place_cmp d.0 q ≡ Less) (keys_of es)
      → T (below_all build_cmp (entry f d).0 (made es))
  below_made f d is [] all up = tt
  below_made f d is (e ∷ es) all up = subst (λ o. T (below_all build_cmp (entry f d).0 (made_of o e (made es)))) (sym all.0.1)
      (both (is_lt (build_cmp (entry f d).0 (entry all.0.0 e).0)) (below_all build_cmp (entry f d).0 (made es))
      (subst (λ o. T (is_lt o)) (sym (in_order f all.0.0 d e is all.0.1 up.0)) tt) (below_made f d is es all.1 up.1))

  made_sorted : (es : List (BuildPlace × Tally)) → AllByRecursion IsListed es → IsStrictlySortedBy build_place_cmp (keys_of es) → T (is_sorted build_cmp (made es))
  unfolding IsStrictlySortedBy
  made_sorted [] all up = tt
  made_sorted (e ∷ es) all up = subst (λ o. T (is_sorted build_cmp (made_of o e (made es)))) (sym all.0.1)
      (both (below_all build_cmp (entry all.0.0 e).0 (made es)) (is_sorted build_cmp (made es)) (below_made all.0.0 e all.0.1 es all.1 up.0) (made_sorted es all.1 up.1))

  module _ (sums : BookSums) (book : List Move) (are : AreSums flights sums (running book)) (up : IsStrictlySortedBy build_place_cmp (keys_of sums.builds.entries)) where
    due_listed : (awb : ℤ) (o : Option FlightDate) (b : Build) → build_due (running book) awb o ≡ Some b → (f : FlightDate) × (o ≡ Some f)
    due_listed (pos w) None b h = absurd (true≢false (sym (none_is b h)))
    due_listed (pos w) (Some f) b h = (f, refl)
    due_listed (negsuc n) o b h = absurd (true≢false (sym (none_is b h)))

    all_listed : AllByRecursion IsListed sums.builds.entries
    all_listed = each_looked_up build_place_cmp build_places_total sums.builds.entries up IsListed
        (λ q v is. due_listed q.awb (slice_get flights q.flight) (build_row v) (sym (are.builds q.flight q.awb) ∙ ap (option_map build_row) is))

    pub same_builds : (t : Tables) → map (λ (r : BuildKey × Build). Some r) (entries t.builds) ≡ map (build_entry rows) sums.builds.entries → AreBuilds t.builds book
    same_builds t zip q = get-entries t.builds q ∙ told_builds flights rows of distinct sums book are (entries t.builds) zip q

    pub builds_same : (t : Tables) → AreBuilds t.builds book → map (λ (r : BuildKey × Build). Some r) (entries t.builds) ≡ map (build_entry rows) sums.builds.entries
    builds_same t h =
        let zip = made_so sums.builds.entries all_listed in
        let one : entries t.builds ≡ made sums.builds.entries =
        entries_are build_cmp builds_total (pair_same bytes_cmp (pair_cmp int_cmp int_cmp) texts_same (pair_same int_cmp int_cmp int_cmp-IsAntisymmetric int_cmp-IsAntisymmetric)) t.builds (made sums.builds.entries)
        (made_sorted sums.builds.entries all_listed up) (λ q. h q ∙ sym (told_builds flights rows of distinct sums book are (made sums.builds.entries) zip q)) in
        ap (map (λ (r : BuildKey × Build). Some r)) one ∙ zip

pub builds_compared : {X : Type 0} (of_row : X → BuildKey × Build) (sums : BookSums) (t : Tables) (rows : List (FlightKey × Flight)) (flights : List FlightDate) (book : List Move) (xs : List X) (b : Bool)
    → (IsTrue b ↔ (map (λ x. Some (of_row x)) xs ≡ map (build_entry rows) sums.builds.entries)) → IsStrictlySortedBy build_place_cmp (keys_of sums.builds.entries)
    → AreFlightsOf flights rows → AreSums flights sums (running book) → entries t.builds ≡ map of_row xs → IsTrue b ↔ AreBuilds t.builds book
builds_compared of_row sums t rows flights book xs b says up of are is =
    let all : map (λ (r : BuildKey × Build). Some r) (entries t.builds) ≡ map (λ x. Some (of_row x)) xs = ap (map (λ (r : BuildKey × Build). Some r)) is ∙ map-map (λ (r : BuildKey × Build). Some r) of_row xs in (
      λ h. same_builds flights rows of sums book are up t (all ∙ says.0 h),
      λ h. says.1 (sym all ∙ builds_same flights rows of sums book are up t h),
    )
