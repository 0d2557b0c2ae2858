-- Rows by sums that are kept in order are those of the book.
use Rattle.state_store.proofs.Common.{All, AllByRecursion, BTreeMap, Bool, Built, FlightDate, Flow, IsStrictlySortedBy, IsWaybillSummed, Less, List, Load, Move, None, Option, Some, WaybillFlows, WaybillQuery, [], ap, append-nil, append_assoc, arith, asked, asked_by, built, common_steps, cond, false, filter, flat_map, flat_map-cons, flow_in, flow_of, get, held_of, if◌then◌else◌, is_at, is_some, keys_of, load_on, loaded, loads_on, lookup, map, nat_cmp, nat_lt, nat_tests, no_flows, refl, sorted_head, sorted_tail, still, suc, sym, true, unwrap_or, waybills_for, waybills_of, waybills_on, ℕ, ◌&&◌, ◌++◌, ◌<◌, ◌==◌, ◌||◌, ◌∙◌, ◌∷◌, ◌≡◌}
use Rattle.shipment_machine.specs.Cargo.{IsAscending, is_in}
use Rattle.shipment_machine.proofs.OnFlight.{Rising-waybills_of, is_in-waybills_of, is_in-waybills_on}
use Rattle.shipment_machine.proofs.Rising.{Rising-filter, is_in-filter, same_rising}

-- one entry further
pub row_more : {E X : Type 0} (f : E → List X) (rows new whole : List X) (ahead more : List E) (e : E) → rows ++ flat_map f ahead ≡ whole → ahead ≡ e ∷ more → new ≡ rows ++ f e → new ++ flat_map f more ≡ whole
row_more f rows new whole ahead more e so is put =
    ap (λ l. l ++ flat_map f more) put ∙ append_assoc rows (f e) (flat_map f more)
    ∙ ap (λ l. rows ++ l) (sym (flat_map-cons f e more)) ∙ ap (λ l. rows ++ flat_map f l) (sym is) ∙ so

pub row_last : {E X : Type 0} (f : E → List X) (rows whole : List X) (ahead : List E) → rows ++ flat_map f ahead ≡ whole → ahead ≡ [] → rows ≡ whole
row_last f rows whole ahead so end = sym (append-nil rows) ∙ ap (λ l. rows ++ flat_map f l) (sym end) ∙ so

pub listed_more : {X : Type 0} (rows new whole ahead more : List X) (x : X) → rows ++ ahead ≡ whole → ahead ≡ x ∷ more → new ≡ rows ++ x ∷ [] → new ++ more ≡ whole
listed_more rows new whole ahead more x so is put = ap (λ l. l ++ more) put ∙ append_assoc rows (x ∷ []) more ∙ ap (λ l. rows ++ l) (sym is) ∙ so

-- ---- the keys of a map in order

less : (a b : ℕ) → nat_cmp a b ≡ Less → a < b
less a b h = grind (arith, nat_tests)

all_above : (k : ℕ) (ks : List ℕ) → AllByRecursion (λ y. nat_cmp k y ≡ Less) ks → AllByRecursion (λ y. k < y) ks
all_above k [] h = tt
all_above k (x ∷ ks) h = (less k x h.0, all_above k ks h.1)

rises : (ks : List ℕ) → IsStrictlySortedBy nat_cmp ks → IsAscending ks
rises [] h = tt
rises (k ∷ ks) h = (all_above k ks (sorted_head nat_cmp k ks h), rises ks (sorted_tail nat_cmp k ks h))

key_is : (r k : ℕ) → is_at (nat_cmp r) k ≡ (k == r)
key_is r k = grind (arith, common_steps)

is_in-keys : {X : Type 0} (r : ℕ) (es : List (ℕ × X)) → is_in r (keys_of es) ≡ is_some (lookup (is_at (nat_cmp r)) es)
is_in-keys r [] = refl
is_in-keys {X} r (e ∷ es) = by_case (e.0 == r) refl (is_in-keys r es)
  where
    by_case : (b : Bool) → (e.0 == r) ≡ b → is_in r (keys_of es) ≡ is_some (lookup (is_at (nat_cmp r)) es) → ((e.0 == r) || is_in r (keys_of es)) ≡ is_some (cond (is_at (nat_cmp r) e.0) (Some e.1) (lookup (is_at (nat_cmp r)) es))
    by_case true h rest = ap (λ c. c || is_in r (keys_of es)) h ∙ sym (ap (λ c. is_some (cond c (Some e.1) (lookup (is_at (nat_cmp r)) es))) (key_is r e.0 ∙ h))
    by_case false h rest = ap (λ c. c || is_in r (keys_of es)) h ∙ rest ∙ sym (ap (λ c. is_some (cond c (Some e.1) (lookup (is_at (nat_cmp r)) es))) (key_is r e.0 ∙ h))

-- rows of entries that are what is said of their keys
by_keys : {V X : Type 0} (f : ℕ × V → List X) (g : ℕ → List X) (P : ℕ × V → Type 0) → ((e : ℕ × V) → P e → f e ≡ g e.0) → (es : List (ℕ × V)) → All P es → flat_map f es ≡ flat_map g (keys_of es)
by_keys f g P so [] all = refl
by_keys f g P so (e ∷ es) all =
    flat_map-cons f e es ∙ (λ i. so e (all 0 e (omega arith)) i ++ by_keys f g P so es (λ k d low. all (suc k) d (omega (arith, low))) i) ∙ sym (flat_map-cons g e.0 (keys_of es))

-- ---- the waybills of a book

module _ (flows : BTreeMap ℕ WaybillFlows) (book : List Move) (summed : (w : ℕ) → IsWaybillSummed flows book w) (ordered : IsStrictlySortedBy nat_cmp (keys_of flows.entries)) (each : All (λ e. get nat_cmp flows e.0 ≡ Some e.1) flows.entries) where
  keys_are : keys_of flows.entries ≡ waybills_of book
  keys_are = same_rising _ _ (rises (keys_of flows.entries) ordered) (Rising-waybills_of book)
      (λ r. is_in-keys r flows.entries ∙ (summed r).moved ∙ sym (is_in-waybills_of r book))

  pub all_asked : (query : WaybillQuery) → flat_map (asked_by query) flows.entries ≡ waybills_for query book
  all_asked query =
      by_keys (asked_by query) (asked query book) (λ e. get nat_cmp flows e.0 ≡ Some e.1) (λ e at. ap (λ f. asked_by query (e.0, f)) (sym (ap (λ o. unwrap_or o no_flows) at) ∙ (summed e.0).are)) flows.entries each
      ∙ ap (λ l. flat_map (asked query book) l) keys_are

-- ---- the waybills on a flight

abbrev is_on : List Move → FlightDate → ℕ → Bool
is_on book f w = nat_lt 0 (built book w f).pieces

abbrev load_if : List Move → FlightDate → ℕ → List Load
load_if book f w = if is_on book f w then load_on book f w ∷ [] else []

chosen : {X : Type 0} (p : ℕ → Bool) (g : ℕ → X) (ws : List ℕ) → flat_map (λ w. if p w then g w ∷ [] else []) ws ≡ map g (filter p ws)
chosen p g [] = refl
chosen p g (w ∷ ws) = flat_map-cons (λ v. if p v then g v ∷ [] else []) w ws ∙ by_case (p w) (chosen p g ws)
  where
    by_case : (b : Bool) → flat_map (λ v. if p v then g v ∷ [] else []) ws ≡ map g (filter p ws) → (if b then g w ∷ [] else []) ++ flat_map (λ v. if p v then g v ∷ [] else []) ws ≡ map g (if b then w ∷ filter p ws else filter p ws)
    by_case true h = ap (λ l. g w ∷ l) h
    by_case false h = h

module _ (flows : BTreeMap ℕ Flow) (book : List Move) (f : FlightDate) (summed : (w : ℕ) → flow_in flows w ≡ flow_of book w (Built f)) (ordered : IsStrictlySortedBy nat_cmp (keys_of flows.entries)) (each : All (λ e. get nat_cmp flows e.0 ≡ Some e.1) flows.entries) where
  -- a waybill that isn't kept has nothing there
  kept : (r : ℕ) → (is_on book f r && is_some (get nat_cmp flows r)) ≡ is_on book f r
  kept r = by_case (get nat_cmp flows r) refl
    where
      and_true : (b : Bool) → (b && true) ≡ b
      and_true true = refl
      and_true false = refl

      nothing : (b : Bool) → b ≡ false → (b && false) ≡ b
      nothing true e = sym e
      nothing false e = refl

      by_case : (o : Option Flow) → get nat_cmp flows r ≡ o → (is_on book f r && is_some o) ≡ is_on book f r
      by_case (Some x) e = and_true (is_on book f r)
      by_case None e = nothing (is_on book f r) (ap (λ (x : Flow). nat_lt 0 (held_of x).pieces) (sym (summed r) ∙ ap (λ o. unwrap_or o still) e))

  on_flight : filter (is_on book f) (keys_of flows.entries) ≡ waybills_on book f
  on_flight = same_rising _ _ (Rising-filter (is_on book f) _ (rises (keys_of flows.entries) ordered)) (Rising-filter (is_on book f) _ (Rising-waybills_of book))
      (λ r. is_in-filter (is_on book f) r (keys_of flows.entries) ∙ ap (λ b. is_on book f r && b) (is_in-keys r flows.entries) ∙ kept r ∙ sym (is_in-waybills_on r book f))

  pub all_loaded : flat_map loaded flows.entries ≡ loads_on book f
  all_loaded =
      by_keys loaded (load_if book f) (λ e. get nat_cmp flows e.0 ≡ Some e.1) (λ e at. ap (λ x. loaded (e.0, x)) (sym (ap (λ o. unwrap_or o still) at) ∙ summed e.0)) flows.entries each
      ∙ chosen (is_on book f) (load_on book f) (keys_of flows.entries) ∙ ap (map (load_on book f)) on_flight

-- nothing is kept of a flight, so nothing is on it
pub none_loaded : (book : List Move) (f : FlightDate) → ((w : ℕ) → still ≡ flow_of book w (Built f)) → [] ≡ loads_on book f
none_loaded book f summed = ap (map (load_on book f)) (same_rising [] (waybills_on book f) tt (Rising-filter (is_on book f) _ (Rising-waybills_of book))
    (λ r. ap (λ (x : Flow). nat_lt 0 (held_of x).pieces) (summed r) ∙ sym (is_in-waybills_on r book f)))
