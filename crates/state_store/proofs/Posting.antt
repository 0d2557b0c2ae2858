-- What a move more changes of the sums beside the book.
use Rattle.state_store.proofs.Common.{BTreeMap, Bool, Built, Delivered, Departed, Equal-is, FlightDate, FlightKey, Flow, Free, Hand, IsWaybillSummed, List, Missing, Move, None, Option, Place, Some, Surplus, Transferred, WaybillFlows, [], and_from, ap, arith, both_ways, brings, by_flight, by_key, common_steps, cond, eqb-true, false, flow_at, flow_by, flow_in, flow_of, flow_with, flows_of, flows_with, get, has_moves, if◌then◌else◌, is_at, is_eq, is_some, key_total, lookup, more, moved_in, moved_out, nat_cmp, no_flows, pieces_of, refl, same-is, same-refl, same_flight_date, same_place, still, sym, takes, tenths_of, tied_itself, true, true≢false, unwrap_or, ℕ, ◌&&◌, ◌++◌, ◌+◌, ◌==◌, ◌||◌, ◌∙◌, ◌∷◌, ◌≡◌}
use Rattle.std.proofs.lemmas.List.Folds.{list_any-append}
use Rattle.std.proofs.lemmas.List.Sums.{sum_by_push}
use Rattle.shipment_machine.proofs.Places.{same_test}
use Rattle.state_store.proofs.Tied.{one_flight}
use Rattle.state_store.specs.declared.maps.flow.Total.{Total}

-- ---- the flow of a place, with a move more

in_more : (measure : Move → ℕ) (w : ℕ) (there : Place → Bool) (book : List Move) (m : Move) → moved_in measure (book ++ m ∷ []) w there ≡ moved_in measure book w there + brings measure w there m
in_more measure w there book m = sum_by_push (brings measure w there) book m

out_more : (measure : Move → ℕ) (w : ℕ) (there : Place → Bool) (book : List Move) (m : Move) → moved_out measure (book ++ m ∷ []) w there ≡ moved_out measure book w there + takes measure w there m
out_more measure w there book m = sum_by_push (takes measure w there) book m

abbrev total : ℕ → ℕ → Total
total pieces tenths = record { pieces = pieces; tenths = tenths }

-- of its waybill, a move to the place or from there counts
sum_own : (p t p' t' : ℕ) (own there : Bool) (m : Move) → own ≡ true → p' ≡ p + (if own && there then m.pieces else 0) → t' ≡ t + (if own && there then m.tenths else 0) → total p' t' ≡ (if there then total (p + m.pieces) (t + m.tenths) else total p t)
sum_own p t p' t' true true m own e f = λ i. total (e i) (f i)
sum_own p t p' t' true false m own e f = let a : p' ≡ p = omega (arith, e) in let b : t' ≡ t = omega (arith, f) in λ i. total (a i) (b i)
sum_own p t p' t' false there m own e f = absurd (true≢false (sym own))

sum_other : (p t p' t' : ℕ) (own there : Bool) (m : Move) → own ≡ false → p' ≡ p + (if own && there then m.pieces else 0) → t' ≡ t + (if own && there then m.tenths else 0) → total p' t' ≡ total p t
sum_other p t p' t' true there m own e f = absurd (true≢false own)
sum_other p t p' t' false there m own e f = let a : p' ≡ p = omega (arith, e) in let b : t' ≡ t = omega (arith, f) in λ i. total (a i) (b i)

pub own_flow : (book : List Move) (m : Move) (w : ℕ) (place : Place) → (m.awb == w) ≡ true → flow_of (book ++ m ∷ []) w place ≡ flow_with place (flow_of book w place) m
own_flow book m w place own =
    let there : Place → Bool = same_place place in
    let came = sum_own (moved_in pieces_of book w there) (moved_in tenths_of book w there) (moved_in pieces_of (book ++ m ∷ []) w there) (moved_in tenths_of (book ++ m ∷ []) w there)
    (m.awb == w) (there m.to) m own (in_more pieces_of w there book m) (in_more tenths_of w there book m) in
    let went = sum_own (moved_out pieces_of book w there) (moved_out tenths_of book w there) (moved_out pieces_of (book ++ m ∷ []) w there) (moved_out tenths_of (book ++ m ∷ []) w there)
    (m.awb == w) (there m.from) m own (out_more pieces_of w there book m) (out_more tenths_of w there book m) in
    λ i. record { came = came i; went = went i }

pub other_flow : (book : List Move) (m : Move) (w : ℕ) (place : Place) → (m.awb == w) ≡ false → flow_of (book ++ m ∷ []) w place ≡ flow_of book w place
other_flow book m w place other =
    let there : Place → Bool = same_place place in
    let came = sum_other (moved_in pieces_of book w there) (moved_in tenths_of book w there) (moved_in pieces_of (book ++ m ∷ []) w there) (moved_in tenths_of (book ++ m ∷ []) w there)
    (m.awb == w) (there m.to) m other (in_more pieces_of w there book m) (in_more tenths_of w there book m) in
    let went = sum_other (moved_out pieces_of book w there) (moved_out tenths_of book w there) (moved_out pieces_of (book ++ m ∷ []) w there) (moved_out tenths_of (book ++ m ∷ []) w there)
    (m.awb == w) (there m.from) m other (out_more pieces_of w there book m) (out_more tenths_of w there book m) in
    λ i. record { came = came i; went = went i }

own_flows : (book : List Move) (m : Move) (w : ℕ) → (m.awb == w) ≡ true → flows_of (book ++ m ∷ []) w ≡ flows_with (flows_of book w) m
own_flows book m w own = λ i. record {
  hand = own_flow book m w Hand own i;
  surplus = own_flow book m w Surplus own i;
  free = own_flow book m w Free own i;
  missing = own_flow book m w Missing own i;
  departed = own_flow book m w Departed own i;
  delivered = own_flow book m w Delivered own i;
  transferred = own_flow book m w Transferred own i;
}

other_flows : (book : List Move) (m : Move) (w : ℕ) → (m.awb == w) ≡ false → flows_of (book ++ m ∷ []) w ≡ flows_of book w
other_flows book m w other = λ i. record {
  hand = other_flow book m w Hand other i;
  surplus = other_flow book m w Surplus other i;
  free = other_flow book m w Free other i;
  missing = other_flow book m w Missing other i;
  departed = other_flow book m w Departed other i;
  delivered = other_flow book m w Delivered other i;
  transferred = other_flow book m w Transferred other i;
}

-- ---- whether a waybill has a move

or_true : (b c : Bool) → c ≡ true → (b || (c || false)) ≡ true
or_true true c e = refl
or_true false c e = ap (λ x. x || false) e

or_false : (b c : Bool) → c ≡ false → (b || (c || false)) ≡ b
or_false true c e = refl
or_false false c e = ap (λ x. x || false) e

own_moved : (book : List Move) (m : Move) (w : ℕ) → (m.awb == w) ≡ true → has_moves (book ++ m ∷ []) w ≡ true
own_moved book m w own = list_any-append (λ n. n.awb == w) book (m ∷ []) ∙ or_true (has_moves book w) (m.awb == w) own

other_moved : (book : List Move) (m : Move) (w : ℕ) → (m.awb == w) ≡ false → has_moves (book ++ m ∷ []) w ≡ has_moves book w
other_moved book m w other = list_any-append (λ n. n.awb == w) book (m ∷ []) ∙ or_false (has_moves book w) (m.awb == w) other

-- ---- the flows of a waybill

key_at : (key w : ℕ) → is_at (nat_cmp key) w ≡ (key == w)
key_at key w = grind (arith, common_steps)

pub posted_waybill : (old new : BTreeMap ℕ WaybillFlows) (book : List Move) (m : Move) (key : ℕ) (flows : WaybillFlows) → key ≡ m.awb
    → flows ≡ flows_with (unwrap_or (get nat_cmp old key) no_flows) m
    → ((q : ℕ) → get nat_cmp new q ≡ cond (is_at (nat_cmp key) q) (Some flows) (get nat_cmp old q))
    → ((w : ℕ) → IsWaybillSummed old book w) → (w : ℕ) → IsWaybillSummed new (book ++ m ∷ []) w
posted_waybill old new book m key flows at is updates were w =
    by_case (m.awb == w) refl
  where
    here : (b : Bool) → (m.awb == w) ≡ b → get nat_cmp new w ≡ cond b (Some flows) (get nat_cmp old w)
    here b e = updates w ∙ ap (λ c. cond c (Some flows) (get nat_cmp old w)) (key_at key w ∙ ap (λ n. n == w) at ∙ e)

    by_case : (b : Bool) → (m.awb == w) ≡ b → IsWaybillSummed new (book ++ m ∷ []) w
    by_case true e =
        let same : key ≡ w = at ∙ eqb-true m.awb w e in
        record {
          are = ap (λ o. unwrap_or o no_flows) (here true e) ∙ is ∙ ap (λ f. flows_with f m) (ap (λ n. unwrap_or (get nat_cmp old n) no_flows) same ∙ (were w).are) ∙ sym (own_flows book m w e);
          moved = ap (λ o. is_some o) (here true e) ∙ sym (own_moved book m w e);
        }
    by_case false e = record {
      are = ap (λ o. unwrap_or o no_flows) (here false e) ∙ (were w).are ∙ sym (other_flows book m w e);
      moved = ap (λ o. is_some o) (here false e) ∙ (were w).moved ∙ sym (other_moved book m w e);
    }

-- ---- the flights

-- a key is that of a flight where it ties with the flight's
flight_tie : (key k : FlightKey) (flight : FlightDate) → key.flight ≡ flight → is_at (by_key key) k ≡ same_flight_date flight k.flight
flight_tie key k flight at = both_ways (is_at (by_key key) k) (same_flight_date flight k.flight) there back
  where
    there : is_at (by_key key) k ≡ true → same_flight_date flight k.flight ≡ true
    there e = ap (λ (f : FlightDate). same_flight_date f k.flight) (sym at ∙ one_flight key k ((Equal-is (by_key key k)).0 e)) ∙ same-refl k.flight

    back : same_flight_date flight k.flight ≡ true → is_at (by_key key) k ≡ true
    back e = ap (λ (f : FlightDate). is_eq (by_flight f k.flight)) (at ∙ same-is flight k.flight e) ∙ ap is_eq (tied_itself key_total k)

-- keys that tie have one entry
pub one_entry : {X : Type 0} (m : BTreeMap FlightKey X) (a b : FlightKey) → is_at (by_key a) b ≡ true → get by_key m a ≡ get by_key m b
one_entry m a b e = let tie = (Equal-is (by_key a b)).0 e in λ i. lookup (λ z. is_eq (key_total.congr a b z tie i)) m.entries

abbrev Loads : Type 0
Loads = BTreeMap FlightKey (BTreeMap ℕ Flow)

-- the flows of a flight that were taken out
pub taken_some : (loads : Loads) (k : FlightKey) (flows : BTreeMap ℕ Flow) (o : Option (BTreeMap ℕ Flow)) → o ≡ get by_key loads k → o ≡ Some flows → (w : ℕ) → flow_in flows w ≡ flow_at loads k w
taken_some loads k flows o was some w = ap (λ p. flow_by p w) (sym some ∙ was)

pub taken_none : (loads : Loads) (k : FlightKey) (flows : BTreeMap ℕ Flow) (o : Option (BTreeMap ℕ Flow)) → o ≡ get by_key loads k → o ≡ None → flows.entries ≡ [] → (w : ℕ) → flow_in flows w ≡ flow_at loads k w
taken_none loads k flows o was none empty w = ap (λ es. unwrap_or (lookup (is_at (nat_cmp w)) es) still) empty ∙ ap (λ p. flow_by p w) (sym none ∙ was)

pub other_entry : (a b : Option (BTreeMap ℕ Flow)) (t : Bool) (x : Option (BTreeMap ℕ Flow)) → t ≡ false → a ≡ cond t x b → a ≡ b
other_entry a b t x e is = is ∙ ap (λ s. cond s x b) e

-- a flow in the flows of a flight
pub posted_flow : (old new : BTreeMap ℕ Flow) (place : Place) (m : Move) (key : ℕ) (added : Flow) → key ≡ m.awb → added ≡ flow_with place (flow_in old m.awb) m
    → ((q : ℕ) → get nat_cmp new q ≡ cond (is_at (nat_cmp key) q) (Some added) (get nat_cmp old q))
    → (w : ℕ) → flow_in new w ≡ (if m.awb == w then flow_with place (flow_in old w) m else flow_in old w)
posted_flow old new place m key added at is updates w = ap (λ o. unwrap_or o still) (updates w ∙ ap (λ b. cond b (Some added) (get nat_cmp old w)) (key_at key w ∙ ap (λ n. n == w) at)) ∙ by_case (m.awb == w) refl
  where
    by_case : (b : Bool) → (m.awb == w) ≡ b → unwrap_or (cond b (Some added) (get nat_cmp old w)) still ≡ (if b then flow_with place (flow_in old w) m else flow_in old w)
    by_case true e = is ∙ ap (λ n. flow_with place (flow_in old n) m) (eqb-true m.awb w e)
    by_case false e = refl

pub posted_load : (old mid new : Loads) (place : Place) (flight : FlightDate) (m : Move) (key : FlightKey) (taken flows : BTreeMap ℕ Flow)
    → place ≡ Built flight → key.flight ≡ flight → ((w : ℕ) → flow_in taken w ≡ flow_at old key w)
    → ((w : ℕ) → flow_in flows w ≡ (if m.awb == w then flow_with place (flow_in taken w) m else flow_in taken w))
    → ((k : FlightKey) → is_at (by_key key) k ≡ false → get by_key mid k ≡ get by_key old k)
    → ((q : FlightKey) → get by_key new q ≡ cond (is_at (by_key key) q) (Some flows) (get by_key mid q))
    → (k : FlightKey) (w : ℕ) → flow_at new k w ≡ (if same_place place (Built k.flight) && (m.awb == w) then flow_with place (flow_at old k w) m else flow_at old k w)
posted_load old mid new place flight m key taken flows built at was posted others updates k w =
    ap (λ o. flow_by o w) (updates k) ∙ by_case (is_at (by_key key) k) refl
    ∙ ap (λ b. if b && (m.awb == w) then flow_with place (flow_at old k w) m else flow_at old k w) test
  where
    test : is_at (by_key key) k ≡ same_place place (Built k.flight)
    test = flight_tie key k flight at ∙ ap (λ p. same_place p (Built k.flight)) (sym built)

    by_case : (b : Bool) → is_at (by_key key) k ≡ b → flow_by (cond b (Some flows) (get by_key mid k)) w ≡ (if b && (m.awb == w) then flow_with place (flow_at old k w) m else flow_at old k w)
    by_case true e =
        let same : flow_in taken w ≡ flow_at old k w = was w ∙ ap (λ o. flow_by o w) (one_entry old key k e) in
        posted w ∙ ap (λ f. if m.awb == w then flow_with place f m else f) same
    by_case false e = ap (λ o. flow_by o w) (others k e)

-- what isn't on a flight is posted nowhere
pub not_posted : (place : Place) (flow : Flow) (m : Move) (k : FlightKey) (w : ℕ) → same_place place (Built k.flight) ≡ false → flow ≡ (if same_place place (Built k.flight) && (m.awb == w) then flow_with place flow m else flow)
not_posted place flow m k w e = sym (ap (λ b. if b && (m.awb == w) then flow_with place flow m else flow) e)

-- ---- both places of a move

place_refl : (p : Place) → same_place p p ≡ true
place_refl Hand = refl
place_refl Surplus = refl
place_refl Free = refl
place_refl (Built f) = same-refl f
place_refl Departed = refl
place_refl Delivered = refl
place_refl Missing = refl
place_refl Transferred = refl

place_sym : (p q : Place) → same_place p q ≡ true → same_place q p ≡ true
place_sym p q e = same_test p q e p ∙ place_refl p

place_not : (p q : Place) → same_place p q ≡ false → same_place q p ≡ false
place_not p q e = by_case (same_place q p) refl
  where
    by_case : (b : Bool) → same_place q p ≡ b → b ≡ false
    by_case false h = refl
    by_case true h = absurd (true≢false (sym (place_sym q p h) ∙ e))

at_one : (p b : Place) (f : Flow) (m : Move) → same_place p b ≡ true → flow_with p f m ≡ flow_with b f m
at_one p b f m e =
    let to = sym (same_test p b e m.to) in
    let from = sym (same_test p b e m.from) in
    λ i. record {
      came = if to i then more f.came m else f.came;
      went = if from i then more f.went m else f.went;
    }

at_none : (b : Place) (f : Flow) (m : Move) → same_place b m.to ≡ false → same_place b m.from ≡ false → flow_with b f m ≡ f
at_none b f m to from = λ i. record {
  came = if to i then more f.came m else f.came;
  went = if from i then more f.went m else f.went;
}

other_and : (x own : Bool) → own ≡ false → (x && own) ≡ false
other_and true own e = e
other_and false own e = refl

-- posted to the place that a move leads to, and then to the place that it comes from where that is another
module _ (b : Place) (old mid : Flow) (m : Move) (own : Bool) (first : mid ≡ (if same_place m.to b && own then flow_with m.to old m else old)) where
  if_first : (t : Bool) → (same_place m.to b && own) ≡ t → mid ≡ (if t then flow_with m.to old m else old)
  if_first t e = first ∙ ap (λ x. if x then flow_with m.to old m else old) e

  first_other : own ≡ false → mid ≡ old
  first_other e = if_first false (other_and (same_place m.to b) own e)

  pub only_first : own ≡ true → same_place m.to m.from ≡ true → mid ≡ flow_with b old m
  only_first e same = by_case (same_place m.to b) refl
    where
      by_case : (t : Bool) → same_place m.to b ≡ t → mid ≡ flow_with b old m
      by_case true h = if_first true (and_from _ _ h e) ∙ at_one m.to b old m h
      by_case false h = if_first false (ap (λ x. x && own) h) ∙ sym (at_none b old m (place_not m.to b h) (place_not m.from b (same_test m.to m.from same b ∙ h)))

  module _ (new : Flow) (second : new ≡ (if same_place m.from b && own then flow_with m.from mid m else mid)) where
    if_second : (t : Bool) → (same_place m.from b && own) ≡ t → new ≡ (if t then flow_with m.from mid m else mid)
    if_second t e = second ∙ ap (λ x. if x then flow_with m.from mid m else mid) e

    pub both_other : own ≡ false → new ≡ old
    both_other e = if_second false (other_and (same_place m.from b) own e) ∙ first_other e

    pub first_and_second : own ≡ true → same_place m.to m.from ≡ false → new ≡ flow_with b old m
    first_and_second e apart = by_case (same_place m.to b) (same_place m.from b) refl refl
      where
        not_both : same_place m.to b ≡ true → same_place m.from b ≡ true → ⊥
        not_both h k = true≢false (sym (place_sym m.from m.to (same_test b m.from (place_sym m.from b k) m.to ∙ place_sym m.to b h)) ∙ apart)

        by_case : (t f : Bool) → same_place m.to b ≡ t → same_place m.from b ≡ f → new ≡ flow_with b old m
        by_case true true h k = absurd (not_both h k)
        by_case true false h k = if_second false (ap (λ x. x && own) k) ∙ if_first true (and_from _ _ h e) ∙ at_one m.to b old m h
        by_case false true h k = if_second true (and_from _ _ k e) ∙ ap (λ f. flow_with m.from f m) (if_first false (ap (λ x. x && own) h)) ∙ at_one m.from b old m k
        by_case false false h k = if_second false (ap (λ x. x && own) k) ∙ if_first false (ap (λ x. x && own) h) ∙ sym (at_none b old m (place_not m.to b h) (place_not m.from b k))

-- ---- the flows of flights, with a move more

module _ (b : Place) (old mid : Flow) (m : Move) (own : Bool) (first : mid ≡ (if same_place m.to b && own then flow_with m.to old m else old)) where
  pub posted_first : same_place m.to m.from ≡ true → mid ≡ (if own then flow_with b old m else old)
  posted_first same = by_case own refl
    where
      by_case : (t : Bool) → own ≡ t → mid ≡ (if t then flow_with b old m else old)
      by_case true e = only_first b old mid m own first e same
      by_case false e = first_other b old mid m own first e

  pub posted_both : (new : Flow) → new ≡ (if same_place m.from b && own then flow_with m.from mid m else mid) → same_place m.to m.from ≡ false → new ≡ (if own then flow_with b old m else old)
  posted_both new second apart = by_case own refl
    where
      by_case : (t : Bool) → own ≡ t → new ≡ (if t then flow_with b old m else old)
      by_case true e = first_and_second b old mid m own first new second e apart
      by_case false e = both_other b old mid m own first new second e

-- of a waybill on a flight, where the flow there is that of the book with the move
pub flight_summed : (book : List Move) (m : Move) (k : FlightKey) (w : ℕ) (old new : Flow) → old ≡ flow_of book w (Built k.flight)
    → new ≡ (if m.awb == w then flow_with (Built k.flight) old m else old) → new ≡ flow_of (book ++ m ∷ []) w (Built k.flight)
flight_summed book m k w old new was is = is ∙ by_case (m.awb == w) refl
  where
    by_case : (b : Bool) → (m.awb == w) ≡ b → (if b then flow_with (Built k.flight) old m else old) ≡ flow_of (book ++ m ∷ []) w (Built k.flight)
    by_case true e = ap (λ f. flow_with (Built k.flight) f m) was ∙ sym (own_flow book m w (Built k.flight) e)
    by_case false e = was ∙ sym (other_flow book m w (Built k.flight) e)
