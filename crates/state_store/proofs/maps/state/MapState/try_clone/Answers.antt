use Rattle.std.proofs.Common.{◌≡◌, ◌∙◌, ap, ap₂, refl, sym, ℕ, List, Option, Some, None, option_map, is_some, map}
use Rattle.state_store.proofs.Copies.{all_alike, found_again, found_alike, mapped_alike}
use Rattle.state_store.proofs.Common.{Move, Part, bytes_eq, state_of, lookup, is_at, nat_cmp, unwrap_or, by_key, same_part, part_of, parts_in, texts_in, trail_line, same_flight_date, same_line, line_of, has_moves, Built}
use Rattle.std.specs.BTreeMap.{BTreeMap}
use Rattle.state_store.specs.Store.{flow_of, still, count_under, kept_in, kept_under, named_by, flow_at, flow_by, flow_in, flows_of, no_flows}
use Rattle.state_store.specs.declared.flight_key.FlightKey.{FlightKey}
use Rattle.state_store.specs.declared.maps.flow.Flow.{Flow}
use Rattle.state_store.specs.declared.maps.waybill_flows.WaybillFlows.{WaybillFlows}
use Rattle.state_store.proofs.maps.state.MapState.try_clone.Goals as goal

by_flows : (o : Option (BTreeMap ℕ Flow)) (w : ℕ) → flow_by o w ≡ unwrap_or (option_map (λ flows. flow_in flows w) o) still
by_flows None w = refl
by_flows (Some flows) w = refl

entry_alike : {K A : Type 0} (R : K × Option A → K × Option A → Type 0) → ((k l : K) (a : A) → R (k, None) (l, Some a) → ⊥) → ((k l : K) (a : A) → R (k, Some a) (l, None) → ⊥)
    → ((k l : K) → R (k, None) (l, None) → l ≡ k) → ((k l : K) (a b : A) → R (k, Some a) (l, Some b) → (l ≡ k) × (b ≡ a)) → (x y : K × Option A) → R x y → y ≡ x
entry_alike R left right none some (k, None) (l, None) h = ap (λ n. (n, None)) (none k l h)
entry_alike R left right none some (k, None) (l, Some b) h = absurd (left k l b h)
entry_alike R left right none some (k, Some a) (l, None) h = absurd (right k l a h)
entry_alike R left right none some (k, Some a) (l, Some b) h = let same = some k l a b h in ap₂ (λ n o. (n, Some o)) same.0 same.1

pub returns : goal.returns
returns c = λ s h.
    let old = c.args.self.now in
    let new = c.in_ok-clone.field-0 in
    let all = c.in_ok-clone.ensures.cases in
    let behind_stock = all.1.1.1 in
    let book = behind_stock.1.0 in
    let behind_book = behind_stock.1.1 in
    let behind_parts = behind_book.1.1.1 in
    let begins : new.stock.begins.entries ≡ old.stock.begins.entries =
    all_alike (entry_alike _ (λ k l a h. h.1) (λ k l a h. h.1) (λ k l h. h.0) (λ k l a b h. (h.0, h.1))) _ _ all.1.1.0 in
    let declared : new.declared.entries ≡ old.declared.entries = all_alike (λ x y e. ap₂ (λ a b. (a, b)) e.0 e.1) _ _ behind_stock.0 in
    let moves : new.book.moves.items ≡ old.book.moves.items = all_alike (λ x y same. same) _ _ book.0.0 in
    let flows : new.book.flows.entries ≡ old.book.flows.entries = all_alike (λ x y e. ap₂ (λ a b. (a, b)) e.0 e.1) _ _ book.1.0 in
    let flights : new.flights.entries ≡ old.flights.entries = all_alike (λ x y e. ap₂ (λ a b. (a, b)) e.0 e.1) _ _ behind_book.0 in
    let expected : new.expected.entries.entries ≡ old.expected.entries.entries = all_alike (λ x y e. ap₂ (λ a b. (a, b)) (ap₂ (λ a b. (a, b)) e.0.0 e.0.1) e.1) _ _ behind_book.1.0 in
    let parts : (part : Part) → parts_in new.parts part ≡ parts_in old.parts part = λ part.
    found_alike (λ k. same_part part (part_of k)) (λ t. t.items)
    (λ x y e. (ap (λ (k : Part). same_part part k) (λ i. record { flight = (e.0.0 i).flight; airport = (e.0.1 i).letters; number = e.0.2 i }), all_alike (λ a b same. same) _ _ e.1.0)) _ _ behind_book.1.1.0 in
    let trail : map trail_line new.trail.items ≡ map trail_line old.trail.items =
    mapped_alike trail_line (λ x y e. ap₂ (λ a b. (a, b)) e.0 (all_alike (λ a b same. same) _ _ e.1.0)) _ _ behind_parts.0.0 in
    let outbox : texts_in new.outbox.items ≡ texts_in old.outbox.items = mapped_alike (λ t. t.items) (λ x y e. all_alike (λ a b same. same) _ _ e.0) _ _ behind_parts.1.0.0 in
    let keys : (key : List ℕ) → kept_under new.kept_keys key ≡ kept_under old.kept_keys key = λ key.
    found_alike (λ k. bytes_eq key k.items) kept_in
    (λ x y e. (ap (bytes_eq key) (all_alike (λ a b same. same) _ _ e.0.0), λ i. record { request = e.1.0 i; count = e.1.1 i })) _ _ behind_parts.1.1.1.0 in
    let texts : (text : List ℕ) → count_under new.kept_texts text ≡ count_under old.kept_texts text = λ text.
    found_again (λ k. bytes_eq text k.items) (λ x y e. (ap (bytes_eq text) (all_alike (λ a b same. same) _ _ e.0.0), e.1)) _ _ behind_parts.1.1.1.1 in
    let loads : (k : FlightKey) (w : ℕ) → flow_at new.book.loads k w ≡ flow_at old.book.loads k w = λ k w.
    by_flows _ w ∙ ap (λ (o : Option Flow). unwrap_or o still)
    (found_alike (is_at (by_key k)) (λ flows. flow_in flows w)
    (λ x y e. (ap (is_at (by_key k)) e.0, ap (λ (es : List (ℕ × Flow)). unwrap_or (lookup (is_at (nat_cmp w)) es) still) (all_alike (λ a b one. ap₂ (λ a b. (a, b)) one.0 one.1) _ _ e.1))) _ _ book.1.1.0)
    ∙ sym (by_flows _ w) in
    let same : state_of new ≡ state_of old = λ i. record {
      cargo = record {
        here = all.1.0 i;
        holders = λ q. named_by None (begins i) q;
        declared = λ w. lookup (is_at (nat_cmp w)) (declared i);
        book = moves i;
        flights = λ f. lookup (λ k. same_flight_date f k.flight) (flights i);
        expected = λ f w. lookup (λ k. same_line (f, w) (line_of k)) (expected i);
        parts = λ part. parts part i;
        trail = trail i;
        outbox = outbox i;
        confirmed = behind_parts.1.1.0 i;
      };
      kept_keys = λ key. keys key i;
      kept_texts = λ text. texts text i;
    } in
    record {
      is = same ∙ h.is;
      room = h.room;
      summed = record {
        waybills = λ w. record {
          are = ap (λ (es : List (ℕ × WaybillFlows)). unwrap_or (lookup (is_at (nat_cmp w)) es) no_flows) flows ∙ (h.summed.waybills w).are ∙ ap (λ (b : List Move). flows_of b w) (sym moves);
          moved = ap (λ (es : List (ℕ × WaybillFlows)). is_some (lookup (is_at (nat_cmp w)) es)) flows ∙ (h.summed.waybills w).moved ∙ ap (λ (b : List Move). has_moves b w) (sym moves);
        };
        flights = λ k w. loads k w ∙ h.summed.flights k w ∙ ap (λ (b : List Move). flow_of b w (Built k.flight)) (sym moves);
      };
    }
