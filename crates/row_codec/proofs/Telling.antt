-- What the rows of tables say is what the state has that they mean.
use Rattle.std.proofs.Common.{◌≡◌, ℕ, pos, true, Some, None, option_map, List, length, sym, ap, ◌∙◌}
use Rattle.row_codec.proofs.Common.{FlightDate, Means, Part, State, Tables, book_in, cond-true, declared_by, expected_by, expected_key, flight_key, get, get_by, holders_in, is_designator, kept_by, length-map, move_by, natural, outbound_by, outbox_in, part_key, trail_in, waybill_id}

module _ (t : Tables) (s : State) (means : Means t (Some s)) where
  pub declared_told : (w : ℕ) → option_map declared_by (get_by waybill_id t.waybills (pos w)) ≡ s.cargo.declared w
  declared_told w = ap (λ (x : State). x.cargo.declared w) means.1

  pub holders_told : holders_in t.stock ≡ s.cargo.holders
  holders_told = ap (λ (x : State). x.cargo.holders) means.1

  pub outbound_told : (f : FlightDate) → is_designator f.flight ≡ true → option_map outbound_by (get t.flights (flight_key f)) ≡ s.cargo.flights f
  outbound_told f is = sym (cond-true (is_designator f.flight) (option_map outbound_by (get t.flights (flight_key f))) None is) ∙ ap (λ (x : State). x.cargo.flights f) means.1

  pub expected_told : (f : FlightDate) (w : ℕ) → is_designator f.flight ≡ true → option_map expected_by (get t.expected (expected_key f w)) ≡ s.cargo.expected f w
  expected_told f w is = sym (cond-true (is_designator f.flight) (option_map expected_by (get t.expected (expected_key f w))) None is) ∙ ap (λ (x : State). x.cargo.expected f w) means.1

  pub part_told : (p : Part) → is_designator p.flight.flight ≡ true → get t.parts (part_key p) ≡ s.cargo.parts p
  part_told p is = sym (cond-true (is_designator p.flight.flight) (get t.parts (part_key p)) None is) ∙ ap (λ (x : State). x.cargo.parts p) means.1

  pub kept_key_told : (key : List ℕ) → option_map kept_by (get t.kept key) ≡ s.kept_keys key
  kept_key_told key = ap (λ (x : State). x.kept_keys key) means.1

  pub kept_text_told : (text : List ℕ) → option_map natural (get t.kept_texts text) ≡ s.kept_texts text
  kept_text_told text = ap (λ (x : State). x.kept_texts text) means.1

  pub book_told : book_in t.moves ≡ s.cargo.book
  book_told = ap (λ (x : State). x.cargo.book) means.1

  pub trail_told : trail_in t.trail ≡ s.cargo.trail
  trail_told = ap (λ (x : State). x.cargo.trail) means.1

  pub outbox_told : outbox_in t.outbox ≡ s.cargo.outbox
  outbox_told = ap (λ (x : State). x.cargo.outbox) means.1

  -- how many rows are numbered

  pub moves_counted : length t.moves ≡ length s.cargo.book
  moves_counted = sym (length-map t.moves move_by) ∙ ap length book_told
