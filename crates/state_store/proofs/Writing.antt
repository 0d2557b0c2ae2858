-- What a row more makes of the state that is shown.
use Rattle.state_store.specs.declared.maps.state.AirportKey.{AirportKey}
use Rattle.state_store.proofs.Common.{BTreeMap, Bool, Cargo, Declared, FlightKey, Holders, IsSummed, List, MapState, Move, Ordering, Part, Shows, Some, State, Used, Vec, [], and_from, and_parts, ap, arith, assigned, by_key, bytes_eq-refl, bytes_eq-true, common_steps, cond, covers, declared_in, eq-eqb, eqb-true, false, get, has_room, if◌then◌else◌, is_at, length, length-append, nat_cmp, nat_cmp-IsAntisymmetric, nat_cmp_total, nat_le, nat_list_cmp_total, nat_tests, on_cargo, ordering_then, part_of, refl, same-is, same-refl, same_part, slice_cmp, slice_cmp-IsAntisymmetric, state_of, suc, sym, texts_in, tied_itself, trail_in, trail_line, true, ℕ, ◌&&◌, ◌++◌, ◌+◌, ◌<◌, ◌==◌, ◌∙◌, ◌∷◌, ◌≡◌}
use Rattle.agent_stock.specs.declared.stock.Run.{Run}
use Rattle.state_store.specs.declared.maps.state.TrailEntry.{TrailEntry}
use Rattle.state_store.proofs.Keyed.{IsKeyed}
use Rattle.state_store.proofs.Tied.{both_equal, flight_tied, one_flight}

-- the state with one row more
pub shows_more : (old new : MapState) (s : State) (f : Cargo → Cargo) → Shows old s → state_of new ≡ on_cargo f (state_of old) → IsSummed new.book → has_room (f s.cargo) ≡ true → Shows new (on_cargo f s)
shows_more old new s f h e summed room = record { is = e ∙ ap (on_cargo f) h.is; room = room; summed = summed }

-- ---- rows of keys

number_at : (key q : ℕ) → is_at (nat_cmp key) q ≡ (q == key)
number_at key q = grind (arith, common_steps)

pub put_declared : (old new : BTreeMap ℕ Declared) (key w : ℕ) (d : Declared) → key ≡ w → ((q : ℕ) → get nat_cmp new q ≡ cond (is_at (nat_cmp key) q) (Some d) (get nat_cmp old q))
    → (q : ℕ) → declared_in new q ≡ (if q == w then Some d else declared_in old q)
put_declared old new key w d at updates q = updates q ∙ ap (λ b. cond b (Some d) (get nat_cmp old q)) (number_at key q ∙ ap (λ n. q == n) at)

pub covers_one : (run : Run) (w q : ℕ) → run ≡ record { first = w; count = 1 } → covers run q ≡ (q == w)
covers_one run w q is = ap (λ (r : Run). covers r q) is ∙ one
  where
    one : covers (record { first = w; count = 1 }) q ≡ (q == w)
    one = grind (arith, nat_tests)

pub put_used : (old new : Holders) (run : Run) (w : ℕ) → run ≡ record { first = w; count = 1 } → new ≡ assigned old run Used → (q : ℕ) → new q ≡ (if q == w then Some Used else old q)
put_used old new run w is given q = ap (λ (h : Holders). h q) given ∙ ap (λ b. if b then Some Used else old q) (covers_one run w q is)

-- ---- rows in order

pub trail_more : (rows : List TrailEntry) (row : TrailEntry) → trail_in (rows ++ row ∷ []) ≡ trail_in rows ++ trail_line row ∷ []
trail_more [] row = refl
trail_more (r ∷ rows) row = ap (λ l. trail_line r ∷ l) (trail_more rows row)

length-trail : (rows : List TrailEntry) → length (trail_in rows) ≡ length rows
length-trail [] = refl
length-trail (r ∷ rows) = ap (λ n. suc n) (length-trail rows)

module _ {Z : Type 0} where
  pub texts_more : (rows : List (Vec ℕ Z)) (text : Vec ℕ Z) → texts_in (rows ++ text ∷ []) ≡ texts_in rows ++ text.items ∷ []
  texts_more [] text = refl
  texts_more (r ∷ rows) text = ap (λ l. r.items ∷ l) (texts_more rows text)

  length-texts : (rows : List (Vec ℕ Z)) → length (texts_in rows) ≡ length rows
  length-texts [] = refl
  length-texts (r ∷ rows) = ap (λ n. suc n) (length-texts rows)

one_longer : {X : Type 0} (xs : List X) (x : X) → length (xs ++ x ∷ []) ≡ length xs + 1
one_longer xs x = length-append xs (x ∷ [])

all_three : (a b c : Bool) → a ≡ true → b ≡ true → c ≡ true → (a && b && c) ≡ true
all_three a b c x y z = rw (x, y, z) refl

three : (a b c : Bool) → (a && b && c) ≡ true → (a ≡ true) × (b ≡ true) × (c ≡ true)
three true true true h = (refl, refl, refl)
three true true false h = absurd (cc h)
three true false c h = absurd (cc h)
three false b c h = absurd (cc h)

small : (n k : ℕ) → k ≡ n + 1 → n < 4_294_967_295 → nat_le k 4_294_967_295 ≡ true
small n k e lt = grind (arith, nat_tests)

module _ (k : MapState) (s : State) (h : Shows k s) where
  rooms : (nat_le (length s.cargo.book) 4_294_967_295 ≡ true) × (nat_le (length s.cargo.trail) 4_294_967_295 ≡ true) × (nat_le (length s.cargo.outbox) 4_294_967_295 ≡ true)
  rooms = three _ _ _ h.room

  pub room_move : (m : Move) → length k.book.moves.items < 4_294_967_295 → has_room (record s.cargo { book = s.cargo.book ++ m ∷ [] }) ≡ true
  room_move m lt = all_three _ _ _ (small (length k.book.moves.items) _ (one_longer s.cargo.book m ∙ ap (λ (x : State). length x.cargo.book + 1) (sym h.is)) lt) rooms.1 rooms.2

  pub room_line : (line : ℕ × List ℕ) → length k.trail.items < 4_294_967_295 → has_room (record s.cargo { trail = s.cargo.trail ++ line ∷ [] }) ≡ true
  room_line line lt = all_three _ _ _ rooms.0 (small (length k.trail.items) _ (one_longer s.cargo.trail line ∙ ap (λ (x : State). length x.cargo.trail + 1) (sym h.is) ∙ ap (λ n. n + 1) (length-trail k.trail.items)) lt) rooms.2

  pub room_message : (text : List ℕ) → length k.outbox.items < 4_294_967_295 → has_room (record s.cargo { outbox = s.cargo.outbox ++ text ∷ [] }) ≡ true
  room_message text lt = all_three _ _ _ rooms.0 rooms.1 (small (length k.outbox.items) _ (one_longer s.cargo.outbox text ∙ ap (λ (x : State). length x.cargo.outbox + 1) (sym h.is) ∙ ap (λ n. n + 1) (length-texts k.outbox.items)) lt)

-- ---- parts of manifests

abbrev pub by_part : FlightKey × AirportKey × ℕ → FlightKey × AirportKey × ℕ → Ordering
by_part a b = ordering_then (ordering_then (by_key a.0 b.0) (slice_cmp nat_cmp a.1.letters b.1.letters)) (nat_cmp a.2 b.2)

pub by_part_keyed : IsKeyed by_part part_of same_part
by_part_keyed = record {
  one = λ a b h.
      let parts = and_parts _ _ h in
      let firsts = and_parts _ _ parts.0 in
      let flights = same-is a.flight b.flight firsts.0 in
      let airports = bytes_eq-true a.airport b.airport firsts.1 in
      let numbers = eqb-true a.number b.number parts.1 in
      λ i. record { flight = flights i; airport = airports i; number = numbers i };
  itself = λ a. and_from _ _ (and_from _ _ (same-refl a.flight) (bytes_eq-refl a.airport)) (eq-eqb a.number a.number refl);
  ties = λ k e h.
      let parts = both_equal _ _ h in
      let firsts = both_equal _ _ parts.0 in
      let flights = one_flight k.0 e.0 firsts.0 in
      let airports = slice_cmp-IsAntisymmetric nat_cmp-IsAntisymmetric k.1.letters e.1.letters firsts.1 in
      let numbers = nat_cmp-IsAntisymmetric k.2 e.2 parts.1 in
      λ i. record { flight = flights i; airport = airports i; number = numbers i };
  tied = λ k e one.
      ap (λ (r : Ordering). ordering_then (ordering_then r (slice_cmp nat_cmp k.1.letters e.1.letters)) (nat_cmp k.2 e.2)) (flight_tied k.0 e.0 (ap (λ (p : Part). p.flight) one))
      ∙ ap (λ (r : Ordering). ordering_then r (nat_cmp k.2 e.2)) (ap (λ l. slice_cmp nat_cmp l e.1.letters) (ap (λ (p : Part). p.airport) one) ∙ tied_itself nat_list_cmp_total e.1.letters)
      ∙ ap (λ n. nat_cmp n e.2) (ap (λ (p : Part). p.number) one) ∙ tied_itself nat_cmp_total e.2;
}
