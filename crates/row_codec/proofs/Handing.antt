-- What the rows of the book, of the trail and of the outbox hand out to readers.
use Rattle.std.proofs.Common.{◌≡◌, ℕ, zero, suc, ◌+◌, ◌-◌, ◌<◌, ◌≤◌, ◌==◌, ℤ, pos, negsuc, Bool, true, false, cond, Some, List, [], ◌∷◌, map, filter, length, drop, ltb-true, ltb-false, refl, sym, ap, ap₂, subst, ◌∙◌, arith}
use Rattle.row_codec.proofs.Common.{FlightDate, IsTrue, and_parts, first_true, Means, Message, State, Tables, book_row, book_row_by, book_rows, drop-map, flight_text, int_eq, int_lt, ints, is_designator, is_flown, is_line_after, is_line_of, is_message_after, is_move_after, is_move_row, is_number, is_of, is_of_flight, is_trail_row, last_of, line_by, list_all, message, message_id, messages_after, move_by, move_id, nat_lt, natural, numbered, range_with_len, trail_id, trail_row, trail_row_by, trail_rows}
use Rattle.station_core.specs.declared.rows.Message as reader
use Rattle.row_codec.proofs.Flown.{flown_moves}
use Rattle.row_codec.proofs.MoveRows.{columns_of}
use Rattle.row_codec.proofs.Telling.{book_told, trail_told, outbox_told}

is_so : {b : Bool} → IsTrue b → b ≡ true
is_so h = h

drop_none : {X : Type 0} (n : ℕ) → ◌≡◌ {A = List X} (drop n []) []
drop_none zero = refl
drop_none (suc n) = refl

is_above : (mark a : ℕ) → int_lt (pos mark) (pos a) ≡ nat_lt mark a
is_above mark a = grind (arith, ints)

module _ {X : Type 0} (key : X → ℤ) where
  abbrev AreFrom : ℕ → List X → Type 0
  AreFrom a xs = map key xs ≡ map pos (range_with_len a (length xs))

  numbered_as : {Y Row : Type 0} (by : X → Y) (row : ℕ → Y → Row) (xs : List X) (a : ℕ) → AreFrom a xs → map (λ x. row (natural (key x)) (by x)) xs ≡ numbered row a (map by xs)
  numbered_as by row [] a are = refl
  numbered_as {Row = Row} by row (x ∷ xs) a are =
      let here : key x ≡ pos a = cc in
      ap₂ (λ (r : Row) (l : List Row). r ∷ l) (ap (λ z. row (natural z) (by x)) here) (numbered_as by row xs (a + 1) cc)

  behind_from : (k : ℕ) (xs : List X) (a : ℕ) → AreFrom a xs → AreFrom (a + k) (drop k xs)
  behind_from zero xs a are = let e : a ≡ a + 0 = omega arith in subst (λ b. AreFrom b xs) e are
  behind_from (suc k) [] a are = refl
  behind_from (suc k) (x ∷ xs) a are = let e : a + 1 + k ≡ a + suc k = omega arith in subst (λ b. AreFrom b (drop k xs)) e (behind_from k xs (a + 1) cc)

  abbrev above : ℕ → List X → List X
  above mark xs = filter (λ x. int_lt (pos mark) (key x)) xs

  behind_mark : (mark : ℕ) (xs : List X) (a : ℕ) → AreFrom a xs → above mark xs ≡ drop (mark + 1 - a) xs
  behind_mark mark [] a are = sym (drop_none (mark + 1 - a))
  behind_mark mark (x ∷ xs) a are =
      let here : key x ≡ pos a = cc in
      ap (λ z. cond (int_lt (pos mark) z) (x ∷ above mark xs) (above mark xs)) here
      ∙ ap (λ b. cond b (x ∷ above mark xs) (above mark xs)) (is_above mark a)
      ∙ go (nat_lt mark a) refl (behind_mark mark xs (a + 1) cc)
    where
      go : (b : Bool) → nat_lt mark a ≡ b → above mark xs ≡ drop (mark + 1 - (a + 1)) xs → cond b (x ∷ above mark xs) (above mark xs) ≡ drop (mark + 1 - a) (x ∷ xs)
      go true e more =
          let low : mark < a = ltb-true mark a e in
          let here : 0 ≡ mark + 1 - a = omega (arith, low) in
          let next : mark + 1 - (a + 1) ≡ 0 = omega (arith, low) in
          ap (λ l. x ∷ l) (more ∙ ap (λ n. drop n xs) next) ∙ ap (λ n. drop n (x ∷ xs)) here
      go false e more =
          let high : a ≤ mark = ltb-false mark a e in
          let here : suc (mark + 1 - (a + 1)) ≡ mark + 1 - a = omega (arith, high) in
          more ∙ ap (λ n. drop n (x ∷ xs)) here

-- what is asked for of rows is handed out of the book's
module _ {X Y : Type 0} (f : X → Y) (p : X → Bool) (q : Y → Bool) (ok : X → Bool) (same : (x : X) → ok x ≡ true → q (f x) ≡ p x) where
  pub map_filter : (xs : List X) → list_all ok xs ≡ true → map f (filter p xs) ≡ filter q (map f xs)
  map_filter [] h = refl
  map_filter (x ∷ xs) h = let both = and_parts (ok x) (list_all ok xs) h in grind (arith, same x both.0, map_filter xs both.1)

is_higher : (n : ℕ) (z : ℤ) → nat_lt n (natural z) ≡ int_lt (pos n) z
is_higher n (pos m) = sym (is_above n m)
is_higher n (negsuc m) = grind (arith, ints)

same_number : (z : ℤ) (w : ℕ) → is_number z ≡ true → (natural z == w) ≡ int_eq z (pos w)
same_number (pos n) w h = grind (arith, ints)
same_number (negsuc n) w h = absurd cc

any_row : {X : Type 0} (rows : List X) → list_all (λ _. true) rows ≡ true
any_row [] = refl
any_row (row ∷ rows) = any_row rows

length-numbered : {X Row : Type 0} (row : ℕ → X → Row) (xs : List X) (a : ℕ) → length (numbered row a xs) ≡ length xs
length-numbered row [] a = refl
length-numbered row (x ∷ xs) a = ap suc (length-numbered row xs (a + 1))

-- those after all but the last so many are the last so many
last_handed : {X Row : Type 0} (key : X → ℤ) (by : X → Row) (xs : List X) (rows : List Row) (count n : ℕ) → map key xs ≡ map pos (range_with_len 1 (length xs))
    → map by xs ≡ rows → length rows ≡ count → map by (filter (λ x. int_lt (pos (count - n)) (key x)) xs) ≡ last_of n rows
last_handed key by xs rows count n are is counted =
    let mark : ℕ = count - n in
    let one : mark + 1 - 1 ≡ mark = omega arith in
    ap (map by) (behind_mark key mark xs 1 are ∙ ap (λ k. drop k xs) one)
    ∙ sym (drop-map by mark xs)
    ∙ ap (drop mark) is
    ∙ ap (λ c. drop (c - n) rows) (sym counted)

abbrev pub message_of : Message → reader.Message
message_of row = message (natural row.number) row.body

module _ (t : Tables) (s : State) (means : Means t (Some s)) where
  -- the whole book
  pub book_handed : map book_row_by t.moves ≡ book_rows s.cargo
  book_handed = numbered_as move_id move_by book_row t.moves 1 means.0.book ∙ ap (numbered book_row 1) (book_told t s means)

  -- those after a number
  pub book_after : (n : ℕ) → map book_row_by (filter (is_move_after (pos n)) t.moves) ≡ filter (λ row. nat_lt n row.number) (book_rows s.cargo)
  book_after n =
      map_filter book_row_by (is_move_after (pos n)) (λ row. nat_lt n row.number) (λ _. true) (λ row _. is_higher n row.number) t.moves (any_row t.moves)
      ∙ ap (filter (λ row. nat_lt n row.number)) book_handed

  -- the last ones
  pub book_last : (count n : ℕ) → length s.cargo.book ≡ count → map book_row_by (filter (is_move_after (pos (count - n))) t.moves) ≡ last_of n (book_rows s.cargo)
  book_last count n is = last_handed move_id book_row_by t.moves (book_rows s.cargo) count n means.0.book book_handed (length-numbered book_row s.cargo.book 1 ∙ is)

  -- those of a waybill
  pub book_of : (w : ℕ) → map book_row_by (filter (is_of (pos w)) t.moves) ≡ filter (λ row. row.movement.awb == w) (book_rows s.cargo)
  book_of w =
      map_filter book_row_by (is_of (pos w)) (λ row. row.movement.awb == w) is_move_row (λ row ok. same_number row.awb w (columns_of row ok).awb) t.moves (is_so means.0.moves)
      ∙ ap (filter (λ row. row.movement.awb == w)) book_handed

  -- those of a flight
  pub book_on : (f : FlightDate) → is_designator f.flight ≡ true → map book_row_by (filter (is_flown (flight_text f.flight) (pos f.day)) t.moves) ≡ filter (λ row. is_of_flight f row.movement) (book_rows s.cargo)
  book_on f is =
      map_filter book_row_by (is_flown (flight_text f.flight) (pos f.day)) (λ row. is_of_flight f row.movement) is_move_row (λ row ok. flown_moves f is row ok) t.moves (is_so means.0.moves)
      ∙ ap (filter (λ row. is_of_flight f row.movement)) book_handed

  -- the trail
  pub trail_handed : map trail_row_by t.trail ≡ trail_rows s.cargo
  trail_handed = numbered_as trail_id line_by trail_row t.trail 1 means.0.lines ∙ ap (numbered trail_row 1) (trail_told t s means)

  pub trail_after : (n : ℕ) → map trail_row_by (filter (is_line_after (pos n)) t.trail) ≡ filter (λ row. nat_lt n row.number) (trail_rows s.cargo)
  trail_after n =
      map_filter trail_row_by (is_line_after (pos n)) (λ row. nat_lt n row.number) (λ _. true) (λ row _. is_higher n row.number) t.trail (any_row t.trail)
      ∙ ap (filter (λ row. nat_lt n row.number)) trail_handed

  pub trail_last : (count n : ℕ) → length s.cargo.trail ≡ count → map trail_row_by (filter (is_line_after (pos (count - n))) t.trail) ≡ last_of n (trail_rows s.cargo)
  trail_last count n is = last_handed trail_id trail_row_by t.trail (trail_rows s.cargo) count n means.0.lines trail_handed (length-numbered trail_row s.cargo.trail 1 ∙ is)

  pub trail_of : (w : ℕ) → map trail_row_by (filter (is_line_of (pos w)) t.trail) ≡ filter (λ row. row.awb == w) (trail_rows s.cargo)
  trail_of w =
      map_filter trail_row_by (is_line_of (pos w)) (λ row. row.awb == w) is_trail_row (λ row ok. same_number row.awb w (first_true (is_number row.awb) _ ok)) t.trail (is_so means.0.trail)
      ∙ ap (filter (λ row. row.awb == w)) trail_handed

  -- the messages behind the mark
  pub messages_handed : (mark : ℕ) → map message_of (filter (is_message_after (pos mark)) t.outbox) ≡ messages_after mark s.cargo
  messages_handed mark =
      let one : mark + 1 - 1 ≡ mark = omega arith in
      let after : 1 + mark ≡ mark + 1 = omega arith in
      ap (map message_of) (behind_mark message_id mark t.outbox 1 means.0.outbox ∙ ap (λ n. drop n t.outbox) one)
      ∙ numbered_as message_id (λ (m : Message). m.body) message (drop mark t.outbox) (1 + mark) (behind_from message_id mark t.outbox 1 means.0.outbox)
      ∙ ap (λ n. numbered message n (map (λ (m : Message). m.body) (drop mark t.outbox))) after
      ∙ ap (numbered message (mark + 1)) (sym (drop-map (λ (m : Message). m.body) mark t.outbox) ∙ ap (drop mark) (outbox_told t s means))
