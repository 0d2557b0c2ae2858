-- A flight's manifest is that of the flight's movements alone.
use Rattle.reports.proofs.Common.{ActFault, BookRow, Bool, Built, Departed, Err, FlightDate, HandedOut, IfOk, IsNew, IsOk, IsOrdered, List, ManifestRow, Move, None, Ok, On, OnOk, Result, Rising-filter, Rising-waybills_of, TakesMove, Tallies, [], amount, ap, arith, book_row, brings, false, false≢true, filter, flat_map, has_moves, has_pieces, if◌then◌else◌, is_in-filter, is_in-waybills_of, is_named, is_of_flight, leaves, listed, manifest_of, manifest_row, map, movements_for, nat_cmp, nat_lt, numbered, refl, same_place, same_rising, sum_by, sum_by-cons, sym, takes, takes_away, tenths_of, true, true≢false, waybills_of, ℕ, ◌&&◌, ◌++◌, ◌+◌, ◌-◌, ◌==◌, ◌||◌, ◌∙◌, ◌∷◌, ◌≡◌}
use Rattle.std.specs.Global.{Vec}
use Rattle.shipment_machine.specs.Book.{pieces_of}
use Rattle.reports.proofs.Passing.{after, moves_of, passed, rows_of}

left_false : (b c : Bool) → (b || c) ≡ false → b ≡ false
left_false true c e = absurd (true≢false e)
left_false false c e = refl

right_false : (b c : Bool) → (b || c) ≡ false → c ≡ false
right_false true c e = absurd (true≢false e)
right_false false c e = e

no_and : (b c : Bool) → c ≡ false → (b && c) ≡ false
no_and true c e = e
no_and false c e = refl

none_left : (b c : Bool) → b ≡ false → (b && c) ≡ false
none_left true c e = absurd (true≢false e)
none_left false c e = refl

-- movements that add nothing may be left out of a sum
sum_without : (adds : Move → ℕ) (p : Move → Bool) → ((m : Move) → p m ≡ false → adds m ≡ 0) → (ms : List Move) → sum_by adds (filter p ms) ≡ sum_by adds ms
sum_without adds p none [] = refl
sum_without adds p none (m ∷ ms) =
    let rest = sum_without adds p none ms in
    let all = sum_by-cons adds m ms in
    elim (p m) as (λ b. p m ≡ b → sum_by adds (if b then m ∷ filter p ms else filter p ms) ≡ sum_by adds (m ∷ ms)) [
      | true ↦ λ e. let some = sum_by-cons adds m (filter p ms) in omega (arith, rest, all, some)
      | false ↦ λ e. let zero = none m e in omega (arith, rest, all, zero)
    ] refl

-- and movements that add nothing sum up to nothing
sum_of_none : (adds : Move → ℕ) (w : ℕ) → ((m : Move) → (m.awb == w) ≡ false → adds m ≡ 0) → (ms : List Move) → has_moves ms w ≡ false → sum_by adds ms ≡ 0
sum_of_none adds w none [] e = refl
sum_of_none adds w none (m ∷ ms) e =
    let here = none m (left_false (m.awb == w) (has_moves ms w) e) in
    let rest = sum_of_none adds w none ms (right_false (m.awb == w) (has_moves ms w) e) in
    let all = sum_by-cons adds m ms in
    omega (arith, here, rest, all)

module _ (f : FlightDate) where
  abbrev of_flight : List Move → List Move
  of_flight ms = filter (is_of_flight f) ms

  -- the flight's rows of the book have the flight's movements
  pub moves_on : (n : ℕ) (ms : List Move) → moves_of (filter (λ row. is_of_flight f row.movement) (numbered book_row n ms)) ≡ of_flight ms
  moves_on n [] = refl
  moves_on n (m ∷ ms) = elim (is_of_flight f m) as (λ b. moves_of (if b then book_row n m ∷ filter (λ row. is_of_flight f row.movement) (numbered book_row (n + 1) ms) else filter (λ row. is_of_flight f row.movement) (numbered book_row (n + 1) ms)) ≡ (if b then m ∷ of_flight ms else of_flight ms)) [
    | true ↦ ap (λ l. m ∷ l) (moves_on (n + 1) ms)
    | false ↦ moves_on (n + 1) ms
  ]

  not_from : (m : Move) → is_of_flight f m ≡ false → same_place (Built f) m.from ≡ false
  not_from m e = left_false (same_place (Built f) m.from) (same_place (Built f) m.to) (left_false _ (is_named f m.flight) e)

  not_to : (m : Move) → is_of_flight f m ≡ false → same_place (Built f) m.to ≡ false
  not_to m e = right_false (same_place (Built f) m.from) (same_place (Built f) m.to) (left_false _ (is_named f m.flight) e)

  module _ (measure : Move → ℕ) (w : ℕ) where
    no_brings : (m : Move) → ((m.awb == w) && same_place (Built f) m.to) ≡ false → brings measure w (same_place (Built f)) m ≡ 0
    no_brings m e = ap (λ b. if b then measure m else 0) e

    no_takes : (m : Move) → ((m.awb == w) && same_place (Built f) m.from) ≡ false → takes measure w (same_place (Built f)) m ≡ 0
    no_takes m e = ap (λ b. if b then measure m else 0) e

    no_leaves : (m : Move) → ((m.awb == w) && leaves f m) ≡ false → takes_away measure w f m ≡ 0
    no_leaves m e = ap (λ b. if b then measure m else 0) e

    in_flight : (ms : List Move) → sum_by (brings measure w (same_place (Built f))) (of_flight ms) ≡ sum_by (brings measure w (same_place (Built f))) ms
    in_flight = sum_without _ (is_of_flight f) (λ m e. no_brings m (no_and (m.awb == w) _ (not_to m e)))

    out_flight : (ms : List Move) → sum_by (takes measure w (same_place (Built f))) (of_flight ms) ≡ sum_by (takes measure w (same_place (Built f))) ms
    out_flight = sum_without _ (is_of_flight f) (λ m e. no_takes m (no_and (m.awb == w) _ (not_from m e)))

    away_flight : (ms : List Move) → sum_by (takes_away measure w f) (of_flight ms) ≡ sum_by (takes_away measure w f) ms
    away_flight = sum_without _ (is_of_flight f) (λ m e. no_leaves m (no_and (m.awb == w) _ (none_left _ (same_place Departed m.to) (not_from m e))))

    none_in : (ms : List Move) → has_moves ms w ≡ false → sum_by (brings measure w (same_place (Built f))) ms ≡ 0
    none_in = sum_of_none _ w (λ m e. no_brings m (none_left (m.awb == w) _ e))

    none_away : (ms : List Move) → has_moves ms w ≡ false → sum_by (takes_away measure w f) ms ≡ 0
    none_away = sum_of_none _ w (λ m e. no_leaves m (none_left (m.awb == w) _ e))

  -- a waybill's row is that of the flight's movements
  same_row : (w : ℕ) (ms : List Move) → manifest_row (of_flight ms) f w ≡ manifest_row ms f w
  same_row w ms =
      let in_pieces = in_flight pieces_of w ms in
      let in_tenths = in_flight tenths_of w ms in
      let out_pieces = out_flight pieces_of w ms in
      let out_tenths = out_flight tenths_of w ms in
      let away_pieces = away_flight pieces_of w ms in
      let away_tenths = away_flight tenths_of w ms in
      λ i. record { awb = w; built = amount (in_pieces i - out_pieces i) (in_tenths i - out_tenths i); departed = amount (away_pieces i) (away_tenths i) }

  no_pieces : (n out away : ℕ) → n ≡ 0 → away ≡ 0 → (nat_lt 0 (n - out) || nat_lt 0 away) ≡ false
  no_pieces n out away in_none away_none =
      let less : n - out ≡ 0 = omega (arith, in_none) in
      ap (λ k. nat_lt 0 k || nat_lt 0 away) less ∙ ap (λ k. nat_lt 0 k) away_none

  -- a waybill without movements has no pieces
  no_row : (w : ℕ) (ms : List Move) → has_moves ms w ≡ false → has_pieces (manifest_row ms f w) ≡ false
  no_row w ms e = no_pieces _ _ _ (none_in pieces_of w ms e) (none_away pieces_of w ms e)

  has_some : (w : ℕ) (ms : List Move) → has_pieces (manifest_row ms f w) ≡ true → has_moves ms w ≡ true
  has_some w ms e = elim (has_moves ms w) as (λ b. has_moves ms w ≡ b → b ≡ true) [
    | true ↦ λ h. refl
    | false ↦ λ h. absurd (true≢false (sym e ∙ no_row w ms h))
  ] refl

  -- the rows of the waybills with pieces
  abbrev rows_for : (ℕ → ManifestRow) → List ℕ → List ManifestRow
  rows_for row ws = flat_map (λ w. if has_pieces (row w) then row w ∷ [] else []) ws

  picked_rows : (row : ℕ → ManifestRow) (ws : List ℕ) → rows_for row ws ≡ map row (filter (λ w. has_pieces (row w)) ws)
  picked_rows row [] = refl
  picked_rows row (w ∷ ws) = elim (has_pieces (row w)) as (λ b. (if b then row w ∷ [] else []) ++ rows_for row ws ≡ map row (if b then w ∷ filter (λ w. has_pieces (row w)) ws else filter (λ w. has_pieces (row w)) ws)) [
    | true ↦ ap (λ l. row w ∷ l) (picked_rows row ws)
    | false ↦ picked_rows row ws
  ]

  -- the waybills with pieces are the same
  same_waybills : (ms : List Move) → filter (λ w. has_pieces (manifest_row ms f w)) (waybills_of (of_flight ms)) ≡ filter (λ w. has_pieces (manifest_row ms f w)) (waybills_of ms)
  same_waybills ms =
      let p : ℕ → Bool = λ w. has_pieces (manifest_row ms f w) in
      same_rising (filter p (waybills_of (of_flight ms))) (filter p (waybills_of ms)) (Rising-filter p _ (Rising-waybills_of (of_flight ms))) (Rising-filter p _ (Rising-waybills_of ms))
      (λ r. is_in-filter p r (waybills_of (of_flight ms)) ∙ ap (λ b. p r && b) (is_in-waybills_of r (of_flight ms)) ∙ both r ∙ sym (is_in-filter p r (waybills_of ms) ∙ ap (λ b. p r && b) (is_in-waybills_of r ms)))
    where
      both : (r : ℕ) → (has_pieces (manifest_row ms f r) && has_moves (of_flight ms) r) ≡ (has_pieces (manifest_row ms f r) && has_moves ms r)
      both r = elim (has_pieces (manifest_row ms f r)) as (λ b. has_pieces (manifest_row ms f r) ≡ b → (b && has_moves (of_flight ms) r) ≡ (b && has_moves ms r)) [
        | true ↦ λ e. has_some r (of_flight ms) (ap has_pieces (same_row r ms) ∙ e) ∙ sym (has_some r ms e)
        | false ↦ λ e. refl
      ] refl

  -- a flight's manifest is that of its movements
  pub same_manifest : (ms : List Move) → manifest_of (of_flight ms) f ≡ manifest_of ms f
  same_manifest ms =
      (λ i. flat_map (λ w. if has_pieces (same_row w ms i) then same_row w ms i ∷ [] else []) (waybills_of (of_flight ms)))
      ∙ picked_rows (manifest_row ms f) (waybills_of (of_flight ms))
      ∙ ap (map (manifest_row ms f)) (same_waybills ms)
      ∙ sym (picked_rows (manifest_row ms f) (waybills_of ms))

-- the rows that a pass over the flight's movements leaves
module _ (f : FlightDate) (book : List Move) (old new : Tallies) (empty : IsNew f old) where
  whole : (rows : List BookRow) → rows ≡ movements_for (On f) (numbered book_row 1 book) → HandedOut (λ from row go to. TakesMove from row.movement go to) rows old new
      → new.is_full ≡ false → IsOrdered nat_cmp new.by_number → flat_map (λ e. listed e.1) new.by_number.entries ≡ manifest_of book f
  whole rows are handed room ordered =
      rows_of f (of_flight f book) new.by_number ordered
      (λ w. passed rows f old new empty.flight handed room w ∙ ap (after f w (moves_of rows)) (empty.none w) ∙ ap (λ l. after f w l None) (ap moves_of are ∙ moves_on f 1 book))
      ∙ same_manifest f book

  -- what is made of them, if there was room
  pub made : (read : Result (Unit {0}) ActFault) → OnOk read ((rows : List BookRow) × (rows ≡ movements_for (On f) (numbered book_row 1 book)) × HandedOut (λ from row go to. TakesMove from row.movement go to) rows old new)
      → IsOk read → (r : Result (Vec ManifestRow) ActFault) → OnOk r (new.is_full ≡ false) → IsOrdered nat_cmp new.by_number
      → IfOk r (λ rows. rows.items ≡ flat_map (λ e. listed e.1) new.by_number.entries) → IfOk r (λ rows. rows.items ≡ manifest_of book f)
  made (Ok x) (rows, are, handed) is (Ok these) room ordered all = all ∙ whole rows are handed room ordered
  made (Ok x) (rows, are, handed) is (Err e) room ordered all = tt
  made (Err e) took is r room ordered all = absurd (false≢true is)
