-- The moves of a flight are those of its span.
use Rattle.std.proofs.Common.{◌≡◌, ℕ, suc, ◌+◌, ◌<◌, ◌≤◌, ◌==◌, ◌&&◌, ◌||◌, ℤ, pos, negsuc, Bool, true, false, cond, Option, Some, List, [], ◌∷◌, ◌++◌, map, filter, length, refl, sym, ap, ap₂, subst, ◌∙◌, arith}
use Rattle.table_state.proofs.Common.{All, All-cons, All-head, All-nil, All-push, All-same, All-tail, All-weaker, AreCovered, Built, Covers, FlightDate, HandedOut, IsCovered, IsSpanned, LiesIn, Means, On, State, Tables, book_by, book_handed, book_on, book_row, book_row_by, flight_text, int_le, int_lt, ints, is_designator, is_flown, is_flown_within, is_move_after, is_move_row, is_named, is_of_flight, list_all, natural, numbered, same_flight, same_flight_date}
use Rattle.std.specs.BTreeMap.{BTreeMap}
use Rattle.shipment_machine.specs.Book.{same_place}
use Rattle.shipment_machine.specs.declared.moves.Move as cargo
use Rattle.station_core.specs.declared.rows.BookRow.{BookRow}
use Rattle.station_schema.specs.Tables.{Move}
use Rattle.row_codec.proofs.Flown.{flown_moves}
use Rattle.table_state.specs.declared.flight_spans.Filling.{Filling}
use Rattle.table_state.specs.declared.span.Span.{Span}

numbered_more : (a : ℕ) (book : List cargo.Move) (m : cargo.Move) → numbered book_row a (book ++ m ∷ []) ≡ numbered book_row a book ++ book_row (a + length book) m ∷ []
numbered_more a [] m = let here : a ≡ a + 0 = omega arith in ap (λ n. book_row n m ∷ []) here
numbered_more a (x ∷ xs) m =
    let here : a + 1 + length xs ≡ a + suc (length xs) = omega arith in
    ap (λ (l : List BookRow). book_row a x ∷ l) (numbered_more (a + 1) xs m ∙ ap (λ n. numbered book_row (a + 1) xs ++ book_row n m ∷ []) here)

first : (a b : Bool) → (a && b) ≡ true → a ≡ true
first true b h = refl
first false b h = cc

second : (a b : Bool) → (a && b) ≡ true → b ≡ true
second true b h = h
second false b h = cc

any_of : {P : Type 0} (a b c : Bool) → (a ≡ true → P) → (b ≡ true → P) → (c ≡ true → P) → (a || b || c) ≡ true → P
any_of true b c x y z h = x refl
any_of false true c x y z h = y refl
any_of false false true x y z h = z refl
any_of false false false x y z h = absurd (cc)

-- a move is covered if its places and its flight are
pub covered_by : (kept : Option (BTreeMap ℕ Span)) (m : cargo.Move) (n : ℕ) → ((f : FlightDate) → same_place (Built f) m.from ≡ true → IsSpanned kept f.day n) → ((f : FlightDate) → same_place (Built f) m.to ≡ true → IsSpanned kept f.day n)
    → ((f : FlightDate) → is_named f m.flight ≡ true → IsSpanned kept f.day n) → IsCovered kept (book_row n m)
covered_by kept m n left came named f of = any_of (same_place (Built f) m.from) (same_place (Built f) m.to) (is_named f m.flight) (left f) (came f) (named f) of

-- the same flight is on the same day
pub same_day : (f g : FlightDate) (kept : Option (BTreeMap ℕ Span)) (n : ℕ) → IsSpanned kept g.day n → same_flight_date f g ≡ true → IsSpanned kept f.day n
same_day f g kept n there same =
    let tied : (f.day == g.day) ≡ true = second (same_flight f.flight g.flight) (f.day == g.day) same in
    let day : g.day ≡ f.day = grind (arith, tied) in
    subst (λ d. IsSpanned kept d n) day there

-- a move more
pub posted : (old new : Option (BTreeMap ℕ Span)) (book : List cargo.Move) (m : cargo.Move) (n : ℕ) → Covers old new (book_row n m) → n ≡ length book + 1 → AreCovered old book → AreCovered new (book ++ m ∷ [])
posted old new book m n covers one are =
    let next : n ≡ 1 + length book = omega (arith, one) in
    All-same (IsCovered new) _ _ (numbered_more 1 book m)
    (All-push (IsCovered new) (numbered book_row 1 book) (book_row (1 + length book) m)
    (All-weaker (IsCovered old) (IsCovered new) (λ row covered f of. covers.grows f.day row.number (covered f of)) (numbered book_row 1 book) are)
    (subst (λ k. IsCovered new (book_row k m)) next covers.there))

-- rows that were handed to a filling are covered
pub filled : (rows : List BookRow) (from to : Filling) → HandedOut (λ (old : Filling) row go (new : Filling). (go ≡ true) × Covers old.kept new.kept row) rows from to
    → ((day n : ℕ) → IsSpanned from.kept day n → IsSpanned to.kept day n) × All (IsCovered to.kept) rows
filled [] from to end = (λ day n h. subst (λ (t : Filling). IsSpanned t.kept day n) (sym end) h, All-nil (IsCovered to.kept))
filled (row ∷ rows) from to (true, mid, (goes, covers), rest) =
    let later = filled rows mid to rest in
    (λ day n h. later.0 day n (covers.grows day n h), All-cons (IsCovered to.kept) row rows (λ f of. later.0 f.day row.number (covers.there f of)) later.1)
filled (row ∷ rows) from to (false, mid, (goes, covers), rest) = absurd (cc)

above : (a : ℕ) (z : ℤ) → a < natural z → int_lt (pos a) z ≡ true
above a (pos n) h = grind (arith, ints, h)
above a (negsuc n) h = absurd (omega (arith, h))

below : (a : ℕ) (z : ℤ) → natural z ≤ a → int_le z (pos a) ≡ true
below a (pos n) h = grind (arith, ints, h)
below a (negsuc n) h = grind (arith, ints)

neither : (a b : Bool) → (a && (b && false)) ≡ false
neither true true = refl
neither true false = refl
neither false b = refl

module _ (f : FlightDate) (named : is_designator f.flight ≡ true) (span : Span) (kept : Option (BTreeMap ℕ Span)) (lies : (row : BookRow) → is_of_flight f row.movement ≡ true → IsCovered kept row → LiesIn span row.number) where
  abbrev flown : Move → Bool
  flown = is_flown (flight_text f.flight) (pos f.day)

  abbrev within : Move → Bool
  within = is_flown_within (flight_text f.flight) (pos f.day) (pos span.after) (pos span.last)

  same_row : (x : Move) → is_move_row x ≡ true → IsCovered kept (book_row_by x) → within x ≡ flown x
  same_row x ok covered = by_case (flown x) refl
    where
      by_case : (b : Bool) → flown x ≡ b → (is_move_after (pos span.after) x && (int_le x.number (pos span.last) && b)) ≡ b
      by_case true is =
          let lie = lies (book_row_by x) (flown_moves f named x ok ∙ is) covered in
          ap₂ (λ p q. p && (q && true)) (above span.after x.number lie.0) (below span.last x.number lie.1)
      by_case false is = neither (is_move_after (pos span.after) x) (int_le x.number (pos span.last))

  same_rows : (xs : List Move) → list_all is_move_row xs ≡ true → All (IsCovered kept) (map book_row_by xs) → filter within xs ≡ filter flown xs
  same_rows [] ok are = refl
  same_rows (x ∷ xs) ok are =
      ap₂ (λ b (l : List Move). cond b (x ∷ l) l) (same_row x (first _ _ ok) (All-head (IsCovered kept) (book_row_by x) (map book_row_by xs) are))
      (same_rows xs (second _ _ ok) (All-tail (IsCovered kept) (book_row_by x) (map book_row_by xs) are))

  -- what is read of the span
  pub within_span : (t : Tables) (s : State) → Means t (Some s) → AreCovered kept s.cargo.book → (name : List ℕ) (day after last : ℤ) → name ≡ flight_text f.flight → day ≡ pos f.day → after ≡ pos span.after → last ≡ pos span.last
      → map book_row_by (filter (is_flown_within name day after last) t.moves) ≡ book_by (On f) s.cargo
  within_span t s means are name day after last is_name is_day is_after is_last =
      (λ i. map book_row_by (filter (is_flown_within (is_name i) (is_day i) (is_after i) (is_last i)) t.moves))
      ∙ ap (map book_row_by) (same_rows t.moves means.0.moves (All-same (IsCovered kept) _ _ (book_handed t s means) are))
      ∙ book_on t s means f named
