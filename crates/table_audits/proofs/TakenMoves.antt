-- Moves that are taken one after another.
use Rattle.table_audits.proofs.Common.{AllByRecursion, AreBalances, AreBeside, AreDepartures, AreDistinct, AreGoodMoves, AreMoves, AreMovesTaken, AreRead, AreSums, BookAudit, Bool, Err, Error, FlightEntry, IsBookAs, IsBookOf, IsDeparted, IsGoodRow, IsLawfulMove, IsPosted, IsPosting, List, MoveRow, Ok, OnOk, Posting, Result, StaysDeparted, Tables, WaybillRow, [], ap, book_in, cargo_in, false, flight_entry, is_marked, length, length-append, listed_in, map, map-append, marked, marks_of, move_by, move_id, move_meant, pos, refl, replicate, running, subst, sym, true, true≢false, waybill_meant, ℕ, ◌++◌, ◌+◌, ◌∙◌, ◌∷◌, ◌≡◌}
use Rattle.shipment_machine.specs.declared.moves.Move as cargo
use Rattle.station_schema.specs.Tables.{Move}
use Rattle.table_audits.specs.declared.book.BookBeside.{BookBeside}
use Rattle.table_audits.proofs.DepartedLaws.{broken, marked_then, may_build, may_not_build, no_marks, stays_pop, stays_push}
use Rattle.sqlite_keyed.proofs.ListLemmas.{all-append}
use Rattle.table_audits.proofs.Lists.{all_pop}
use Rattle.table_audits.proofs.NumberLaws.{numbered_pop, numbered_push}
use Rattle.table_audits.proofs.RowsLaws.{good_rows, rows_good}

module _ (t : Tables) where
  -- the book of these rows, and of one row more
  abbrev cargo_moves : List Move → List cargo.Move
  cargo_moves moves = map move_by moves

  one_more_move : (moves : List Move) (row : Move) → cargo_moves (moves ++ row ∷ []) ≡ cargo_moves moves ++ move_by row ∷ []
  one_more_move moves row = map-append move_by moves (row ∷ [])

  pub none_good : AreGoodMoves t []
  none_good = record { numbers = refl; each = tt; stays = λ f. tt }

  -- what is good with a row more was good before
  pub good_before : (moves : List Move) (row : Move) → AreGoodMoves t (moves ++ row ∷ []) → AreGoodMoves t moves
  good_before moves row good = record {
    numbers = (numbered_pop move_id moves row good.numbers).0;
    each = (all_pop (IsGoodRow t) moves row good.each).0;
    stays = λ f. stays_pop f (cargo_moves moves) (move_by row) (subst (StaysDeparted f) (one_more_move moves row) (good.stays f));
  }

  pub number_next : (moves : List Move) (row : Move) → AreGoodMoves t (moves ++ row ∷ []) → move_id row ≡ pos (length moves + 1)
  number_next moves row good = (numbered_pop move_id moves row good.numbers).1

  pub row_next : (moves : List Move) (row : Move) → AreGoodMoves t (moves ++ row ∷ []) → IsGoodRow t row
  row_next moves row good = (all_pop (IsGoodRow t) moves row good.each).1

  module _ (distinct : AreDistinct (listed_in t)) (moves : List Move) (row : Move) (p : Posting) (posted : IsPosted t row p) where
    abbrev past : List cargo.Move
    past = cargo_moves moves

    -- a row that builds on a flight that has departed
    pub builds_late : is_marked (marks_of (listed_in t) past) p.to ≡ true → AreGoodMoves t (moves ++ row ∷ []) → ⊥
    builds_late gone good =
        let f = may_not_build (listed_in t) distinct past (move_by row) p posted.posted gone in
        broken f.0 past (move_by row) [] f.1 f.2 (subst (StaysDeparted f.0) (one_more_move moves row) (good.stays f.0))

    pub good_more : AreGoodMoves t moves → move_id row ≡ pos (length moves + 1) → is_marked (marks_of (listed_in t) past) p.to ≡ false → AreGoodMoves t (moves ++ row ∷ [])
    good_more good number free = record {
      numbers = numbered_push move_id moves row good.numbers number;
      each = all-append (IsGoodRow t) moves (row ∷ []) good.each (posted.good, tt);
      stays = λ f. subst (StaysDeparted f) (sym (one_more_move moves row)) (stays_push f past (move_by row) (good.stays f) (may_build (listed_in t) distinct past (move_by row) p posted.posted free f));
    }

  -- the book with a move more
  pub book_more : AreDistinct (listed_in t) → (moves : List Move) (row : Move) (p : Posting) → IsPosting (listed_in t) p (move_by row) → AreGoodMoves t (moves ++ row ∷ []) → (old new : BookAudit) → IsBookOf t moves old
      → AreSums (listed_in t) new.sums (running (cargo_moves moves ++ move_by row ∷ [])) → new.departed.items ≡ marked old.departed.items p.from p.to → new.count ≡ old.count + 1 → IsBookOf t (moves ++ row ∷ []) new
  book_more distinct moves row p is good old new was sums marks count = record {
    good = good;
    counted = count ∙ ap (λ n. n + 1) was.counted ∙ sym (length-append moves (row ∷ []));
    sums = subst (λ ms. AreSums (listed_in t) new.sums (running ms)) (sym (one_more_move moves row)) sums;
    departed = marks ∙ ap (λ l. marked l p.from p.to) was.departed ∙ marked_then (listed_in t) distinct (cargo_moves moves) (move_by row) p is ∙ ap (marks_of (listed_in t)) (sym (one_more_move moves row));
  }

  pub book_of_none : (audit : BookAudit) (count : ℕ) → audit.count ≡ 0 → AreSums (listed_in t) audit.sums (running []) → audit.departed.items ≡ replicate count false → length (listed_in t) ≡ count → IsBookOf t [] audit
  book_of_none audit count none sums marks long = record {
    good = none_good;
    counted = none;
    sums = sums;
    departed = marks ∙ ap (λ n. replicate n false) (sym long) ∙ no_marks (listed_in t);
  }

  -- ---- rows that are taken

  one_more_row : (rows : List MoveRow) (row : MoveRow) → map move_meant (rows ++ row ∷ []) ≡ map move_meant rows ++ move_meant row ∷ []
  one_more_row rows row = map-append move_meant rows (row ∷ [])

  still_bad : (moves : List Move) (row : Move) (audit : BookAudit) (b : Bool) → b ≡ false → IsBookAs t moves audit b → IsBookAs t (moves ++ row ∷ []) audit b
  still_bad moves row audit true e was = absurd (true≢false e)
  still_bad moves row audit false e never = λ good. never (good_before moves row good)

  pub bad_before : (rows : List MoveRow) (row : MoveRow) (audit : BookAudit) (b : Bool) → b ≡ false → IsBookAs t (map move_meant rows) audit b → IsBookAs t (map move_meant (rows ++ row ∷ [])) audit b
  bad_before rows row audit b e was = subst (λ ms. IsBookAs t ms audit b) (sym (one_more_row rows row)) (still_bad (map move_meant rows) (move_meant row) audit b e was)

  good_now : (rows : List MoveRow) (row : MoveRow) (audit : BookAudit) (b : Bool) → b ≡ true → IsBookOf t (map move_meant rows ++ move_meant row ∷ []) audit → IsBookAs t (map move_meant (rows ++ row ∷ [])) audit b
  good_now rows row audit true e book = subst (λ ms. IsBookOf t ms audit) (sym (one_more_row rows row)) book
  good_now rows row audit false e book = absurd (true≢false (sym e))

  pub read_as : (beside : BookBeside) (ws : List WaybillRow) (fs : List FlightEntry) → ws ≡ beside.waybills.items → fs ≡ beside.flights.items → AreRead t beside → AreBeside t (map waybill_meant ws) (map flight_entry fs)
  read_as beside ws fs w f by = subst (λ l. AreBeside t (map waybill_meant l) (map flight_entry fs)) (sym w) (subst (λ l. AreBeside t (map waybill_meant beside.waybills.items) (map flight_entry l)) (sym f) by)

  -- ---- the whole book

  pub lawful_moves : AreGoodMoves t t.moves → AllByRecursion (IsLawfulMove (cargo_in t)) (book_in t.moves)
  lawful_moves good = (good_rows t good.numbers good.each).moves

  pub departed_so : (marks : List Bool) → AreGoodMoves t t.moves → marks ≡ marks_of (listed_in t) (book_in t.moves) → IsDeparted (listed_in t) (book_in t.moves) marks
  departed_so marks good are = record { marks_are = are; stays = good.stays }

  -- the book is lawful where its moves are good, its flights are closed as they departed, and its
  -- balances are lawful
  pub whole_book : AreGoodMoves t t.moves → AreDepartures t → AreBalances t → AreMoves t
  whole_book good departures balances = let rows = good_rows t good.numbers good.each in record {
    rows = rows.rows;
    numbers = rows.numbers;
    moves = rows.moves;
    stocked = balances.stocked;
    covered = balances.covered;
    within = balances.within;
    closed = departures.closed;
    departed = departures.departed;
    empty = balances.empty;
    room = balances.room;
  }

  pub good_in : AreMoves t → AreGoodMoves t t.moves
  good_in all = record {
    numbers = all.numbers;
    each = rows_good t (record { rows = all.rows; numbers = all.numbers; moves = all.moves });
    stays = all.departed;
  }

  pub balances_in : AreMoves t → AreBalances t
  balances_in all = record { stocked = all.stocked; covered = all.covered; within = all.within; empty = all.empty; room = all.room }

-- a move that is added is taken
pub book_taken : (beside : BookBeside) (rows : List MoveRow) (row : MoveRow) (old new : BookAudit) {X : Type 0} (r : Result X Error) → old.are_good ≡ true → OnOk r (new.are_good ≡ old.are_good)
    → ((t : Tables) → AreRead t beside → OnOk r (IsBookOf t (map move_meant rows ++ move_meant row ∷ []) new)) → OnOk r (AreMovesTaken beside new (rows ++ row ∷ []))
book_taken beside rows row old new (Err e) is same books = tt
book_taken beside rows row old new (Ok x) is same books = λ t by. good_now t rows row new new.are_good (same ∙ is) (books t by)
