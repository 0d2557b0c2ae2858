-- Rows with their numbers from a place on, and those of them that are asked for.
use Rattle.state_store.proofs.Common.{Bool, List, Move, [], ap, arith, book_row, cases_lt, drop, drop_all, drop_more, false, filter, first_line, first_movement, flat_map, flat_map-cons, get_or, if_line, if_movement, if◌then◌else◌, inl, inr, is_movement_of, last_of, length, lines_for, map, min, movements_for, nat_lt, nat_tests, numbered, refl, suc, sym, trail_row, true, zero, ℕ, ◌++◌, ◌+◌, ◌-◌, ◌<◌, ◌==◌, ◌∙◌, ◌∷◌, ◌≡◌, ◌≤◌, ◌⊎◌}
use Rattle.station_core.specs.declared.rows.BookQuery.{BookQuery}
use Rattle.station_core.specs.declared.rows.BookQuery.TheVariants as book
use Rattle.station_core.specs.declared.rows.BookRow.{BookRow}
use Rattle.station_core.specs.declared.rows.TrailQuery.{TrailQuery}
use Rattle.station_core.specs.declared.rows.TrailQuery.TheVariants as trail
use Rattle.station_core.specs.declared.rows.TrailRow.{TrailRow}

-- the row at a place, and those behind it
pub ahead : {X Row : Type 0} (f : ℕ → X → Row) (xs : List X) (at : ℕ) (x : X) → at < length xs → x ≡ get_or xs at x → numbered f (at + 1) (drop at xs) ≡ f (at + 1) x ∷ numbered f (at + 1 + 1) (drop (at + 1) xs)
ahead f xs at x lt is = ap (numbered f (at + 1)) (drop_more xs at x lt ∙ ap (λ y. y ∷ drop (at + 1) xs) (sym is))

pub ahead_mapped : {X Y Row : Type 0} (g : Y → X) (f : ℕ → X → Row) (ys : List Y) (at : ℕ) (y : Y) → at < length ys → y ≡ get_or ys at y
    → numbered f (at + 1) (drop at (map g ys)) ≡ f (at + 1) (g y) ∷ numbered f (at + 1 + 1) (drop (at + 1) (map g ys))
ahead_mapped g f ys at y lt is = ap (numbered f (at + 1)) (dropped g ys at y lt is)
  where
    dropped : {X Y : Type 0} (g : Y → X) (ys : List Y) (at : ℕ) (y : Y) → at < length ys → y ≡ get_or ys at y → drop at (map g ys) ≡ g y ∷ drop (at + 1) (map g ys)
    dropped g [] at y lt is = absurd (omega arith)
    dropped g (z ∷ ys) zero y lt is = ap (λ x. g x ∷ map g ys) (sym is)
    dropped g (z ∷ ys) (suc at) y lt is =
        let next : suc at + 1 ≡ suc (at + 1) = omega arith in
        dropped g ys at y (omega (arith, lt)) is ∙ ap (λ n. g y ∷ drop n (g z ∷ map g ys)) (sym next)

pub none_ahead : {X Row : Type 0} (f : ℕ → X → Row) (xs : List X) (at : ℕ) → length xs ≤ at → numbered f (at + 1) (drop at xs) ≡ []
none_ahead f xs at le = ap (numbered f (at + 1)) (drop_all at xs le)

pub length-mapped : {X Y : Type 0} (g : Y → X) (ys : List Y) → length (map g ys) ≡ length ys
length-mapped g [] = refl
length-mapped g (y ∷ ys) = ap (λ n. suc n) (length-mapped g ys)

pub none_ahead_mapped : {X Y Row : Type 0} (g : Y → X) (f : ℕ → X → Row) (ys : List Y) (at : ℕ) → length ys ≤ at → numbered f (at + 1) (drop at (map g ys)) ≡ []
none_ahead_mapped g f ys at le = none_ahead f (map g ys) at (omega (arith, le, length-mapped g ys))

-- ---- by a test, and from a number on

picked : {Row : Type 0} (p : Row → Bool) (rows : List Row) → flat_map (λ row. if p row then row ∷ [] else []) rows ≡ filter p rows
picked p [] = refl
picked p (row ∷ rows) = flat_map-cons (λ r. if p r then r ∷ [] else []) row rows ∙ by_case (p row) (picked p rows)
  where
    by_case : (b : Bool) → flat_map (λ r. if p r then r ∷ [] else []) rows ≡ filter p rows → (if b then row ∷ [] else []) ++ flat_map (λ r. if p r then r ∷ [] else []) rows ≡ (if b then row ∷ filter p rows else filter p rows)
    by_case true h = ap (λ l. row ∷ l) h
    by_case false h = h

all_of : {Row : Type 0} (rows : List Row) → filter (λ row. true) rows ≡ rows
all_of [] = refl
all_of (row ∷ rows) = ap (λ l. row ∷ l) (all_of rows)

dropped : {X Row : Type 0} (f : ℕ → X → Row) (k n : ℕ) (xs : List X) → drop k (numbered f n xs) ≡ numbered f (k + n) (drop k xs)
dropped f zero n xs = let e : n ≡ 0 + n = omega arith in ap (λ m. numbered f m xs) e
dropped f (suc k) n [] = refl
dropped f (suc k) n (x ∷ xs) = let e : k + (n + 1) ≡ suc k + n = omega arith in dropped f k (n + 1) xs ∙ ap (λ m. numbered f m (drop k xs)) e

length-numbered : {X Row : Type 0} (f : ℕ → X → Row) (n : ℕ) (xs : List X) → length (numbered f n xs) ≡ length xs
length-numbered f n [] = refl
length-numbered f n (x ∷ xs) = ap (λ m. suc m) (length-numbered f (n + 1) xs)

module _ {X Row : Type 0} (f : ℕ → X → Row) (number : Row → ℕ) (is : (n : ℕ) (x : X) → number (f n x) ≡ n) where
  above : (n m : ℕ) (xs : List X) → n < m → filter (λ row. nat_lt n (number row)) (numbered f m xs) ≡ numbered f m xs
  above n m [] lt = refl
  above n m (x ∷ xs) lt =
      let passes : nat_lt n (number (f m x)) ≡ true = grind (arith, nat_tests, is m x, lt) in
      ap (λ b. if b then f m x ∷ filter (λ row. nat_lt n (number row)) (numbered f (m + 1) xs) else filter (λ row. nat_lt n (number row)) (numbered f (m + 1) xs)) passes
      ∙ ap (λ l. f m x ∷ l) (above n (m + 1) xs (omega (arith, lt)))

  after : (k m : ℕ) (xs : List X) → filter (λ row. nat_lt (k + m) (number row)) (numbered f (m + 1) xs) ≡ drop k (numbered f (m + 1) xs)
  after zero m xs = let lt : 0 + m < m + 1 = omega arith in above (0 + m) (m + 1) xs lt
  after (suc k) m [] = refl
  after (suc k) m (x ∷ xs) =
      let fails : nat_lt (suc k + m) (number (f (m + 1) x)) ≡ false = grind (arith, nat_tests, is (m + 1) x) in
      let e : k + (m + 1) ≡ suc k + m = omega arith in
      ap (λ b. if b then f (m + 1) x ∷ filter (λ row. nat_lt (suc k + m) (number row)) (numbered f (m + 1 + 1) xs) else filter (λ row. nat_lt (suc k + m) (number row)) (numbered f (m + 1 + 1) xs)) fails
      ∙ ap (λ n. filter (λ row. nat_lt n (number row)) (numbered f (m + 1 + 1) xs)) (sym e) ∙ after k (m + 1) xs

  -- the rows with a greater number
  greater : (n : ℕ) (xs : List X) → filter (λ row. nat_lt n (number row)) (numbered f 1 xs) ≡ numbered f (min n (length xs) + 1) (drop (min n (length xs)) xs)
  greater n xs = by_length (cases_lt (length xs) n)
    where
      from : filter (λ row. nat_lt n (number row)) (numbered f 1 xs) ≡ numbered f (n + 1) (drop n xs)
      from = let e : n ≡ n + 0 = omega arith in ap (λ k. filter (λ row. nat_lt k (number row)) (numbered f 1 xs)) e ∙ after n 0 xs ∙ dropped f n 1 xs

      by_length : (length xs < n) ⊎ (n ≤ length xs) → filter (λ row. nat_lt n (number row)) (numbered f 1 xs) ≡ numbered f (min n (length xs) + 1) (drop (min n (length xs)) xs)
      by_length (inl lt) =
          let least : min n (length xs) ≡ length xs = omega (arith, lt) in
          from ∙ ap (numbered f (n + 1)) (drop_all n xs (omega (arith, lt))) ∙ sym (ap (λ k. numbered f (k + 1) (drop k xs)) least ∙ ap (numbered f (length xs + 1)) (drop_all (length xs) xs (omega arith)))
      by_length (inr le) =
          let least : min n (length xs) ≡ n = omega (arith, le) in
          from ∙ ap (λ k. numbered f (k + 1) (drop k xs)) (sym least)

-- the last rows
last : {X Row : Type 0} (f : ℕ → X → Row) (n : ℕ) (xs : List X) → last_of n (numbered f 1 xs) ≡ numbered f ((length xs - n) + 1) (drop (length xs - n) xs)
last f n xs = ap (λ k. drop (k - n) (numbered f 1 xs)) (length-numbered f 1 xs) ∙ dropped f (length xs - n) 1 xs

-- ---- what is asked for

pub movements_are : (query : BookQuery) (moves : List Move) → flat_map (if_movement query) (numbered book_row (first_movement query (length moves) + 1) (drop (first_movement query (length moves)) moves)) ≡ movements_for query (numbered book_row 1 moves)
movements_are book.All moves = picked (λ row. true) (numbered book_row 1 moves) ∙ all_of (numbered book_row 1 moves)
movements_are (book.After n) moves =
    picked (λ row. true) _ ∙ all_of _ ∙ sym (greater book_row (λ (row : BookRow). row.number) (λ n m. refl) n moves)
movements_are (book.Last n) moves = picked (λ row. true) _ ∙ all_of _ ∙ sym (last book_row n moves)
movements_are (book.Of w) moves = picked (λ (row : BookRow). row.movement.awb == w) (numbered book_row 1 moves)
movements_are (book.On f) moves = picked (λ (row : BookRow). is_movement_of (book.On f) row.movement) (numbered book_row 1 moves)

pub lines_are : (query : TrailQuery) (lines : List (ℕ × List ℕ)) → flat_map (if_line query) (numbered trail_row (first_line query (length lines) + 1) (drop (first_line query (length lines)) lines)) ≡ lines_for query (numbered trail_row 1 lines)
lines_are trail.All lines = picked (λ row. true) (numbered trail_row 1 lines) ∙ all_of (numbered trail_row 1 lines)
lines_are (trail.After n) lines =
    picked (λ row. true) _ ∙ all_of _ ∙ sym (greater trail_row (λ (row : TrailRow). row.number) (λ n m. refl) n lines)
lines_are (trail.Last n) lines = picked (λ row. true) _ ∙ all_of _ ∙ sym (last trail_row n lines)
lines_are (trail.Of w) lines = picked (λ (row : TrailRow). row.awb == w) (numbered trail_row 1 lines)
