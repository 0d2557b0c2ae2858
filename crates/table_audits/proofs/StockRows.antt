-- The numbers of a row of `stock`, and rows that are apart.
use Rattle.table_audits.proofs.Common.{AllAdjacentBelow, AllByRecursion, AllWithin, Bool, Decides-int_eq, HoldsAt, IsAllAdjacentAnswer, IsTrue, List, MatchBool, Some, Stock, StockKey, [], all_both, all_weaker, and_from, and_parts, ap, are_apart, arith, cond, false, find, holder_by, int_eq, int_le, int_lt, ints, is_behind, is_some, is_stock_row, is_within, length, list_all, map, negsuc, number_at, pos, refl, slice_index_or, stands_for, subst, suc, sym, true, true≢false, zero, ℕ, ℤ, ◌%◌, ◌&&◌, ◌*◌, ◌+◌, ◌/◌, ◌<◌, ◌||◌, ◌↔◌, ◌∙◌, ◌∷◌, ◌≡◌, ◌≤◌}
use Rattle.awb_number.specs.Number.{prefix_of, serial_of}

-- ---- the numbers of a row

pub record InRange (e : StockKey × Stock) : Type 0 where
  pub prefix : is_within 0 999 e.0.0 ≡ true
  pub low : is_within 0 9_999_999 e.0.1 ≡ true
  pub some : int_le e.0.1 e.1.high ≡ true
  pub high : int_le e.1.high (pos 9_999_999) ≡ true
  pub held : is_some (holder_by e.1) ≡ true

pub in_range : (e : StockKey × Stock) → is_stock_row e ≡ true → InRange e
in_range e h =
    let a = and_parts _ _ h in
    let b = and_parts _ _ a.0 in
    let c = and_parts _ _ b.0 in
    let d = and_parts _ _ c.0 in
    record { prefix = d.0; low = d.1; some = c.1; high = b.1; held = a.1 }

le_nat : (a b : ℕ) → int_le (pos a) (pos b) ≡ true → a ≤ b
le_nat a b h = grind (arith, ints)

le_int : (a b : ℕ) → a ≤ b → int_le (pos a) (pos b) ≡ true
le_int a b h = grind (arith, ints)

eq_nat : (a b : ℕ) → int_eq (pos a) (pos b) ≡ true → a ≡ b
eq_nat a b h = grind (arith, ints)

number_is : (p s : ℕ) → number_at (pos p) (pos s) ≡ pos (p * 10_000_000 + s)
number_is p s = grind (arith, ints)

below_in : (a b n : ℕ) → a ≡ n / 10_000_000 → b ≤ n % 10_000_000 → a * 10_000_000 + b ≤ n
below_in a b n p s = omega (arith, p, s)

above_in : (a c n : ℕ) → a ≡ n / 10_000_000 → n % 10_000_000 ≤ c → n ≤ a * 10_000_000 + c
above_in a c n p s = omega (arith, p, s)

parts_of : (a b c n : ℕ) → c ≤ 9_999_999 → a * 10_000_000 + b ≤ n → n ≤ a * 10_000_000 + c → (a ≡ n / 10_000_000) × (b ≤ n % 10_000_000) × (n % 10_000_000 ≤ c)
parts_of a b c n k from to = (omega (arith, k, from, to), omega (arith, k, from, to), omega (arith, k, from, to))

pub record Between (p low high : ℤ) (n : ℕ) : Type 0 where
  pub from : int_le (number_at p low) (pos n) ≡ true
  pub to : int_le (pos n) (number_at p high) ≡ true

abbrev pub serials : ℤ → ℤ → ℤ → ℕ → Bool
serials p low high n = int_eq p (pos (n / 10_000_000)) && (int_le low (pos (n % 10_000_000)) && int_le (pos (n % 10_000_000)) high)

-- what stands in a row is between its lowest and its highest number
pub between : (p low high : ℤ) (n : ℕ) → is_within 0 999 p ≡ true → is_within 0 9_999_999 low ≡ true → int_le low high ≡ true → serials p low high n ≡ true → Between p low high n
between (pos a) (pos b) (pos c) n f g k s =
    let parts = and_parts (int_eq (pos a) (pos (n / 10_000_000))) _ s in
    let ends = and_parts (int_le (pos b) (pos (n % 10_000_000))) (int_le (pos (n % 10_000_000)) (pos c)) parts.1 in
    let prefix : a ≡ n / 10_000_000 = eq_nat _ _ parts.0 in
    record {
      from = subst (λ z. int_le z (pos n) ≡ true) (sym (number_is a b)) (le_int _ _ (below_in a b n prefix (le_nat _ _ ends.0)));
      to = subst (λ z. int_le (pos n) z ≡ true) (sym (number_is a c)) (le_int _ _ (above_in a c n prefix (le_nat _ _ ends.1)));
    }
between _ _ _ n f g k s = absurd (let no' : ⊥ = grind (arith, ints) in no')

-- and the other way round
pub stands : (p low high n : ℤ) → is_within 0 999 p ≡ true → is_within 0 9_999_999 low ≡ true → int_le low high ≡ true → int_le high (pos 9_999_999) ≡ true → int_le (number_at p low) n ≡ true → int_le n (number_at p high) ≡ true → (k : ℕ) × (n ≡ pos k) × (serials p low high k ≡ true)
stands (pos a) (pos b) (pos c) (pos n) f g k l from to =
    let parts = parts_of a b c n (le_nat _ _ l) (le_nat _ _ (subst (λ z. int_le z (pos n) ≡ true) (number_is a b) from)) (le_nat _ _ (subst (λ z. int_le (pos n) z ≡ true) (number_is a c) to)) in
    (n, refl, and_from _ _ ((Decides-int_eq _ _).1 (ap pos parts.0)) (and_from _ _ (le_int _ _ parts.1) (le_int _ _ parts.2)))
stands (pos a) (pos b) (pos c) (negsuc n) f g k l from to = absurd (true≢false (sym (subst (λ z. int_le z (negsuc n) ≡ true) (number_is a b) from)))
stands _ _ _ n f g k l from to = absurd (let no' : ⊥ = grind (arith, ints) in no')

-- ---- rows that are apart

behind_more : (p high q low to r from : ℤ) → (int_lt p q || (int_eq p q && int_lt high low)) ≡ true → int_le low to ≡ true → (int_lt q r || (int_eq q r && int_lt to from)) ≡ true → (int_lt p r || (int_eq p r && int_lt high from)) ≡ true
behind_more p high q low to r from a b c = grind (arith, ints)

behind_other : (p from high q low prefix serial : ℤ) → (int_lt p q || (int_eq p q && int_lt high low)) ≡ true → int_eq q prefix ≡ true → int_le low serial ≡ true → (int_eq p prefix && (int_le from serial && int_le serial high)) ≡ false
behind_other p from high q low prefix serial a b c = grind (arith, ints)

-- a number of one row isn't in a row before it
not_before : (n : ℕ) (row e : StockKey × Stock) → is_behind row e ≡ true → stands_for n e ≡ true → stands_for n row ≡ false
not_before n row e behind s =
    let parts = and_parts (int_eq e.0.0 (pos (prefix_of n))) (int_le e.0.1 (pos (serial_of n)) && int_le (pos (serial_of n)) e.1.high) s in
    let ends = and_parts (int_le e.0.1 (pos (serial_of n))) (int_le (pos (serial_of n)) e.1.high) parts.1 in
    behind_other row.0.0 row.0.1 row.1.high e.0.0 e.0.1 (pos (prefix_of n)) (pos (serial_of n)) behind parts.0 ends.0

all_behind : (row : StockKey × Stock) (rows : List (StockKey × Stock)) → list_all is_stock_row rows ≡ true → are_apart (row ∷ rows) ≡ true → AllByRecursion (λ e. is_behind row e ≡ true) rows
all_behind row [] all apart = tt
all_behind row (next ∷ rows) all apart =
    let parts = and_parts (is_stock_row next) (list_all is_stock_row rows) all in
    let behind = and_parts (is_behind row next) (are_apart (next ∷ rows)) apart in
    (behind.0, all_weaker (λ e. is_behind next e ≡ true) (λ e. is_behind row e ≡ true) (λ e h. behind_more row.0.0 row.1.high next.0.0 next.0.1 next.1.high e.0.0 e.0.1 behind.0 (in_range next parts.0).some h) rows (all_behind next rows parts.1 behind.1))

-- the row that is found for each of its numbers
abbrev pub IsFound : List (StockKey × Stock) → StockKey × Stock → Type 0
IsFound rows e = (n : ℕ) → stands_for n e ≡ true → find (stands_for n) rows ≡ Some e

pub each_found : (rows : List (StockKey × Stock)) → list_all is_stock_row rows ≡ true → are_apart rows ≡ true → AllByRecursion (IsFound rows) rows
each_found [] all apart = tt
each_found (row ∷ rows) all apart =
    let parts = and_parts (is_stock_row row) (list_all is_stock_row rows) all in (
      λ n h. ap (λ b. cond b (Some row) (find (stands_for n) rows)) h,
      all_both (λ e. is_behind row e ≡ true) (IsFound rows) (IsFound (row ∷ rows)) (λ e behind is n h. ap (λ b. cond b (Some row) (find (stands_for n) rows)) (not_before n row e behind h) ∙ is n h)
          rows (all_behind row rows parts.1 apart) (each_found rows parts.1 (others rows apart)),
    )
  where
    others : (rest : List (StockKey × Stock)) → are_apart (row ∷ rest) ≡ true → are_apart rest ≡ true
    others [] h = refl
    others (next ∷ rest) h = (and_parts (is_behind row next) (are_apart (next ∷ rest)) h).1

-- ---- row by row

module _ {X : Type 0} (f : X → StockKey × Stock) where
  after : (k : ℕ) → suc k + 1 ≡ suc (k + 1)
  after k = omega arith

  apart_from : (xs : List X) → AllAdjacentBelow (λ x y. true ≡ is_behind (f x) (f y)) xs (length xs) → are_apart (map f xs) ≡ true
  apart_from [] h = refl
  apart_from (x ∷ []) h = refl
  apart_from (x ∷ y ∷ xs) h = and_from _ _ (sym (h 0 x (omega arith))) (apart_from (y ∷ xs) (λ k d low. subst (λ j. true ≡ is_behind (f (slice_index_or (y ∷ xs) k d)) (f (slice_index_or (x ∷ y ∷ xs) j d))) (after k) (h (suc k) d (omega arith))))

  and_no : (a b : Bool) → b ≡ false → (a && b) ≡ false
  and_no a b h = grind arith

  not_apart : (xs : List X) (k : ℕ) → k + 1 < length xs → ((d : X) → false ≡ is_behind (f (slice_index_or xs k d)) (f (slice_index_or xs (k + 1) d))) → are_apart (map f xs) ≡ false
  not_apart [] k low h = absurd (omega arith)
  not_apart (x ∷ []) k low h = absurd (omega arith)
  not_apart (x ∷ y ∷ xs) zero low h = ap (λ b. b && are_apart (map f (y ∷ xs))) (sym (h x))
  not_apart (x ∷ y ∷ xs) (suc k) low h = and_no (is_behind (f x) (f y)) _ (not_apart (y ∷ xs) k (omega arith) (λ d. subst (λ j. false ≡ is_behind (f (slice_index_or (y ∷ xs) k d)) (f (slice_index_or (x ∷ y ∷ xs) j d))) (after k) (h d)))

  pub adjacent : (xs : List X) (r : Bool) → IsAllAdjacentAnswer (λ x y b. b ≡ is_behind (f x) (f y)) xs r → r ≡ are_apart (map f xs)
  adjacent xs true h = sym (apart_from xs h)
  adjacent xs false h = sym (not_apart xs h.0 h.1 h.2)

module _ {X Y : Type 0} (f : X → Y) (P : Y → Type 0) where
  each_from : (xs : List X) → ((k : ℕ) (d : X) → k < length xs → P (f (slice_index_or xs k d))) → AllByRecursion P (map f xs)
  each_from [] h = tt
  each_from (x ∷ xs) h = (h 0 x (omega arith), each_from xs (λ k d low. h (suc k) d (omega arith)))

  none : (xs : List X) (k : ℕ) → k < length xs → HoldsAt (λ x. P (f x) → ⊥) xs k → AllByRecursion P (map f xs) → ⊥
  none [] k low h all = absurd (omega arith)
  none (x ∷ xs) zero low h all = h x all.0
  none (x ∷ xs) (suc k) low h all = none xs k (omega arith) h all.1

  pub each_row : (xs : List X) (r : Bool) → MatchBool r (AllWithin (λ x. P (f x)) xs 0 (length xs)) ((k : ℕ) × (k < length xs) × HoldsAt (λ x. P (f x) → ⊥) xs k) → (IsTrue r ↔ AllByRecursion P (map f xs))
  each_row xs true h = (λ e. each_from xs (λ k d low. h k d (omega arith) low), λ all. refl)
  each_row xs false h = (λ e. absurd (true≢false (sym e)), λ all. absurd (none xs h.0 h.1 h.2 all))
