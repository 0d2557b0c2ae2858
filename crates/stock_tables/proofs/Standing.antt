-- Rows that rise: who has a number below them, above them and among them.
use Rattle.stock_tables.proofs.Common.{AllByRecursion, Bool, Holder, List, None, Option, Some, StandFrom, StockRun, [], and_from, ap, arith, cond, end_of, false, holders_by, is_among, le-leb, lt-ltb, nat_le, nat_lt, nat_tests, refl, sym, true, ℕ, ◌&&◌, ◌++◌, ◌+◌, ◌<◌, ◌∙◌, ◌∷◌, ◌≡◌, ◌≤◌}

-- the number behind the last row, or the one that they stand from
abbrev pub last_end : ℕ → List StockRun → ℕ
last_end low [] = low
last_end low (row ∷ rows) = last_end (end_of row) rows

pub ends_up : (low : ℕ) (rows : List StockRun) → StandFrom low rows → low ≤ last_end low rows
ends_up low [] h = omega arith
ends_up low (row ∷ rows) h = let more = ends_up (end_of row) rows h.1 in omega (arith, more, h.0)

pub inside : (first count q : ℕ) → first ≤ q → q < first + count → is_among first count q ≡ true
inside first count q from below = and_from _ _ (le-leb _ _ from) (lt-ltb _ _ below)

under : (a c q : ℕ) → q < a → (nat_le a q && nat_lt q (a + c)) ≡ false
under a c q h = grind (arith, nat_tests)

over : (a c q : ℕ) → a + c ≤ q → (nat_le a q && nat_lt q (a + c)) ≡ false
over a c q h = grind (arith, nat_tests)

pub before_it : (first count q : ℕ) → q < first → is_among first count q ≡ false
before_it first count q h = under first count q h

pub behind_it : (first count q : ℕ) → first + count ≤ q → is_among first count q ≡ false
behind_it first count q h = over first count q h

-- who has a number by the first row, and by the others
pub here : (row : StockRun) (rows : List StockRun) (q : ℕ) → row.first ≤ q → q < end_of row → holders_by (row ∷ rows) q ≡ Some row.holder
here row rows q from below = ap (λ b. cond b (Some row.holder) (holders_by rows q)) (inside row.first row.count q from below)

pub passed : (row : StockRun) (rows : List StockRun) (q : ℕ) → end_of row ≤ q → holders_by (row ∷ rows) q ≡ holders_by rows q
passed row rows q h = ap (λ b. cond b (Some row.holder) (holders_by rows q)) (behind_it row.first row.count q h)

pub ahead : (row : StockRun) (rows : List StockRun) (q : ℕ) → q < row.first → holders_by (row ∷ rows) q ≡ holders_by rows q
ahead row rows q h = ap (λ b. cond b (Some row.holder) (holders_by rows q)) (before_it row.first row.count q h)

pub none_below : (low : ℕ) (rows : List StockRun) (q : ℕ) → StandFrom low rows → q < low → holders_by rows q ≡ None
none_below low [] q h lt = refl
none_below low (row ∷ rows) q h lt = ahead row rows q (omega (arith, h.0, lt)) ∙ none_below (end_of row) rows q h.1 (omega (arith, h.0, lt))

-- who has a number by two lists
abbrev or_else : Option Holder → Option Holder → Option Holder
or_else (Some t) other = Some t
or_else None other = other

step : (t : Bool) (h : Holder) (a b c : Option Holder) → c ≡ or_else a b → cond t (Some h) c ≡ or_else (cond t (Some h) a) b
step true h a b c e = refl
step false h a b c e = e

joint : (a b : List StockRun) (q : ℕ) → holders_by (a ++ b) q ≡ or_else (holders_by a q) (holders_by b q)
joint [] b q = refl
joint (row ∷ rows) b q = step (is_among row.first row.count q) row.holder (holders_by rows q) (holders_by b q) (holders_by (rows ++ b) q) (joint rows b q)

nothing_more : (x : Option Holder) → or_else x None ≡ x
nothing_more (Some t) = refl
nothing_more None = refl

pub by_second : (a b : List StockRun) (q : ℕ) → holders_by a q ≡ None → holders_by (a ++ b) q ≡ holders_by b q
by_second a b q h = joint a b q ∙ ap (λ x. or_else x (holders_by b q)) h

pub by_first : (a b : List StockRun) (q : ℕ) → holders_by b q ≡ None → holders_by (a ++ b) q ≡ holders_by a q
by_first a b q h = joint a b q ∙ ap (or_else (holders_by a q)) h ∙ nothing_more (holders_by a q)

-- lists that agree on a number agree between the same others
pub alike_between : (a b c d : List StockRun) (q : ℕ) → holders_by b q ≡ holders_by c q → holders_by (a ++ (b ++ d)) q ≡ holders_by (a ++ (c ++ d)) q
alike_between a b c d q h =
    joint a (b ++ d) q ∙ ap (or_else (holders_by a q)) (joint b d q ∙ ap (λ x. or_else x (holders_by d q)) h ∙ sym (joint c d q)) ∙ sym (joint a (c ++ d) q)

pub some_between : (a b d : List StockRun) (q : ℕ) (t : Holder) → holders_by a q ≡ None → holders_by b q ≡ Some t → holders_by (a ++ (b ++ d)) q ≡ Some t
some_between a b d q t none h = by_second a (b ++ d) q none ∙ (joint b d q ∙ ap (λ x. or_else x (holders_by d q)) h)

-- where two lists stand
pub stand_split : (low : ℕ) (a b : List StockRun) → StandFrom low (a ++ b) → StandFrom low a × StandFrom (last_end low a) b
stand_split low [] b h = (tt, h)
stand_split low (row ∷ rows) b h = let more = stand_split (end_of row) rows b h.1 in ((h.0, more.0), more.1)

pub stand_join : (low : ℕ) (a b : List StockRun) → StandFrom low a → StandFrom (last_end low a) b → StandFrom low (a ++ b)
stand_join low [] b h g = g
stand_join low (row ∷ rows) b h g = (h.0, stand_join (end_of row) rows b h.1 g)

pub last_end_join : (low : ℕ) (a b : List StockRun) → last_end low (a ++ b) ≡ last_end (last_end low a) b
last_end_join low [] b = refl
last_end_join low (row ∷ rows) b = last_end_join (end_of row) rows b

pub stand_lower : (low lower : ℕ) (rows : List StockRun) → lower ≤ low → StandFrom low rows → StandFrom lower rows
stand_lower low lower [] le h = tt
stand_lower low lower (row ∷ rows) le h = (omega (arith, le, h.0), h.1)

pub each_split : (P : StockRun → Type 0) (a b : List StockRun) → AllByRecursion P (a ++ b) → AllByRecursion P a × AllByRecursion P b
each_split P [] b h = (tt, h)
each_split P (row ∷ rows) b h = let more = each_split P rows b h.1 in ((h.0, more.0), more.1)

pub each_join : (P : StockRun → Type 0) (a b : List StockRun) → AllByRecursion P a → AllByRecursion P b → AllByRecursion P (a ++ b)
each_join P [] b h g = g
each_join P (row ∷ rows) b h g = (h.0, each_join P rows b h.1 g)
