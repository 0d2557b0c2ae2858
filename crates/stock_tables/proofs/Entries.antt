-- A row is a run, and a run is a row.
use Rattle.stock_tables.proofs.Common.{Agent, AllByRecursion, Bool, Desk, Holder, IsRunRow, IsWritable, Less, List, None, Some, StandFrom, Stock, StockKey, StockRun, T, Used, Void, [], and_from, and_parts, ap, are_apart, arith, below_all, cases_lt, code_of, cond, end_of, entry_of, eqb-true, false, holder_by, holder_number, inl, inr, int_cmp, int_eq, int_lt, ints, is_behind, is_lt, is_some, is_sorted, is_stock_row, key_of, length, list_all, map, named, nat_eq, natural, ordering_then, pos, prefix_of, refl, run_in, serial_of, stock_cmp, subst, suc, sym, true, unnamed_holder, ℕ, ℤ, ◌%◌, ◌&&◌, ◌*◌, ◌+◌, ◌-◌, ◌/◌, ◌<◌, ◌==◌, ◌||◌, ◌∙◌, ◌∷◌, ◌≡◌, ◌≤◌, ◌⊎◌}
use Rattle.agent_stock.specs.Fields.{is_agent_code}
use Rattle.stock_tables.proofs.Meant.{fits, low_fits, natural_is, bounds, row_fits, has_holder}

-- ---- a row, as a run, is the row again

is_int : (a : ℤ) (n : ℕ) → int_eq a (pos n) ≡ true → a ≡ pos n
is_int a n h = grind (arith, ints)

no_code : (text : List ℕ) → (length text == 0) ≡ true → text ≡ []
no_code [] h = refl
no_code (b ∷ text) h = absurd (longer (length text) h)
  where
    longer : (n : ℕ) → nat_eq (suc n) 0 ≡ true → ⊥
    longer n e = omega (arith, eqb-true (suc n) 0 e)

abbrev Stored : Stock → Holder → Type 0
Stored s h = (holder_number h ≡ s.holder) × (code_of h ≡ s.agent)

stored_as : (s : Stock) (g h : Holder) → Some g ≡ Some h → Stored s g → Stored s h
stored_as s g h is stored = let same : g ≡ h = cc in subst (Stored s) same stored

stored_again : (s : Stock) (h : Holder) → holder_by s ≡ Some h → Stored s h
stored_again s h is = agent (int_eq s.holder (pos 1)) refl is
  where
    void : (b : Bool) → int_eq s.holder (pos 3) ≡ b → s.agent ≡ [] → cond b (Some Void) None ≡ Some h → Stored s h
    void true e none at = stored_as s Void h at (sym (is_int s.holder 3 e), sym none)
    void false e none at = absurd (cc)

    used : (b : Bool) → int_eq s.holder (pos 2) ≡ b → s.agent ≡ [] → cond b (Some Used) (cond (int_eq s.holder (pos 3)) (Some Void) None) ≡ Some h → Stored s h
    used true e none at = stored_as s Used h at (sym (is_int s.holder 2 e), sym none)
    used false e none at = void (int_eq s.holder (pos 3)) refl none at

    desk : (b : Bool) → int_eq s.holder (pos 0) ≡ b → s.agent ≡ [] → cond b (Some Desk) (cond (int_eq s.holder (pos 2)) (Some Used) (cond (int_eq s.holder (pos 3)) (Some Void) None)) ≡ Some h → Stored s h
    desk true e none at = stored_as s Desk h at (sym (is_int s.holder 0 e), sym none)
    desk false e none at = used (int_eq s.holder (pos 2)) refl none at

    unnamed : (b : Bool) → (length s.agent == 0) ≡ b → cond b (unnamed_holder s.holder) None ≡ Some h → Stored s h
    unnamed true e at = desk (int_eq s.holder (pos 0)) refl (no_code s.agent e) at
    unnamed false e at = absurd (cc)

    code : (b : Bool) → int_eq s.holder (pos 1) ≡ true → cond b (Some (Agent s.agent)) None ≡ Some h → Stored s h
    code true e at = stored_as s (Agent s.agent) h at (sym (is_int s.holder 1 e), refl)
    code false e at = absurd (cc)

    agent : (b : Bool) → int_eq s.holder (pos 1) ≡ b → cond b (cond (is_agent_code s.agent) (Some (Agent s.agent)) None) (cond (length s.agent == 0) (unnamed_holder s.holder) None) ≡ Some h → Stored s h
    agent true e at = code (is_agent_code s.agent) e at
    agent false e at = unnamed (length s.agent == 0) refl at

prefix_again : (a b : ℕ) → b ≤ 9_999_999 → (a * 10_000_000 + b) / 10_000_000 ≡ a
prefix_again a b h = omega arith

serial_again : (a b : ℕ) → b ≤ 9_999_999 → (a * 10_000_000 + b) % 10_000_000 ≡ b
serial_again a b h = omega arith

high_again : (s b c : ℕ) → s ≡ b → b ≤ c → s + (c + 1 - b) - 1 ≡ c
high_again s b c e h = omega arith

pub again : (e : StockKey × Stock) → is_stock_row e ≡ true → entry_of (run_in e) ≡ e
again e h =
    let fit = row_fits e h in
    let are = low_fits e.0.0 e.0.1 e.1.high fit in
    let P = natural_is e.0.0 are.0 in
    let L = natural_is e.0.1 are.1 in
    let H = natural_is e.1.high are.2 in
    let here = bounds (natural e.0.0) (natural e.0.1) (natural e.1.high) (sym (λ i. fits (P i) (L i) (H i)) ∙ fit) in
    let low : natural e.0.1 ≤ 9_999_999 = omega (arith, here.0, here.1) in
    let prefix = ap pos (prefix_again (natural e.0.0) (natural e.0.1) low) ∙ sym P in
    let serial = ap pos (serial_again (natural e.0.0) (natural e.0.1) low) ∙ sym L in
    let high = ap pos (high_again _ (natural e.0.1) (natural e.1.high) (serial_again (natural e.0.0) (natural e.0.1) low) here.0) ∙ sym H in
    let stored = stored_again e.1 (named (holder_by e.1)) (has_holder e h) in
    λ i. ((prefix i, serial i), record { high = high i; holder = stored.0 i; agent = stored.1 i })

pub all_again : (es : List (StockKey × Stock)) → list_all is_stock_row es ≡ true → map entry_of (map run_in es) ≡ es
all_again [] all = refl
all_again (e ∷ es) all =
    let parts = and_parts (is_stock_row e) (list_all is_stock_row es) all in
    let here = again e parts.0 in
    let more = all_again es parts.1 in
    λ i. here i ∷ more i

-- ---- a run, as a row, is the run again

first_again : (n : ℕ) → n / 10_000_000 * 10_000_000 + n % 10_000_000 ≡ n
first_again n = omega arith

count_again : (s c : ℕ) → 1 ≤ c → s + c - 1 + 1 - s ≡ c
count_again s c h = omega arith

pub run_again : (r : StockRun) → IsRunRow r → IsWritable r → run_in (entry_of r) ≡ r
run_again r row writable =
    let first = first_again r.first in
    let count = count_again (serial_of r.first) r.count row.some in
    let holder = ap named writable.holder in
    λ i. record { first = first i; count = count i; holder = holder i }

in_range : (p s c : ℕ) → p ≤ 999 → s ≤ 9_999_999 → 1 ≤ c → s + c ≤ 10_000_000 → fits (pos p) (pos s) (pos (s + c - 1)) ≡ true
in_range p s c a b d e = grind (arith, ints)

prefix_within : (n : ℕ) → n < 10_000_000_000 → n / 10_000_000 ≤ 999
prefix_within n h = omega arith

serial_within : (n : ℕ) → n % 10_000_000 ≤ 9_999_999
serial_within n = omega arith

pub is_row : (r : StockRun) → IsRunRow r → IsWritable r → is_stock_row (entry_of r) ≡ true
is_row r row writable =
    and_from (fits (pos (prefix_of r.first)) (pos (serial_of r.first)) (pos (serial_of r.first + r.count - 1))) _
    (in_range (prefix_of r.first) (serial_of r.first) r.count (prefix_within r.first writable.number) (serial_within r.first) row.some row.one_prefix)
    (ap is_some writable.holder)

-- ---- runs in ascending order, as rows

numbers_apart : (x c y : ℕ) → 1 ≤ c → x % 10_000_000 + c ≤ 10_000_000 → x + c ≤ y
    → (x / 10_000_000 < y / 10_000_000) ⊎ ((x / 10_000_000 ≡ y / 10_000_000) × (x % 10_000_000 + c - 1 < y % 10_000_000))
numbers_apart x c y some within behind =
    elim (cases_lt (x / 10_000_000) (y / 10_000_000)) [
      | inl lt ↦ inl lt
      | inr le ↦ inr (omega (arith, le), omega (arith, le))
    ]

keys_apart : (p h q l : ℕ) → (p < q) ⊎ ((p ≡ q) × (h < l)) → (int_lt (pos p) (pos q) || (int_eq (pos p) (pos q) && int_lt (pos h) (pos l))) ≡ true
keys_apart p h q l (inl lt) = grind (arith, ints)
keys_apart p h q l (inr e) = grind (arith, ints)

is_next : (r n : StockRun) → IsRunRow r → end_of r ≤ n.first → is_behind (entry_of r) (entry_of n) ≡ true
is_next r n row le = keys_apart (prefix_of r.first) (serial_of r.first + r.count - 1) (prefix_of n.first) (serial_of n.first) (numbers_apart r.first r.count n.first row.some row.one_prefix le)

pub rows_apart : (low : ℕ) (rows : List StockRun) → StandFrom low rows → AllByRecursion IsRunRow rows → are_apart (map entry_of rows) ≡ true
rows_apart low [] stand each = refl
rows_apart low (r ∷ []) stand each = refl
rows_apart low (r ∷ n ∷ rows) stand each =
    and_from (is_behind (entry_of r) (entry_of n)) (are_apart (map entry_of (n ∷ rows))) (is_next r n each.0 stand.1.0) (rows_apart (end_of r) (n ∷ rows) stand.1 each.1)

-- ---- the keys rise

number_less : (a b : ℕ) → a < b → (a / 10_000_000 < b / 10_000_000) ⊎ ((a / 10_000_000 ≡ b / 10_000_000) × (a % 10_000_000 < b % 10_000_000))
number_less a b lt =
    elim (cases_lt (a / 10_000_000) (b / 10_000_000)) [
      | inl less ↦ inl less
      | inr le ↦ inr (omega (arith, le), omega (arith, le))
    ]

parts_less : (p q s t : ℕ) → (p < q) ⊎ ((p ≡ q) × (s < t)) → ordering_then (int_cmp (pos p) (pos q)) (int_cmp (pos s) (pos t)) ≡ Less
parts_less p q s t (inl lt) = grind (arith, ints)
parts_less p q s t (inr e) = grind (arith, ints)

pub key_less : (a b : ℕ) → a < b → stock_cmp (key_of a) (key_of b) ≡ Less
key_less a b lt = parts_less (prefix_of a) (prefix_of b) (serial_of a) (serial_of b) (number_less a b lt)

below_rows : (n low : ℕ) (rows : List StockRun) → n < low → StandFrom low rows → AllByRecursion IsRunRow rows → below_all stock_cmp (key_of n) (map entry_of rows) ≡ true
below_rows n low [] lt stand each = refl
below_rows n low (r ∷ rows) lt stand each =
    let up : n < r.first = omega (arith, lt, stand.0) in
    and_from (is_lt (stock_cmp (key_of n) (key_of r.first))) _ (ap is_lt (key_less n r.first up))
    (below_rows n (end_of r) rows (omega (arith, up)) stand.1 each.1)

pub sorted_rows : (low : ℕ) (rows : List StockRun) → StandFrom low rows → AllByRecursion IsRunRow rows → is_sorted stock_cmp (map entry_of rows) ≡ true
sorted_rows low [] stand each = refl
sorted_rows low (r ∷ rows) stand each =
    let some = each.0.some in
    and_from (below_all stock_cmp (key_of r.first) (map entry_of rows)) _
    (below_rows r.first (end_of r) rows (omega (arith, some)) stand.1 each.1)
    (sorted_rows (end_of r) rows stand.1 each.1)

pub rows_sorted : (low : ℕ) (rows : List StockRun) → StandFrom low rows → AllByRecursion IsRunRow rows → T (is_sorted stock_cmp (map entry_of rows))
rows_sorted low rows stand each = subst T (sym (sorted_rows low rows stand each)) tt
