-- The rows that announce waybills are of the declared ones of which nothing has come in.
use Rattle.std.proofs.Common.{◌≡◌, ℕ, ℤ, pos, int_eq, ◌<ℤ◌, Bool, true, false, cond, not, ◌&&◌, ◌||◌, ◌==◌, Option, Some, None, option_map, List, [], ◌∷◌, map, refl, sym, ap, ap₂, subst, ◌∙◌, arith}
use Rattle.table_state.proofs.Common.{AllByRecursion, AnnouncedRow, AreAllBalances, AreAnnounced, BTreeSet, Declared, HaveCome, IsKeyedBy, Means, Move, State, Tables, Waybill, WaybillBalances, and_from, and_parts, announced_by, balances_of, below_all, contains, day_again, declared_by, declared_told, filter, find, get_by, has_come, has_come_by, ints, is_in, is_lt, is_sorted, is_waybill_row, list_any, nat_cmp, nat_tests, natural, waybill_id}
use Rattle.row_codec.proofs.MapLaws.{each_passes}
use Rattle.table_state.proofs.Balances.{known_from, not_found, numbers}

-- ---- the numbers of the waybills of which pieces have come in

-- the row is a waybill's, and pieces of it have come in
abbrev pub comes : ℕ → WaybillBalances → Bool
comes w row = (w == row.awb) && has_come_by row.balances

its_own : (a h l i b : Bool) → a ≡ true → h ≡ b → l ≡ (i && b) → ((true && h) || l) ≡ ((a || i) && b)
its_own a h l i b there same rest = rw (there, same, rest) (absorbed b i)
  where
    absorbed : (b i : Bool) → (b || (i && b)) ≡ b
    absorbed true i = refl
    absorbed false true = refl
    absorbed false false = refl

another : (a l i b : Bool) → a ≡ false → l ≡ (i && b) → l ≡ ((a || i) && b)
another a l i b off rest = rest ∙ ap (λ c. (c || i) && b) (sym off)

module _ (book : List Move) (w : ℕ) where
  any_known : (rows : List WaybillBalances) → AllByRecursion (λ row. row.balances ≡ balances_of book row.awb) rows → list_any (comes w) rows ≡ (is_in w (numbers rows) && has_come book w)
  any_known [] known = refl
  any_known (row ∷ rows) known = go (w == row.awb) refl (any_known rows known.1)
    where
      go : (t : Bool) → (w == row.awb) ≡ t → list_any (comes w) rows ≡ (is_in w (numbers rows) && has_come book w)
          → ((t && has_come_by row.balances) || list_any (comes w) rows) ≡ (((row.awb == w) || is_in w (numbers rows)) && has_come book w)
      go true is more =
          let same : row.awb ≡ w = grind (arith, nat_tests) in
          let there : (row.awb == w) ≡ true = grind (arith, nat_tests) in
          its_own (row.awb == w) (has_come_by row.balances) (list_any (comes w) rows) (is_in w (numbers rows)) (has_come book w) there (ap has_come_by known.0 ∙ ap (has_come book) same) more
      go false is more =
          let off : (row.awb == w) ≡ false = grind (arith, nat_tests) in
          another (row.awb == w) (list_any (comes w) rows) (is_in w (numbers rows)) (has_come book w) off more

  -- by all balances
  pub come_by_all : (rows : List WaybillBalances) → AreAllBalances book rows → list_any (comes w) rows ≡ has_come book w
  come_by_all rows all = any_known rows (known_from (balances_of book) rows all.rising (λ v _. all.same v)) ∙ go (is_in w (numbers rows)) refl
    where
      go : (b : Bool) → is_in w (numbers rows) ≡ b → (b && has_come book w) ≡ has_come book w
      go true is = refl
      go false is = sym (ap has_come_by (all.same w ∙ not_found w rows is))

-- ---- the rows of the others

number : (x : Waybill) → is_waybill_row x ≡ true → x.awb ≡ pos (natural x.awb)
number x fits =
    let three = and_parts _ _ (and_parts _ _ (and_parts _ _ (and_parts _ _ (and_parts _ _ fits).0).0).0).0 in
    day_again _ _ x.awb (and_parts _ _ (and_parts _ _ three.0).0).0

equal_numbers : (n w : ℕ) → int_eq (pos n) (pos w) ≡ (w == n)
equal_numbers n w = grind (arith, ints, nat_tests)

is_below : (n m : ℕ) (z : ℤ) → z ≡ pos m → pos n <ℤ z → is_lt (nat_cmp n m) ≡ true
is_below n m z is up = grind (arith, ints, nat_tests)

abbrev are_rows : List Waybill → Type 0
are_rows xs = AllByRecursion (λ x. is_waybill_row x ≡ true) xs

abbrev pub pairs : List AnnouncedRow → List (ℕ × Declared)
pairs rows = map (λ row. (row.awb, row.declared)) rows

abbrev pub declared_at : ℕ → List AnnouncedRow → Option Declared
declared_at w rows = option_map (λ row. row.declared) (find (λ row. w == row.awb) rows)

module _ (come : ℕ → Bool) where
  abbrev others : List Waybill → List AnnouncedRow
  others xs = filter (λ one. not (come one.awb)) (map announced_by xs)

  above : (n : ℕ) (xs : List Waybill) → AllByRecursion (λ x. pos n <ℤ x.awb) xs → are_rows xs → below_all nat_cmp n (pairs (others xs)) ≡ true
  above n [] up fits = refl
  above n (x ∷ xs) up fits = elim (come (natural x.awb)) as (λ b. below_all nat_cmp n (pairs (cond (not b) (announced_by x ∷ others xs) (others xs))) ≡ true) [
    | true ↦ above n xs up.1 fits.1
    | false ↦ and_from _ _ (is_below n (natural x.awb) x.awb (number x fits.0) up.0) (above n xs up.1 fits.1)
  ]

  rising : (xs : List Waybill) → IsKeyedBy waybill_id xs → are_rows xs → is_sorted nat_cmp (pairs (others xs)) ≡ true
  rising [] up fits = refl
  rising (x ∷ xs) up fits = elim (come (natural x.awb)) as (λ b. is_sorted nat_cmp (pairs (cond (not b) (announced_by x ∷ others xs) (others xs))) ≡ true) [
    | true ↦ rising xs up.1 fits.1
    | false ↦ and_from _ _ (above (natural x.awb) xs (subst (λ z. AllByRecursion (λ (y : Waybill). z <ℤ y.awb) xs) (number x fits.0) up.0) fits.1) (rising xs up.1 fits.1)
  ]

  module _ (w : ℕ) where
    no_row : (b : Bool) → cond b None (option_map declared_by None) ≡ declared_at w []
    no_row true = refl
    no_row false = refl

    past : (x : Waybill) (xs : List Waybill) (b : Bool) → (w == natural x.awb) ≡ false → declared_at w (cond (not b) (announced_by x ∷ others xs) (others xs)) ≡ declared_at w (others xs)
    past x xs true other = refl
    past x xs false other = ap (λ (t : Bool). option_map (λ (row : AnnouncedRow). row.declared) (cond t (Some (announced_by x)) (find (λ row. w == row.awb) (others xs)))) other

    here : (x : Waybill) (xs : List Waybill) (b : Bool) → (w == natural x.awb) ≡ true → cond b None (option_map declared_by (get_by waybill_id xs (pos w))) ≡ declared_at w (others xs)
        → cond b None (Some (declared_by x)) ≡ declared_at w (cond (not b) (announced_by x ∷ others xs) (others xs))
    here x xs true is more = more
    here x xs false is more = sym (ap (λ (t : Bool). option_map (λ (row : AnnouncedRow). row.declared) (cond t (Some (announced_by x)) (find (λ row. w == row.awb) (others xs)))) is)

    listed : (xs : List Waybill) → are_rows xs → cond (come w) None (option_map declared_by (get_by waybill_id xs (pos w))) ≡ declared_at w (others xs)
    listed [] fits = no_row (come w)
    listed (x ∷ xs) fits =
        ap (λ (t : Bool). cond (come w) None (option_map declared_by (cond t (Some x) (get_by waybill_id xs (pos w))))) (ap (λ z. int_eq z (pos w)) (number x fits.0) ∙ equal_numbers (natural x.awb) w)
        ∙ go (w == natural x.awb) refl (listed xs fits.1)
      where
        go : (t : Bool) → (w == natural x.awb) ≡ t → cond (come w) None (option_map declared_by (get_by waybill_id xs (pos w))) ≡ declared_at w (others xs)
            → cond (come w) None (option_map declared_by (cond t (Some x) (get_by waybill_id xs (pos w)))) ≡ declared_at w (others (x ∷ xs))
        go true is more =
            let same : w ≡ natural x.awb = grind (arith, nat_tests) in
            here x xs (come w) is more ∙ ap (λ n. declared_at w (cond (not (come n)) (announced_by x ∷ others xs) (others xs))) same
        go false is more = more ∙ sym (past x xs (come (natural x.awb)) is)

-- ---- of tables that mean a state

module _ (t : Tables) (s : State) (means : Means t (Some s)) where
  pub announced_told : (come : BTreeSet ℕ) (rows : List AnnouncedRow) → HaveCome come s.cargo.book → IsKeyedBy waybill_id t.waybills
      → rows ≡ filter (λ one. not (contains nat_cmp come one.awb)) (map announced_by t.waybills) → AreAnnounced s.cargo rows
  announced_told come rows have up is =
      let fits = each_passes is_waybill_row t.waybills means.0.waybills in
      subst (AreAnnounced s.cargo) (sym is) (record {
        rising = rising (contains nat_cmp come) t.waybills up fits;
        same = λ w. ap₂ (λ (b : Bool) (d : Option Declared). cond b None d) (sym (have w)) (sym (declared_told t s means w)) ∙ listed (contains nat_cmp come) w t.waybills fits;
      })
