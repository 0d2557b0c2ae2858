-- What a pass over movements leaves: the sums of each waybill, in the keys' order.
use Rattle.reports.proofs.Common.{AllByRecursion, BTreeMap, BookRow, Bool, Built, Count, FlightDate, HandedOut, IsOrdered, List, ManifestRow, Move, None, Option, Rising-waybills_of, Some, TakesMove, Tallies, [], amount, ap, append-nil, arith, brings, cond, counted, eq_by_cmp, eqb-true, false, flat_map, get, has_moves, has_pieces, if◌then◌else◌, is_eq, is_in-waybills_of, is_some, keys, leaves, listed, manifest_of, manifest_row, map, nat_cmp, nat_cmp_total, nothing_of, ranked, refl, row_of, same_place, same_rising, subst, sum_by, sum_by-cons, sym, takes, takes_away, tally_in, tenths_of, true, true≢false, unsigned_tied, unwrap_or, waybills_of, with_move, ℕ, ◌&&◌, ◌++◌, ◌+◌, ◌-◌, ◌<◌, ◌==◌, ◌||◌, ◌∙◌, ◌∷◌, ◌≡◌}
use Rattle.std.specs.List.Sorted.{IsStrictlySortedBy}
use Rattle.std.specs.Map.{keys_of, lookup}
use Rattle.std.specs.declared.cmp.Ordering.TheVariants.{Less}
use Rattle.std.proofs.lemmas.List.Elements.{recursion_from_All}
use Rattle.std.proofs.lemmas.Map.Views.{All-found}
use Rattle.shipment_machine.specs.Book.{pieces_of}
use Rattle.shipment_machine.specs.Cargo.{IsAscending, is_in}
use Rattle.reports.specs.declared.tallies.FlightSums.{FlightSums}

-- rows that were put, where none is ahead
pub all_put : {X Row : Type 0} (f : X → List Row) (rows : List Row) (ahead all : List X) → rows ++ flat_map f ahead ≡ flat_map f all → ahead ≡ [] → rows ≡ flat_map f all
all_put f rows ahead all whole none = sym (append-nil rows) ∙ ap (λ l. rows ++ flat_map f l) (sym none) ∙ whole

-- the sums of a waybill after more movements
abbrev pub after : FlightDate → ℕ → List Move → Option FlightSums → Option FlightSums
after f w [] t = t
after f w (m ∷ ms) t = after f w ms (if m.awb == w then Some (with_move f m (unwrap_or t (nothing_of w))) else t)

abbrev pub moves_of : List BookRow → List Move
moves_of rows = map (λ row. row.movement) rows

-- under the waybill of a movement there is something new, and elsewhere what was there
under : (a w : ℕ) (g : ℕ → Option FlightSums) (other : Option FlightSums) → cond (eq_by_cmp nat_cmp a w) (g a) other ≡ (if a == w then g w else other)
under a w g other =
    ap (λ b. cond b (g a) other) (unsigned_tied a w)
    ∙ elim (a == w) as (λ b. (a == w) ≡ b → cond b (g a) other ≡ (if b then g w else other)) [
      | true ↦ λ e. ap g (eqb-true a w e)
      | false ↦ λ e. refl
    ] refl

-- where there was room for all, each waybill's sums are those after the movements
pub passed : (rows : List BookRow) (f : FlightDate) (old new : Tallies) → old.flight ≡ f → HandedOut (λ from row go to. TakesMove from row.movement go to) rows old new → new.is_full ≡ false
    → (w : ℕ) → get nat_cmp new.by_number w ≡ after f w (moves_of rows) (get nat_cmp old.by_number w)
passed [] f old new of h room w = ap (λ (t : Tallies). get nat_cmp t.by_number w) h
passed (row ∷ rows) f old new of (true, mid, took, more) room w =
    let m : Move = row.movement in
    let had : Option FlightSums = get nat_cmp old.by_number w in
    let put : ℕ → Option FlightSums = λ a. Some (with_move f m (unwrap_or (get nat_cmp old.by_number a) (nothing_of a))) in
    let at_flight : get nat_cmp mid.by_number w ≡ cond (eq_by_cmp nat_cmp m.awb w) (put m.awb) had =
    subst (λ g. get nat_cmp mid.by_number w ≡ cond (eq_by_cmp nat_cmp m.awb w) (Some (with_move g m (tally_in old m.awb))) had) of (took.2 w) in
    passed rows f mid new (took.0 ∙ of) more room w ∙ ap (after f w (moves_of rows)) (at_flight ∙ under m.awb w put had)
passed (row ∷ rows) f old new of (false, mid, took, more) room w = absurd (true≢false (sym took ∙ sym (ap (λ (t : Tallies). t.is_full) more) ∙ room))

-- a sum of the waybill's movements
module _ (f : FlightDate) (w : ℕ) (project : FlightSums → ℕ) (adds : Move → ℕ)
    (one_more : (m : Move) (t : FlightSums) → (m.awb == w) ≡ true → project (with_move f m t) ≡ project t + adds m)
    (no_more : (m : Move) → (m.awb == w) ≡ false → adds m ≡ 0) where
  abbrev sum_in : Option FlightSums → ℕ
  sum_in t = project (unwrap_or t (nothing_of w))

  with_one : (m : Move) (t : Option FlightSums) → sum_in (if m.awb == w then Some (with_move f m (unwrap_or t (nothing_of w))) else t) ≡ sum_in t + adds m
  with_one m t = elim (m.awb == w) as (λ b. (m.awb == w) ≡ b → sum_in (if b then Some (with_move f m (unwrap_or t (nothing_of w))) else t) ≡ sum_in t + adds m) [
    | true ↦ λ e. one_more m (unwrap_or t (nothing_of w)) e
    | false ↦ λ e. let none = no_more m e in omega (arith, none)
  ] refl

  pub sum_after : (ms : List Move) (t : Option FlightSums) → sum_in (after f w ms t) ≡ sum_in t + sum_by adds ms
  sum_after [] t = omega arith
  sum_after (m ∷ ms) t =
      let more = sum_after ms (if m.awb == w then Some (with_move f m (unwrap_or t (nothing_of w))) else t) in
      let one = with_one m t in
      let all = sum_by-cons adds m ms in
      omega (arith, more, one, all)

-- what a movement adds to a count
added : (b c : Bool) (m : Move) (k : Count) (measure : Move → ℕ) (project : Count → ℕ) → b ≡ true → ((h : Count) → project (counted true m h) ≡ project h + measure m)
    → project (counted c m k) ≡ project k + (if b && c then measure m else 0)
added true true m k measure project e one = one k
added true false m k measure project e one = omega arith
added false c m k measure project e one = absurd (true≢false (sym e))

not_added : (b c : Bool) (n : ℕ) → b ≡ false → (if b && c then n else 0) ≡ 0
not_added true c n e = absurd (true≢false e)
not_added false c n e = refl

module _ (f : FlightDate) (w : ℕ) where
  abbrev tally_of : List Move → FlightSums
  tally_of ms = unwrap_or (after f w ms None) (nothing_of w)

  module _ (measure : Move → ℕ) (project : Count → ℕ) (none : project (record { pieces = 0; tenths = 0 }) ≡ 0)
      (one : (m : Move) (h : Count) → project (counted true m h) ≡ project h + measure m) (ms : List Move) where
    brought_sum : project (tally_of ms).brought ≡ sum_by (brings measure w (same_place (Built f))) ms
    brought_sum =
        let all = sum_after f w (λ t. project t.brought) (brings measure w (same_place (Built f)))
        (λ m t e. added (m.awb == w) (same_place (Built f) m.to) m t.brought measure project e (one m))
        (λ m e. not_added (m.awb == w) (same_place (Built f) m.to) (measure m) e) ms None in
        omega (arith, all, none)

    removed_sum : project (tally_of ms).removed ≡ sum_by (takes measure w (same_place (Built f))) ms
    removed_sum =
        let all = sum_after f w (λ t. project t.removed) (takes measure w (same_place (Built f)))
        (λ m t e. added (m.awb == w) (same_place (Built f) m.from) m t.removed measure project e (one m))
        (λ m e. not_added (m.awb == w) (same_place (Built f) m.from) (measure m) e) ms None in
        omega (arith, all, none)

    departed_sum : project (tally_of ms).departed ≡ sum_by (takes_away measure w f) ms
    departed_sum =
        let all = sum_after f w (λ t. project t.departed) (takes_away measure w f)
        (λ m t e. added (m.awb == w) (leaves f m) m t.departed measure project e (one m))
        (λ m e. not_added (m.awb == w) (leaves f m) (measure m) e) ms None in
        omega (arith, all, none)

  same_number : (ms : List Move) (t : Option FlightSums) → (unwrap_or t (nothing_of w)).awb ≡ w → (unwrap_or (after f w ms t) (nothing_of w)).awb ≡ w
  same_number [] t e = e
  same_number (m ∷ ms) t e = same_number ms _ (elim (m.awb == w) as (λ b. (unwrap_or (if b then Some (with_move f m (unwrap_or t (nothing_of w))) else t) (nothing_of w)).awb ≡ w) [ true ↦ e | false ↦ e ])

  -- the sums make the waybill's row
  row_is : (ms : List Move) → row_of (tally_of ms) ≡ manifest_row ms f w
  row_is ms =
      let number = same_number ms None refl in
      let in_pieces = brought_sum pieces_of (λ c. c.pieces) refl (λ m h. refl) ms in
      let in_tenths = brought_sum tenths_of (λ c. c.tenths) refl (λ m h. refl) ms in
      let out_pieces = removed_sum pieces_of (λ c. c.pieces) refl (λ m h. refl) ms in
      let out_tenths = removed_sum tenths_of (λ c. c.tenths) refl (λ m h. refl) ms in
      let away_pieces = departed_sum pieces_of (λ c. c.pieces) refl (λ m h. refl) ms in
      let away_tenths = departed_sum tenths_of (λ c. c.tenths) refl (λ m h. refl) ms in
      λ i. record { awb = number i; built = amount (in_pieces i - out_pieces i) (in_tenths i - out_tenths i); departed = amount (away_pieces i) (away_tenths i) }

  -- a waybill has sums as soon as it has a movement
  has_sums : (ms : List Move) (t : Option FlightSums) → is_some (after f w ms t) ≡ (is_some t || has_moves ms w)
  has_sums [] t = sym (or_false (is_some t))
    where
      or_false : (b : Bool) → (b || false) ≡ b
      or_false true = refl
      or_false false = refl
  has_sums (m ∷ ms) t =
      has_sums ms _
      ∙ elim (m.awb == w) as (λ b. (is_some (if b then Some (with_move f m (unwrap_or t (nothing_of w))) else t) || has_moves ms w) ≡ (is_some t || (b || has_moves ms w))) [
        | true ↦ sym (or_true (is_some t))
        | false ↦ refl
      ]
    where
      or_true : (b : Bool) → (b || true) ≡ true
      or_true true = refl
      or_true false = refl

-- ascending keys
is_less : (x y : ℕ) → nat_cmp x y ≡ Less → x < y
is_less x y e = ranked x y Less (sym e)

above : (x : ℕ) (ys : List ℕ) → AllByRecursion (λ y. nat_cmp x y ≡ Less) ys → AllByRecursion (λ y. x < y) ys
above x [] h = tt
above x (y ∷ ys) h = (is_less x y h.0, above x ys h.1)

ascending : (xs : List ℕ) → IsStrictlySortedBy nat_cmp xs → IsAscending xs
unfolding IsStrictlySortedBy
ascending [] h = tt
ascending (x ∷ xs) h = (above x xs h.0, ascending xs h.1)

turned : (a b : ℕ) → (a == b) ≡ (b == a)
turned a b = elim (a == b) as (λ t. (a == b) ≡ t → t ≡ (b == a)) [
  | true ↦ λ e. sym (ap (λ n. n == a) (sym (eqb-true a b e)) ∙ ap (λ n. a == n) (eqb-true a b e) ∙ e)
  | false ↦ λ e. elim (b == a) as (λ t. (b == a) ≡ t → false ≡ t) [
    | true ↦ λ d. sym e ∙ ap (λ n. a == n) (eqb-true b a d) ∙ ap (λ n. n == a) (sym (eqb-true b a d)) ∙ d
    | false ↦ λ d. refl
  ] refl
] refl

-- a key is among the keys where the look-up finds something
listed_keys : (q : ℕ) (es : List (ℕ × FlightSums)) → is_in q (keys_of es) ≡ is_some (lookup (λ k. is_eq (nat_cmp q k)) es)
listed_keys q [] = refl
listed_keys q (e ∷ es) =
    ap (λ b. (e.0 == q) || b) (listed_keys q es)
    ∙ ap (λ b. b || is_some (lookup (λ k. is_eq (nat_cmp q k)) es)) (turned e.0 q ∙ sym (unsigned_tied q e.0))
    ∙ elim (is_eq (nat_cmp q e.0)) as (λ b. (b || is_some (lookup (λ k. is_eq (nat_cmp q k)) es)) ≡ is_some (cond b (Some e.1) (lookup (λ k. is_eq (nat_cmp q k)) es))) [ true ↦ refl | false ↦ refl ]

module _ (f : FlightDate) (ms : List Move) where
  abbrev row_at : ℕ → List ManifestRow
  row_at w = if has_pieces (manifest_row ms f w) then manifest_row ms f w ∷ [] else []

  -- the value that is found under a key makes the key's row
  found_row : (w : ℕ) (t : FlightSums) → after f w ms None ≡ Some t → listed t ≡ row_at w
  found_row w t is =
      let row : row_of t ≡ manifest_row ms f w = ap (λ o. row_of (unwrap_or o (nothing_of w))) (sym is) ∙ row_is f w ms in
      ap (λ r. if has_pieces r then r ∷ [] else []) row

  rows_at : (m : ℕ → Option FlightSums) → ((w : ℕ) → m w ≡ after f w ms None) → (es : List (ℕ × FlightSums)) → AllByRecursion (λ e. m e.0 ≡ Some e.1) es
      → flat_map (λ e. listed e.1) es ≡ flat_map row_at (keys_of es)
  rows_at m is [] all = refl
  rows_at m is (e ∷ es) all = λ i. found_row e.0 e.1 (sym (is e.0) ∙ all.0) i ++ rows_at m is es all.1 i

  -- the rows of the map are those of the movements
  pub rows_of : (tree : BTreeMap ℕ FlightSums) → IsOrdered nat_cmp tree → ((w : ℕ) → get nat_cmp tree w ≡ after f w ms None) → flat_map (λ e. listed e.1) tree.entries ≡ manifest_of ms f
  rows_of tree ordered is =
      let found = recursion_from_All (λ e. get nat_cmp tree e.0 ≡ Some e.1) tree.entries (All-found nat_cmp_total tree ordered) in
      let numbers : keys tree ≡ waybills_of ms = same_rising (keys tree) (waybills_of ms) (ascending (keys tree) ordered) (Rising-waybills_of ms)
      (λ r. listed_keys r tree.entries ∙ ap is_some (is r) ∙ has_sums f r ms None ∙ sym (is_in-waybills_of r ms)) in
      rows_at (get nat_cmp tree) is tree.entries found ∙ ap (flat_map row_at) numbers
