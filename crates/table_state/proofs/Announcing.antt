-- The announced waybills, from some numbers that have them all.
use Rattle.std.proofs.Common.{◌≡◌, ℕ, ◌<◌, Bool, true, false, cond, ◌||◌, ◌&&◌, ◌==◌, Option, Some, None, option_map, is_some, List, [], ◌∷◌, ◌++◌, map, refl, sym, ap, ◌∙◌, arith}
use Rattle.std.specs.Prelude.{Err, IfOk, IfSome, Ok, OnOk, Result}
use Rattle.table_state.proofs.Common.{AllByRecursion, AnnouncedRow, AreAnnounced, Cargo, Declarations, Declared, Move, and_from, announced, announced_row, announcing, below_all, declaring, find, flat_map, has_come, insert_key, is_in, is_lt, is_sorted, nat_cmp, nat_tests, takes_back}
use Rattle.std.specs.List.Sorted.{IsStrictlySortedBy}
use Rattle.shipment_machine.specs.Cargo.{IsAscending as Rising}
use Rattle.table_state.proofs.Announced.{declared_at, pairs}
use Rattle.table_state.proofs.Asked.{come_before, is_in-insert_key}
use Rattle.table_state.proofs.Balances.{rising_by}

-- what is said of a kept value is said in other words
pub some_so : {X : Type 0} {P Q : X → Type 0} (o : Option X) → ((x : X) → P x → Q x) → IfSome o P → IfSome o Q
some_so None f h = tt
some_so (Some x) f h = f x h

-- ---- numbers that are kept

and_false : (a : Bool) → (a && false) ≡ false
and_false true = refl
and_false false = refl

-- each declared waybill of which nothing has come in is among these
abbrev Has : List Move → Declarations → List ℕ → Type 0
Has book declared xs = (w : ℕ) → has_come book w ≡ false → is_some (declared w) ≡ true → is_in w xs ≡ true

module _ (book : List Move) (declared : Declarations) where
  -- the waybill of a move is kept too
  pub announced_too : (m : Move) (before after : List ℕ) → after ≡ insert_key nat_cmp before m.awb → Has book declared before → Has (book ++ m ∷ []) declared after
  announced_too m before after is kept w none has =
      ap (is_in w) is ∙ is_in-insert_key w m.awb before
      ∙ elim (m.awb == w) as (λ b. (m.awb == w) ≡ b → (b || is_in w before) ≡ true) [
        | true ↦ λ _. refl
        | false ↦ λ e. kept w (come_before book m w (ap (λ b. b && takes_back m) e) none) has
      ] refl

  -- no further waybill is announced
  pub announced_still : (m : Move) (kept : List ℕ) → takes_back m ≡ false → Has book declared kept → Has (book ++ m ∷ []) declared kept
  announced_still m kept back all w none has = all w (come_before book m w (ap (λ b. (m.awb == w) && b) back ∙ and_false (m.awb == w)) none) has

  -- a declared waybill is kept too
  pub declared_too : (awb : ℕ) (new : Declared) (before after : List ℕ) → after ≡ insert_key nat_cmp before awb → Has book declared before → Has book (declaring awb new declared) after
  declared_too awb new before after is kept w none has = ap (is_in w) is ∙ is_in-insert_key w awb before ∙ go (w == awb) refl has
    where
      go : (b : Bool) → (w == awb) ≡ b → is_some (cond b (Some new) (declared w)) ≡ true → ((awb == w) || is_in w before) ≡ true
      go true e h = let yes : (awb == w) ≡ true = grind (arith, nat_tests) in ap (λ b. b || is_in w before) yes
      go false e h = let no : (awb == w) ≡ false = grind (arith, nat_tests) in ap (λ b. b || is_in w before) no ∙ kept w none h

-- ---- their rows

below_one : (n x : ℕ) (o : Option Declared) (more : List AnnouncedRow) → n < x → below_all nat_cmp n (pairs more) ≡ true → below_all nat_cmp n (pairs (announced_row x o ++ more)) ≡ true
below_one n x None more lt h = h
below_one n x (Some d) more lt h = let up : is_lt (nat_cmp n x) ≡ true = grind (arith, nat_tests) in and_from _ _ up h

sorted_one : (x : ℕ) (o : Option Declared) (more : List AnnouncedRow) → below_all nat_cmp x (pairs more) ≡ true → is_sorted nat_cmp (pairs more) ≡ true → is_sorted nat_cmp (pairs (announced_row x o ++ more)) ≡ true
sorted_one x None more below h = h
sorted_one x (Some d) more below h = and_from _ _ below h

past : (w x : ℕ) (o : Option Declared) (more : List AnnouncedRow) → (w == x) ≡ false → declared_at w (announced_row x o ++ more) ≡ declared_at w more
past w x None more other = refl
past w x (Some d) more other = ap (λ (t : Bool). option_map (λ (row : AnnouncedRow). row.declared) (cond t (Some (record { awb = x; declared = d })) (find (λ row. w == row.awb) more))) other

here : (w x : ℕ) (o : Option Declared) (more : List AnnouncedRow) → (w == x) ≡ true → (o ≡ None → declared_at w more ≡ None) → declared_at w (announced_row x o ++ more) ≡ o
here w x None more is rest = rest refl
here w x (Some d) more is rest = ap (λ (t : Bool). option_map (λ (row : AnnouncedRow). row.declared) (cond t (Some (record { awb = x; declared = d })) (find (λ row. w == row.awb) more))) is

nothing : (b : Bool) (o : Option Declared) → o ≡ None → cond b o None ≡ None
nothing true o e = e
nothing false o e = refl

absent : (b c : Bool) (o : Option Declared) → (b ≡ false → is_some o ≡ true → c ≡ true) → cond b None o ≡ cond c (cond b None o) None
absent b true o h = refl
absent true false o h = refl
absent false false None h = refl
absent false false (Some d) h = absurd (let no : false ≡ true = h refl refl in cc)

module _ (s : Cargo) where
  abbrev rows_of : List ℕ → List AnnouncedRow
  rows_of xs = flat_map (announcing s) xs

  below_rows : (n : ℕ) (xs : List ℕ) → AllByRecursion (λ y. n < y) xs → below_all nat_cmp n (pairs (rows_of xs)) ≡ true
  below_rows n [] h = refl
  below_rows n (x ∷ xs) h = below_one n x (announced s x) (rows_of xs) h.0 (below_rows n xs h.1)

  sorted_rows : (xs : List ℕ) → Rising xs → is_sorted nat_cmp (pairs (rows_of xs)) ≡ true
  sorted_rows [] up = refl
  sorted_rows (x ∷ xs) up = sorted_one x (announced s x) (rows_of xs) (below_rows x xs up.0) (sorted_rows xs up.1)

  found : (w : ℕ) (xs : List ℕ) → declared_at w (rows_of xs) ≡ cond (is_in w xs) (announced s w) None
  found w [] = refl
  found w (x ∷ xs) = go (w == x) refl (found w xs)
    where
      go : (b : Bool) → (w == x) ≡ b → declared_at w (rows_of xs) ≡ cond (is_in w xs) (announced s w) None → declared_at w (announcing s x ++ rows_of xs) ≡ cond ((x == w) || is_in w xs) (announced s w) None
      go true is more =
          let yes : (x == w) ≡ true = grind (arith, nat_tests) in
          let same : x ≡ w = grind (arith, nat_tests) in
          here w x (announced s x) (rows_of xs) is (λ none. more ∙ nothing (is_in w xs) (announced s w) (ap (announced s) (sym same) ∙ none)) ∙ ap (announced s) same ∙ ap (λ b. cond (b || is_in w xs) (announced s w) None) (sym yes)
      go false is more =
          let no : (x == w) ≡ false = grind (arith, nat_tests) in
          past w x (announced s x) (rows_of xs) is ∙ more ∙ ap (λ b. cond (b || is_in w xs) (announced s w) None) (sym no)

  -- from some ascending numbers that have all announced ones
  pub from_announced : (xs : List ℕ) → IsStrictlySortedBy nat_cmp xs → ((w : ℕ) → has_come s.book w ≡ false → is_some (s.declared w) ≡ true → is_in w xs ≡ true) → AreAnnounced s (rows_of xs)
  from_announced xs sorted all = record {
    rising = sorted_rows xs (rising_by xs sorted);
    same = λ w. absent (has_come s.book w) (is_in w xs) (s.declared w) (all w) ∙ sym (found w xs);
  }

-- the numbers of the listed ones

in_row : (w : ℕ) (row : AnnouncedRow) (rows : List AnnouncedRow) → (is_some (declared_at w rows) ≡ true → is_in w (map (λ r. r.awb) rows) ≡ true) → (b : Bool) → (w == row.awb) ≡ b
    → is_some (option_map (λ (r : AnnouncedRow). r.declared) (cond b (Some row) (find (λ r. w == r.awb) rows))) ≡ true → ((row.awb == w) || is_in w (map (λ r. r.awb) rows)) ≡ true
in_row w row rows more true is has = let yes : (row.awb == w) ≡ true = grind (arith, nat_tests) in ap (λ b. b || is_in w (map (λ (r : AnnouncedRow). r.awb) rows)) yes
in_row w row rows more false is has = let no : (row.awb == w) ≡ false = grind (arith, nat_tests) in ap (λ b. b || is_in w (map (λ (r : AnnouncedRow). r.awb) rows)) no ∙ more has

in_rows : (w : ℕ) (rows : List AnnouncedRow) → is_some (declared_at w rows) ≡ true → is_in w (map (λ row. row.awb) rows) ≡ true
in_rows w [] h = absurd (let no : false ≡ true = h in cc)
in_rows w (row ∷ rows) h = in_row w row rows (in_rows w rows) (w == row.awb) refl h

pub all_announced : (s : Cargo) (rows : List AnnouncedRow) → AreAnnounced s rows → (w : ℕ) → has_come s.book w ≡ false → is_some (s.declared w) ≡ true → is_in w (map (λ row. row.awb) rows) ≡ true
all_announced s rows are w none has = in_rows w rows (ap is_some (sym (are.same w)) ∙ ap (λ b. is_some (cond b None (s.declared w))) none ∙ has)

-- a row that is put behind the others

pub put_behind : (s : Cargo) (number w : ℕ) (o : Option Declared) (rows after : List AnnouncedRow) → w ≡ number → o ≡ announced s w → after ≡ rows ++ announced_row w o → after ≡ rows ++ announcing s number
put_behind s number w o rows after is read put = put ∙ ap (λ found. rows ++ announced_row w found) read ∙ ap (λ n. rows ++ announcing s n) is

-- what follows from an answer is said of its result
pub made_so : {X E A B : Type 0} (r : Result X E) → (A → B) → OnOk r A → IfOk r (λ _. B)
made_so (Ok x) so a = so a
made_so (Err e) so a = tt
