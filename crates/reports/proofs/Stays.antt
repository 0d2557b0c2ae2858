-- The day since which it has lasted for a waybill, by a pass over its movements.
use Rattle.reports.proofs.Common.{ActFault, AllZip, AreDated, BookRow, Bool, Cargo, Count, Err, HandedOut, IsDay, IsOk, IsSince, Keeping, List, Move, None, Of, Ok, OnOk, OnlyReads, Option, Result, Some, Surplus, [], ap, append-nil, append_assoc, arith, book_row, brings, cases_lt, counted, false, false≢true, filter, get_or, if◌then◌else◌, lasts, le-ltb, length, length-append, lt-ltb, moved_in, moved_out, movements_for, nat_lt, numbered, option_map, own_moves, refl, same_place, slice_get, subst, suc, sum_by, sum_by_push, sym, take, take_all, take_more, takes, true, true≢false, zero, ℕ, ⊎_elim, ◌&&◌, ◌++◌, ◌+◌, ◌-◌, ◌<◌, ◌==◌, ◌||◌, ◌∙◌, ◌∷◌, ◌≡◌, ◌≤◌}
use Rattle.shipment_machine.specs.Book.{pieces_of}
use Rattle.reports.specs.Passes.{TakesNext, TakesRow, is_there, lasts_by, moved_spell, next_spell, since_after, start_of}
use Rattle.reports.specs.declared.days.Dated.{Dated}
use Rattle.reports.specs.declared.days.Gathering.{Gathering}
use Rattle.reports.specs.declared.days.Lasting.{Lasting}
use Rattle.reports.specs.declared.days.Lasting.TheVariants as lasting
use Rattle.reports.specs.declared.days.Spell.{Spell}
use Rattle.reports.proofs.Passing.{moves_of}

take_front : {X : Type 0} (n : ℕ) (xs ys : List X) → n ≤ length xs → take n (xs ++ ys) ≡ take n xs
take_front zero xs ys le = refl
take_front (suc n) [] ys le = let no : ⊥ = omega (arith, le) in absurd no
take_front (suc n) (x ∷ xs) ys le = ap (λ l. x ∷ l) (take_front n xs ys (omega (arith, le)))

get_front : {X : Type 0} (n : ℕ) (xs ys : List X) → n < length xs → slice_get (xs ++ ys) n ≡ slice_get xs n
get_front n [] ys lt = let no : ⊥ = omega (arith, lt) in absurd no
get_front zero (x ∷ xs) ys lt = refl
get_front (suc n) (x ∷ xs) ys lt = get_front n xs ys (omega (arith, lt))

get_behind : {X : Type 0} (xs : List X) (y : X) → slice_get (xs ++ y ∷ []) (length xs) ≡ Some y
get_behind [] y = refl
get_behind (x ∷ xs) y = get_behind xs y

get_end : {X : Type 0} (xs : List X) → slice_get xs (length xs) ≡ None
get_end [] = refl
get_end (x ∷ xs) = get_end xs

get_some : {X : Type 0} (n : ℕ) (xs : List X) → n < length xs → (x : X) × (slice_get xs n ≡ Some x)
get_some n [] lt = let no : ⊥ = omega (arith, lt) in absurd no
get_some zero (x ∷ xs) lt = (x, refl)
get_some (suc n) (x ∷ xs) lt = get_some n xs (omega (arith, lt))

-- the day after another movement
module _ (holds : List Move → Bool) (ms : List Move) (m : Move) where
  abbrev all : List Move
  all = ms ++ m ∷ []

  one_more : length all ≡ length ms + 1
  one_more = length-append ms (m ∷ [])

  ended : holds all ≡ false → IsDay holds all None
  ended none = (
    length all,
    record {
      within = omega arith;
      before = ap holds (take_all (length all) all (omega arith)) ∙ none;
      later = λ k lt le. let no : ⊥ = omega (arith, lt, le) in absurd no;
    },
    sym (ap (option_map (λ (m : Move). m.at.day)) (get_end all)),
  )

  still_since : (n : ℕ) → IsSince holds ms n → holds all ≡ true → IsSince holds all n
  still_since n is some = record {
    within = let le = is.within in omega (arith, le, one_more);
    before = ap holds (take_front n ms (m ∷ []) is.within) ∙ is.before;
    later = λ k lt le. ⊎_elim (λ (gt : length ms < k). let whole : k ≡ length all = omega (arith, gt, le, one_more) in ap (λ j. holds (take j all)) whole ∙ ap holds (take_all (length all) all (omega arith)) ∙ some)
        (λ (low : k ≤ length ms). ap holds (take_front k ms (m ∷ []) low) ∙ is.later k lt low) (cases_lt (length ms) k);
  }

  goes_on : (since : Option ℕ) → IsDay holds ms since → holds all ≡ true → IsDay holds all (since_after true since m.at.day)
  goes_on since (n, is, day) some = (
    n,
    still_since n is some,
    ⊎_elim (λ (lt : n < length ms).
        let (x, at) = get_some n ms lt in
        let before : since ≡ Some x.at.day = day ∙ ap (option_map (λ (m : Move). m.at.day)) at in
        ap (λ o. since_after true o m.at.day) before ∙ sym (ap (option_map (λ (m : Move). m.at.day)) (get_front n ms (m ∷ []) lt ∙ at)))
        (λ (ge : length ms ≤ n).
        let le = is.within in
        let end : n ≡ length ms = omega (arith, ge, le) in
        let before : since ≡ None = day ∙ ap (option_map (λ (m : Move). m.at.day)) (ap (slice_get ms) end ∙ get_end ms) in
        ap (λ o. since_after true o m.at.day) before ∙ sym (ap (option_map (λ (m : Move). m.at.day)) (ap (slice_get all) end ∙ get_behind ms m)))
        (cases_lt n (length ms)),
  )

  pub day_after : (since : Option ℕ) → IsDay holds ms since → IsDay holds all (since_after (holds all) since m.at.day)
  day_after since day = elim (holds all) as (λ b. holds all ≡ b → IsDay holds all (since_after b since m.at.day)) [
    | true ↦ λ some. goes_on since day some
    | false ↦ λ none. ended none
  ] refl

lt_less : (a b : ℕ) → nat_lt 0 (a - b) ≡ nat_lt b a
lt_less a b =
    ⊎_elim (λ (lt : b < a). lt-ltb 0 (a - b) (omega (arith, lt)) ∙ sym (lt-ltb b a lt))
    (λ (le : a ≤ b). le-ltb 0 (a - b) (omega (arith, le)) ∙ sym (le-ltb b a le)) (cases_lt b a)

counted_more : (b : Bool) (m : Move) (c : Count) → (counted b m c).pieces ≡ c.pieces + (if b then pieces_of m else 0)
counted_more true m c = refl
counted_more false m c = omega arith

-- a sum with another movement
sum_with : (adds : Move → ℕ) (ms : List Move) (m : Move) (b : Bool) (c : Count) → c.pieces ≡ sum_by adds ms → adds m ≡ (if b then pieces_of m else 0) → (counted b m c).pieces ≡ sum_by adds (ms ++ m ∷ [])
sum_with adds ms m b c so one =
    let more = counted_more b m c in
    let push = sum_by_push adds ms m in
    omega (arith, so, one, more, push)

pub own_rows : (w n : ℕ) (ms : List Move) → moves_of (filter (λ row. row.movement.awb == w) (numbered book_row n ms)) ≡ own_moves ms w
own_rows w n [] = refl
own_rows w n (m ∷ ms) = elim (m.awb == w) as (λ b. moves_of (if b then book_row n m ∷ filter (λ row. row.movement.awb == w) (numbered book_row (n + 1) ms) else filter (λ row. row.movement.awb == w) (numbered book_row (n + 1) ms)) ≡ (if b then m ∷ own_moves ms w else own_moves ms w)) [
  | true ↦ ap (λ l. m ∷ l) (own_rows w (n + 1) ms)
  | false ↦ own_rows w (n + 1) ms
]

module _ (w : ℕ) (kind : Lasting) where
  -- the sums and the day are those of these movements
  pub record Follows (ms : List Move) (s : Spell) : Type 0 where
    pub awb : s.awb ≡ w
    pub what : s.lasting ≡ kind
    pub came : s.kept.came.pieces ≡ moved_in pieces_of ms w (is_there kind)
    pub went : s.kept.went.pieces ≡ moved_out pieces_of ms w (is_there kind)
    pub back : s.surplus.came.pieces ≡ moved_in pieces_of ms w (same_place Surplus)
    pub found : s.surplus.went.pieces ≡ moved_out pieces_of ms w (same_place Surplus)
    pub day : IsDay (lasts kind w) ms s.since

  lasts_of : (k : Lasting) (ms : List Move) (s : Spell) → s.kept.came.pieces ≡ moved_in pieces_of ms w (is_there k) → s.kept.went.pieces ≡ moved_out pieces_of ms w (is_there k)
      → s.surplus.came.pieces ≡ moved_in pieces_of ms w (same_place Surplus) → s.surplus.went.pieces ≡ moved_out pieces_of ms w (same_place Surplus) → lasts_by k s.kept s.surplus ≡ lasts k w ms
  lasts_of lasting.Stored ms s came went back found = sym (lt_less s.kept.came.pieces s.kept.went.pieces) ∙ (λ i. nat_lt 0 (came i - went i))
  lasts_of lasting.Irregular ms s came went back found =
      let missing = sym (lt_less s.kept.came.pieces s.kept.went.pieces) ∙ (λ i. nat_lt 0 (came i - went i)) in
      let surplus = sym (lt_less s.surplus.went.pieces s.surplus.came.pieces) ∙ (λ i. nat_lt 0 (found i - back i)) in
      λ i. missing i || surplus i

  follows_next : (ms : List Move) (m : Move) (s : Spell) → Follows ms s → Follows (ms ++ m ∷ []) (next_spell m s)
  follows_next ms m s f =
      let came = sum_with (brings pieces_of w (is_there kind)) ms m ((m.awb == s.awb) && is_there s.lasting m.to) s.kept.came f.came (λ i. if (m.awb == sym f.awb i) && is_there (sym f.what i) m.to then pieces_of m else 0) in
      let went = sum_with (takes pieces_of w (is_there kind)) ms m ((m.awb == s.awb) && is_there s.lasting m.from) s.kept.went f.went (λ i. if (m.awb == sym f.awb i) && is_there (sym f.what i) m.from then pieces_of m else 0) in
      let back = sum_with (brings pieces_of w (same_place Surplus)) ms m ((m.awb == s.awb) && same_place Surplus m.to) s.surplus.came f.back (λ i. if (m.awb == sym f.awb i) && same_place Surplus m.to then pieces_of m else 0) in
      let found = sum_with (takes pieces_of w (same_place Surplus)) ms m ((m.awb == s.awb) && same_place Surplus m.from) s.surplus.went f.found (λ i. if (m.awb == sym f.awb i) && same_place Surplus m.from then pieces_of m else 0) in
      let moved : Spell = moved_spell m s in
      let now = ap (λ k. lasts_by k moved.kept moved.surplus) f.what ∙ lasts_of kind (ms ++ m ∷ []) moved came went back found in
      record {
        awb = f.awb;
        what = f.what;
        came = came;
        went = went;
        back = back;
        found = found;
        day = subst (λ b. IsDay (lasts kind w) (ms ++ m ∷ []) (since_after b s.since m.at.day)) (sym now) (day_after (lasts kind w) ms m s.since f.day);
      }

  nothing_lasts : (k : Lasting) → lasts k w [] ≡ false
  nothing_lasts lasting.Stored = refl
  nothing_lasts lasting.Irregular = refl

  follows_start : Follows [] (start_of w kind)
  follows_start = record {
    awb = refl;
    what = refl;
    came = refl;
    went = refl;
    back = refl;
    found = refl;
    day = (0, record { within = omega arith; before = nothing_lasts kind; later = λ k lt le. let no : ⊥ = omega (arith, lt, le) in absurd no }, refl);
  }

  follows_all : (rows : List BookRow) (ms : List Move) (old new : Spell) → Follows ms old → HandedOut (λ from row go to. TakesNext from row.movement go to) rows old new → new.is_full ≡ false
      → Follows (ms ++ moves_of rows) new
  follows_all [] ms old new f h room = subst (λ l. Follows l new) (sym (append-nil ms)) (subst (Follows ms) (sym h) f)
  follows_all (row ∷ rows) ms old new f (true, mid, took, more) room =
      let m : Move = row.movement in
      subst (λ l. Follows l new) (append_assoc ms (m ∷ []) (moves_of rows)) (follows_all rows (ms ++ m ∷ []) mid new (subst (Follows (ms ++ m ∷ [])) (sym took) (follows_next ms m old f)) more room)
  follows_all (row ∷ rows) ms old new f (false, mid, took, more) room = absurd (true≢false (sym took ∙ sym (ap (λ (s : Spell). s.is_full) more) ∙ room))

  day_found : (book : List Move) (rows : List BookRow) (old new : Spell) → old ≡ start_of w kind → rows ≡ filter (λ row. row.movement.awb == w) (numbered book_row 1 book)
      → HandedOut (λ from row go to. TakesNext from row.movement go to) rows old new → new.is_full ≡ false → IsDay (lasts kind w) (own_moves book w) new.since
  day_found book rows old new start are handed room =
      let f = follows_all rows [] old new (subst (Follows []) (sym start) follows_start) handed room in
      subst (λ l. IsDay (lasts kind w) l new.since) (ap moves_of are ∙ own_rows w 1 book) f.day

  -- what a reader found, if there was room
  pub day_known : (book : List Move) (read : Result (Unit {0}) ActFault) (old new : Spell) → old ≡ start_of w kind
      → OnOk read ((rows : List BookRow) × (rows ≡ movements_for (Of w) (numbered book_row 1 book)) × HandedOut (λ from row go to. TakesNext from row.movement go to) rows old new)
      → IsOk read → new.is_full ≡ false → IsDay (lasts kind w) (own_moves book w) new.since
  day_known book (Ok x) old new start (rows, are, handed) is room = day_found book rows old new start are handed room
  day_known book (Err e) old new start took is room = absurd (false≢true is)

-- all rows are kept, if there was room
kept_all : {Row : Type 0} (rows : List Row) (old new : Gathering Row) → HandedOut TakesRow rows old new → new.is_full ≡ false → new.rows.items ≡ old.rows.items ++ rows
kept_all [] old new h room = ap (λ (g : Gathering _). g.rows.items) h ∙ sym (append-nil _)
kept_all (row ∷ rows) old new (true, mid, took, more) room = kept_all rows mid new more room ∙ ap (λ l. l ++ rows) took.1 ∙ append_assoc old.rows.items (row ∷ []) rows
kept_all (row ∷ rows) old new (false, mid, took, more) room = absurd (true≢false (sym took ∙ sym (ap (λ (g : Gathering _). g.is_full) more) ∙ room))

pub kept_known : {Row : Type 0} (AreRows : List Row → Type 0) (read : Result (Unit {0}) ActFault) (old new : Gathering Row) → old.rows.items ≡ []
    → OnOk read ((rows : List Row) × AreRows rows × HandedOut TakesRow rows old new) → IsOk read → new.is_full ≡ false → AreRows new.rows.items
kept_known AreRows (Ok x) old new none (rows, are, handed) is room = subst AreRows (sym (kept_all rows old new handed room ∙ ap (λ l. l ++ rows) none)) are
kept_known AreRows (Err e) old new none took is room = absurd (false≢true is)

-- two reads, one after the other
pub reads_twice : {K : Type 0} (k : Keeping K) (a b c : K) → OnlyReads k a b → OnlyReads k b c → OnlyReads k a c
reads_twice k a b c first second = record {
  breaks = second.breaks ∙ first.breaks;
  premise = record {
    clean = λ clean. first.premise.clean (second.premise.clean clean);
    still = λ was clean. second.premise.still (first.premise.still was (second.premise.clean clean)) clean;
    sound = λ sound. first.premise.sound (second.premise.sound sound);
  };
  same = λ s keeps sound. second.same s (first.same s keeps (second.premise.sound sound)) sound;
  leaves = λ sound found finds. first.leaves (second.premise.sound sound) found (second.leaves sound found finds);
}

zip_push : {A B : Type 0} (R : A → B → Type 0) (xs : List A) (ys : List B) (x : A) (y : B) → AllZip R xs ys → R x y → AllZip R (xs ++ x ∷ []) (ys ++ y ∷ [])
zip_push R [] [] x y zipped one = (one, tt)
zip_push R [] (b ∷ ys) x y zipped one = absurd zipped
zip_push R (a ∷ xs) [] x y zipped one = absurd zipped
zip_push R (a ∷ xs) (b ∷ ys) x y zipped one = (zipped.0, zip_push R xs ys x y zipped.1 one)

-- one more row has its day
pub dated_more : {A B : Type 0} (R : A → B → Type 0) (xs : List A) (ys zs : List B) (i : ℕ) (x : A) (y : B) → i < length xs → x ≡ get_or xs i x → AllZip R (take i xs) ys → R x y → zs ≡ ys ++ y ∷ [] → AllZip R (take (i + 1) xs) zs
dated_more R xs ys zs i x y lt is before one pushed =
    subst (AllZip R (take (i + 1) xs)) (sym pushed) (subst (λ l. AllZip R l (ys ++ y ∷ [])) (ap (λ z. take i xs ++ z ∷ []) is ∙ sym (take_more xs i x lt)) (zip_push R (take i xs) ys x y before one))

-- there is one day
one_since : (holds : List Move → Bool) (ms : List Move) (n k : ℕ) → IsSince holds ms n → IsSince holds ms k → n < k → ⊥
one_since holds ms n k is too lt = true≢false (sym (is.later k lt too.within) ∙ too.before)

one_day : (holds : List Move → Bool) (ms : List Move) (a b : Option ℕ) → IsDay holds ms a → IsDay holds ms b → a ≡ b
one_day holds ms a b (n, is, day) (k, too, other) =
    let same : n ≡ k = ⊎_elim (λ (lt : n < k). absurd (one_since holds ms n k is too lt))
    (λ (le : k ≤ n). ⊎_elim (λ (lt : k < n). absurd (one_since holds ms k n too is lt)) (λ (ge : n ≤ k). omega (arith, le, ge)) (cases_lt k n)) (cases_lt n k) in
    day ∙ ap (λ n. option_map (λ (m : Move). m.at.day) (slice_get ms n)) same ∙ sym other

dated_once : {Row : Type 0} (kind : Lasting) (awb_of : Row → ℕ) (s : Cargo) (rows : List Row) (xs ys : List (Dated Row)) → AreDated kind awb_of s rows xs → AreDated kind awb_of s rows ys → xs ≡ ys
dated_once kind awb_of s [] [] [] are too = refl
dated_once kind awb_of s [] (x ∷ xs) ys are too = absurd are
dated_once kind awb_of s [] [] (y ∷ ys) are too = absurd too
dated_once kind awb_of s (row ∷ rows) [] ys are too = absurd are
dated_once kind awb_of s (row ∷ rows) (x ∷ xs) [] are too = absurd too
dated_once kind awb_of s (row ∷ rows) (x ∷ xs) (y ∷ ys) are too =
    let day : x.since ≡ y.since = one_day _ _ _ _ are.0.1 too.0.1 in
    let same : x.row ≡ y.row = are.0.0 ∙ sym too.0.0 in
    let rest = dated_once kind awb_of s rows xs ys are.1 too.1 in
    λ i. record { since = day i; row = same i } ∷ rest i

pub one_dated : {Row : Type 0} (kind : Lasting) (awb_of : Row → ℕ) (s : Cargo) (all : List Row) (xs ys : List (Dated Row)) → ((rows : List Row) × (rows ≡ all) × AreDated kind awb_of s rows xs) → ((rows : List Row) × (rows ≡ all) × AreDated kind awb_of s rows ys) → xs ≡ ys
one_dated kind awb_of s all xs ys (rows, are, dated) (others, too, dated_too) =
    dated_once kind awb_of s all xs ys (subst (λ rows. AreDated kind awb_of s rows xs) are dated) (subst (λ rows. AreDated kind awb_of s rows ys) too dated_too)
