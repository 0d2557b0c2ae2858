-- Rows that are taken one after another.
use Rattle.table_audits.proofs.Common.{AreCounted, AreLinesTaken, AreMessages, AreMessagesTaken, AreNumbered, AreSound, AreSoundOr, Bool, Err, Error, IfSome, IsSome, List, Message, MessageRow, None, Ok, OnOk, Option, Result, RisesByNumber, Some, Tables, TrailRow, Waybill, [], and_parts, ap, ap₂, arith, cargo_in, cond, confirmed_in, false, if_confirmed, is_lawful_line, is_message_row, length, length-append, length-map, list_all, list_all-append, list_all-map, list_all_push, map, map-append, map-map, message_id, message_meant, nat_le, nat_tests, pos, range_with_len, refl, subst, sym, trail_id, trail_meant, true, true≢false, ℕ, ℤ, ◌&&◌, ◌++◌, ◌+◌, ◌↔◌, ◌∙◌, ◌∷◌, ◌≡◌, ◌≤◌}
use Rattle.table_audits.specs.declared.lookups.NumberedRows.{NumberedRows}
use Rattle.table_audits.proofs.NumberLaws.{numbered_push, numbered_pop}
use Rattle.table_audits.proofs.Texts.{messages_are}

abbrev pub Tested : Type 0
Tested = ℤ × Bool

abbrev number_of : Tested → ℤ
number_of row = row.0

abbrev passed : Tested → Bool
passed row = row.1

pub list_all_pop : {X : Type 0} (p : X → Bool) (xs : List X) (x : X) → list_all p (xs ++ x ∷ []) ≡ true → (list_all p xs ≡ true) × (p x ≡ true)
list_all_pop p xs x all =
    let parts = and_parts (list_all p xs) (p x && true) (sym (list_all-append p xs (x ∷ [])) ∙ all) in
    (parts.0, (and_parts (p x) true parts.1).0)

-- ---- one row more

pub one_sound : (rows : List Tested) (n : ℤ) (b : Bool) → AreSound rows → b ≡ true → n ≡ pos (length rows + 1) → AreSound (rows ++ (n, b) ∷ [])
one_sound rows n b are is number = record {
  numbers = numbered_push number_of rows (n, b) are.numbers number;
  each = list_all_push passed rows (n, b) are.each is;
}

pub sound_before : (rows : List Tested) (row : Tested) → AreSound (rows ++ row ∷ []) → AreSound rows
sound_before rows row are = record {
  numbers = (numbered_pop number_of rows row are.numbers).0;
  each = (list_all_pop passed rows row are.each).0;
}

pub last_number : (rows : List Tested) (n : ℤ) (b : Bool) → AreSound (rows ++ (n, b) ∷ []) → n ≡ pos (length rows + 1)
last_number rows n b are = (numbered_pop number_of rows (n, b) are.numbers).1

pub counted_more : (rows : List Tested) (row : Tested) (count more : ℕ) → count ≡ length rows → more ≡ count + 1 → more ≡ length (rows ++ row ∷ [])
counted_more rows row count more are is = is ∙ ap (λ n. n + 1) are ∙ sym (length-append rows (row ∷ []))

-- a row more stays unsound
pub stays_unsound : (rows : List Tested) (row : Tested) (count : Option ℕ) → count ≡ None → AreSoundOr rows count → AreSoundOr (rows ++ row ∷ []) count
stays_unsound rows row None e never = λ are. never (sound_before rows row are)
stays_unsound rows row (Some n) e are = absurd (cc)

-- ---- what a count says of the rows of a table

module _ {X Y : Type 0} (meant : X → Y) (number : Y → ℤ) (p : Y → Bool) (rows : List X) where
  abbrev pub tested : List Tested
  tested = map (λ row. (number (meant row), p (meant row))) rows

  numbers_are : AreSound tested → AreNumbered number (map meant rows)
  numbers_are are =
      map-map number meant rows ∙ sym (map-map number_of (λ row. (number (meant row), p (meant row))) rows) ∙ are.numbers
      ∙ ap (λ n. map pos (range_with_len 1 n)) (length-map rows (λ row. (number (meant row), p (meant row))) ∙ sym (length-map rows meant))

  each_is : AreSound tested → list_all p (map meant rows) ≡ true
  each_is are = list_all-map p meant rows ∙ sym (list_all-map passed (λ row. (number (meant row), p (meant row))) rows) ∙ are.each

  pub sound_rows : AreSound tested → AreNumbered number (map meant rows) × (list_all p (map meant rows) ≡ true)
  sound_rows are = (numbers_are are, each_is are)

  pub rows_sound : AreNumbered number (map meant rows) → list_all p (map meant rows) ≡ true → AreSound tested
  rows_sound numbers each = record {
    numbers = map-map number_of (λ row. (number (meant row), p (meant row))) rows ∙ sym (map-map number meant rows) ∙ numbers
        ∙ ap (λ n. map pos (range_with_len 1 n)) (length-map rows meant ∙ sym (length-map rows (λ row. (number (meant row), p (meant row)))));
    each = list_all-map passed (λ row. (number (meant row), p (meant row))) rows ∙ sym (list_all-map p meant rows) ∙ each;
  }

  pub count_is : (count : ℕ) → count ≡ length tested → count ≡ length (map meant rows)
  count_is count is = is ∙ length-map rows (λ row. (number (meant row), p (meant row))) ∙ sym (length-map rows meant)

-- ---- lines

abbrev tested_line : List Waybill → TrailRow → Tested
tested_line ws row = (trail_id (trail_meant row), is_lawful_line ws (trail_meant row))

pub lines_more : (ws : List Waybill) (rows : List TrailRow) (row : TrailRow) (old new : NumberedRows) (n : ℤ) (b : Bool) {X : Type 0} (r : Result X Error) → AreLinesTaken ws old rows → n ≡ trail_id (trail_meant row) → (RisesByNumber ws → b ≡ is_lawful_line ws (trail_meant row))
    → ((all : List Tested) → AreCounted old all → OnOk r (AreCounted new (all ++ (n, b) ∷ []))) → OnOk r (AreLinesTaken ws new (rows ++ row ∷ []))
lines_more ws rows row old new n b (Err e) taken number is added = tt
lines_more ws rows row old new n b (Ok x) taken number is added = λ up.
    subst (AreCounted new) (ap (λ l. map (tested_line ws) rows ++ l ∷ []) (ap₂ (λ k p. (k, p)) number (is up)) ∙ sym (map-append (tested_line ws) rows (row ∷ []))) (added (map (tested_line ws) rows) (taken up))

-- ---- messages

abbrev tested_message : MessageRow → Tested
tested_message row = (message_id (message_meant row), true)

pub messages_more : (rows : List MessageRow) (row : MessageRow) (old new : NumberedRows) (n : ℤ) {X : Type 0} (r : Result X Error) → AreMessagesTaken old rows → n ≡ message_id (message_meant row)
    → ((all : List Tested) → AreCounted old all → OnOk r (AreCounted new (all ++ (n, true) ∷ []))) → OnOk r (AreMessagesTaken new (rows ++ row ∷ []))
messages_more rows row old new n (Err e) taken number added = tt
messages_more rows row old new n (Ok x) taken number added = subst (AreCounted new) (ap (λ k. map tested_message rows ++ (k, true) ∷ []) number ∙ sym (map-append tested_message rows (row ∷ []))) (added (map tested_message rows) taken)

module _ (t : Tables) (rows : List MessageRow) where
  all_pass : (ms : List Message) → list_all (λ (m : Message). true) ms ≡ true
  all_pass [] = refl
  all_pass (m ∷ ms) = all_pass ms

  are_messages : (n : ℕ) → t.outbox ≡ map message_meant rows → AreSound (map tested_message rows) → n ≡ length (map tested_message rows) → confirmed_in t.stations ≤ n → AreMessages t
  are_messages n is are counted low = record {
    rows = ap (list_all is_message_row) is ∙ messages_are rows;
    numbers = subst (AreNumbered message_id) (sym is) (sound_rows message_meant message_id (λ _. true) rows are).0;
    mark = let long : n ≡ length t.outbox = count_is message_meant message_id (λ _. true) rows n counted ∙ ap length (sym is) in
        let all : length (cargo_in t).outbox ≡ length t.outbox = length-map t.outbox (λ (row : Message). row.body) in
        omega (arith, long, all, low);
  }

  module _ (confirmed : ℕ) where
    pub messages_so : confirmed_in t.stations ≡ confirmed → t.outbox ≡ map message_meant rows → (count : Option ℕ) → AreSoundOr (map tested_message rows) count → IsSome (if_confirmed confirmed count) ↔ AreMessages t
    messages_so mark is None never = (
      λ h. absurd (true≢false (sym h)),
      λ law. absurd (never (rows_sound message_meant message_id (λ _. true) rows (subst (AreNumbered message_id) is law.numbers) (all_pass (map message_meant rows)))),
    )
    messages_so mark is (Some n) are = go (nat_le confirmed n) refl
      where
        go : (b : Bool) → nat_le confirmed n ≡ b → IsSome (cond b (Some n) None) ↔ AreMessages t
        go true e = (λ h. are_messages n is are.0 are.1 (let low : confirmed ≤ n = grind (arith, nat_tests) in omega (arith, mark, low)), λ law. refl)
        go false e = (
          λ h. absurd (true≢false (sym h)),
          λ law. absurd (
              let long : n ≡ length t.outbox = count_is message_meant message_id (λ _. true) rows n are.1 ∙ ap length (sym is) in
              let all : length (cargo_in t).outbox ≡ length t.outbox = length-map t.outbox (λ (row : Message). row.body) in
              let low : confirmed ≤ n = omega (arith, long, all, mark, law.mark) in
              true≢false (sym (let yes : nat_le confirmed n ≡ true = grind (arith, nat_tests) in yes) ∙ e)),
        )

    pub messages_count : t.outbox ≡ map message_meant rows → (count : Option ℕ) → AreSoundOr (map tested_message rows) count → IfSome (if_confirmed confirmed count) (λ n. n ≡ length t.outbox)
    messages_count is None never = tt
    messages_count is (Some n) are = go (nat_le confirmed n)
      where
        go : (b : Bool) → IfSome (cond b (Some n) None) (λ m. m ≡ length t.outbox)
        go true = count_is message_meant message_id (λ _. true) rows n are.1 ∙ ap length (sym is)
        go false = tt
