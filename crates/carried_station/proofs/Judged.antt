-- What walking through both lists finds.
use Rattle.std.proofs.Common.{◌≡◌, ◌≢◌, ◌∙◌, refl, sym, ap, subst, arith, ℕ, ◌<◌, ◌==◌, Bool, true, false, true≢false, not, ◌||◌, List, [], ◌∷◌, length, map, Option, Some, None, IfSome, Result, Ok, Err}
use Rattle.std.specs.Bool.{if◌then◌else◌}
use Rattle.std.specs.List.{AllByRecursion, filter, find}
use Rattle.std.specs.Prelude.{IfOk}
use Rattle.std.specs.Option.{option_map}
use Rattle.std.proofs.lemmas.Bool.{and_parts, and_from, eqb-true, eq-eqb}
use Rattle.std.proofs.lemmas.Option.{none-some, same_Some}
use Rattle.std.proofs.lemmas.Slice.Eq.{bytes_eq-Decides}
use Rattle.shipment_machine.specs.Cargo.{IsAscending, is_in}
use Rattle.shipment_machine.specs.declared.moves.Declared.{Declared}
use Rattle.shipment_machine.proofs.Rising.{not_in}
use Rattle.carried_station.specs.Carried.{if_carried}
use Rattle.carried_station.specs.Compared.{declared_by, rows_without}
use Rattle.carried_station.specs.Walk.{and_left, left_of, same_bool, same_day, same_row}
use Rattle.carried_station.proofs.Walked.{passed}
use Rattle.carried_station.specs.declared.waybills.WaybillRow.{WaybillRow}

-- Rows that compare the same are one.

one_bool : (a b : Bool) → same_bool a b ≡ true → a ≡ b
one_bool true true e = refl
one_bool false false e = refl
one_bool true false e = absurd (true≢false (sym e))
one_bool false true e = absurd (true≢false (sym e))

one_day : (a b : Option ℕ) → same_day a b ≡ true → a ≡ b
one_day None None e = refl
one_day (Some a) (Some b) e = ap Some (eqb-true a b e)
one_day None (Some b) e = absurd (true≢false (sym e))
one_day (Some a) None e = absurd (true≢false (sym e))

bool_again : (a : Bool) → same_bool a a ≡ true
bool_again true = refl
bool_again false = refl

day_again : (a : Option ℕ) → same_day a a ≡ true
day_again None = refl
day_again (Some a) = eq-eqb a a refl

one_row : (a b : WaybillRow) → same_row a b ≡ true → a ≡ b
one_row a b e =
    let p1 = and_parts _ _ e in
    let p2 = and_parts _ _ p1.1 in
    let p3 = and_parts _ _ p2.1 in
    let p4 = and_parts _ _ p3.1 in
    let p5 = and_parts _ _ p4.1 in
    let p6 = and_parts _ _ p5.1 in
    let p7 = and_parts _ _ p6.1 in
    let awb : a.awb ≡ b.awb = eqb-true a.awb b.awb p1.0 in
    let origin : a.declared.origin ≡ b.declared.origin = (bytes_eq-Decides a.declared.origin b.declared.origin).0 p2.0 in
    let destination : a.declared.destination ≡ b.declared.destination = (bytes_eq-Decides a.declared.destination b.declared.destination).0 p3.0 in
    let pieces : a.declared.pieces ≡ b.declared.pieces = eqb-true a.declared.pieces b.declared.pieces p4.0 in
    let tenths : a.declared.tenths ≡ b.declared.tenths = eqb-true a.declared.tenths b.declared.tenths p5.0 in
    let goods : a.declared.goods ≡ b.declared.goods = (bytes_eq-Decides a.declared.goods b.declared.goods).0 p6.0 in
    let notified : a.declared.notified ≡ b.declared.notified = one_bool a.declared.notified b.declared.notified p7.0 in
    let since : a.declared.since ≡ b.declared.since = one_day a.declared.since b.declared.since p7.1 in
    λ i. record { awb = awb i; declared = record { origin = origin i; destination = destination i; pieces = pieces i; tenths = tenths i; goods = goods i; notified = notified i; since = since i } }

row_again : (a : WaybillRow) → same_row a a ≡ true
row_again a =
    let d : Declared = a.declared in
    and_from _ _ (eq-eqb a.awb a.awb refl) (and_from _ _ ((bytes_eq-Decides d.origin d.origin).1 refl) (and_from _ _ ((bytes_eq-Decides d.destination d.destination).1 refl)
    (and_from _ _ (eq-eqb d.pieces d.pieces refl) (and_from _ _ (eq-eqb d.tenths d.tenths refl) (and_from _ _ ((bytes_eq-Decides d.goods d.goods).1 refl)
    (and_from _ _ (bool_again d.notified) (day_again d.since)))))))

-- Ascending rows.

abbrev awbs : List WaybillRow → List ℕ
awbs rows = map (λ (row : WaybillRow). row.awb) rows

abbrev Above : ℕ → List ℕ → Type 0
Above b ws = AllByRecursion (λ q. b < q) ws

lower : (a b : ℕ) (ws : List ℕ) → a < b → Above b ws → Above a ws
lower a b [] low all = tt
lower a b (w ∷ ws) low all = (let p : b < w = all.0 in omega arith, lower a b ws low all.1)

-- a number below the rows leaves out none of them
still : (w : ℕ) (left : List ℕ) (rows : List WaybillRow) → Above w (awbs rows) → rows_without (w ∷ left) rows ≡ rows_without left rows
still w left [] all = refl
still w left (row ∷ rows) all =
    let low : w < row.awb = all.0 in
    let differ : (w == row.awb) ≡ false = unequal w row.awb low in
    λ i. (if not (differ i || is_in row.awb left) then row ∷ still w left rows all.1 i else still w left rows all.1 i)
  where
    unequal : (a b : ℕ) → a < b → (a == b) ≡ false
    unequal a b low = elim (a == b) as (λ t. (a == b) ≡ t → t ≡ false) [
      | true ↦ λ e. absurd (let same : a ≡ b = eqb-true a b e in omega arith)
      | false ↦ λ _. refl
    ] refl

-- What is found.
abbrev Judges : List WaybillRow → List WaybillRow → List ℕ → Type 0
Judges rows rest left = (rest ≡ rows_without left rows) × ((b : ℕ) → Above b (awbs rows) → Above b left)

kept_case : (row next : WaybillRow) (rows rest : List WaybillRow) (left : List ℕ) → Above row.awb (awbs rows) → same_row next row ≡ true → Judges rows rest left → Judges (row ∷ rows) (next ∷ rest) left
kept_case row next rows rest left above is so = (
  (λ i. one_row next row is i ∷ so.0 i) ∙ ap (λ b. if not b then row ∷ rows_without left rows else rows_without left rows) (sym (not_in row.awb left (so.1 row.awb above))),
  λ b all. so.1 b all.1,
)

left_case : (row : WaybillRow) (rows rest : List WaybillRow) (left : List ℕ) (o : Option (List ℕ)) → Above row.awb (awbs rows) → and_left row.awb o ≡ Some left → ((more : List ℕ) → o ≡ Some more → Judges rows rest more) → Judges (row ∷ rows) rest left
left_case row rows rest left None above e so = absurd (none-some left e)
left_case row rows rest left (Some more) above e so =
    let found = so more refl in
    let itself : (row.awb == row.awb) ≡ true = eq-eqb row.awb row.awb refl in
    subst (Judges (row ∷ rows) rest) (same_Some (row.awb ∷ more) left e) (
      found.0 ∙ sym (still row.awb more rows above) ∙ ap (λ b. if not (b || is_in row.awb more) then row ∷ rows_without (row.awb ∷ more) rows else rows_without (row.awb ∷ more) rows) (sym itself),
      λ b all. (all.0, found.1 b all.1),
    )

sound : (rows rest : List WaybillRow) (left : List ℕ) → IsAscending (awbs rows) → left_of rows rest ≡ Some left → Judges rows rest left
sound [] [] left asc e = (refl, λ b _. subst (Above b) (same_Some [] left e) tt)
sound [] (next ∷ rest) left asc e = absurd (none-some left e)
sound (row ∷ rows) [] left asc e = left_case row rows [] left (left_of rows []) asc.0 e (λ more is. sound rows [] more asc.1 is)
sound (row ∷ rows) (next ∷ rest) left asc e =
    elim (same_row next row) as (λ b. same_row next row ≡ b → (if b then left_of rows rest else and_left row.awb (left_of rows (next ∷ rest))) ≡ Some left → Judges (row ∷ rows) (next ∷ rest) left) [
      | true ↦ λ is e. kept_case row next rows rest left asc.0 is (sound rows rest left asc.1 e)
      | false ↦ λ _ e. left_case row rows (next ∷ rest) left (left_of rows (next ∷ rest)) asc.0 e (λ more is. sound rows (next ∷ rest) more asc.1 is)
    ] refl e

above_filter : (b : ℕ) (p : WaybillRow → Bool) (rows : List WaybillRow) → Above b (awbs rows) → Above b (awbs (filter p rows))
above_filter b p [] all = tt
above_filter b p (row ∷ rows) all = elim (p row) as (λ t. Above b (awbs (if t then row ∷ filter p rows else filter p rows))) [ true ↦ (all.0, above_filter b p rows all.1) | false ↦ above_filter b p rows all.1 ]

no_more : (w : ℕ) (o : Option (List ℕ)) → and_left w o ≡ None → o ≡ None
no_more w None e = refl
no_more w (Some left) e = absurd (none-some (w ∷ left) (sym e))

-- rows that are above another aren't that one
other_row : (row : WaybillRow) (rows rest : List WaybillRow) → Above row.awb (awbs rest) → left_of (row ∷ rows) rest ≡ and_left row.awb (left_of rows rest)
other_row row rows [] all = refl
other_row row rows (next ∷ rest) all =
    elim (same_row next row) as (λ b. same_row next row ≡ b → (if b then left_of rows rest else and_left row.awb (left_of rows (next ∷ rest))) ≡ and_left row.awb (left_of rows (next ∷ rest))) [
      | true ↦ λ is. absurd (let low : row.awb < next.awb = all.0 in let same : next.awb ≡ row.awb = eqb-true next.awb row.awb (and_parts _ _ is).0 in omega arith)
      | false ↦ λ _. refl
    ] refl

complete : (rows rest : List WaybillRow) → IsAscending (awbs rows) → (keeps : ℕ → Bool) → rest ≡ filter (λ (row : WaybillRow). keeps row.awb) rows → left_of rows rest ≡ None → ⊥
complete [] [] asc keeps e none = none-some [] (sym none)
complete [] (next ∷ rest) asc keeps e none = let long = ap length e in omega arith
complete (row ∷ rows) rest asc keeps e none =
    let kept : List WaybillRow = filter (λ (row : WaybillRow). keeps row.awb) rows in
    elim (keeps row.awb) as (λ b. rest ≡ (if b then row ∷ kept else kept) → ⊥) [
      | true ↦ λ e. complete rows kept asc.1 keeps refl (sym (passed rows rest kept row row e (row_again row)) ∙ none)
      | false ↦ λ e. complete rows rest asc.1 keeps e (no_more row.awb (left_of rows rest)
          (sym (other_row row rows rest (subst (λ rs. Above row.awb (awbs rs)) (sym e) (above_filter row.awb (λ row. keeps row.awb) rows asc.0))) ∙ none))
    ] e

pub judged_found : {V E : Type 0} (items : V → List ℕ) (r : Result (Option V) E) (old new : List WaybillRow) → IsAscending (awbs old) → IfOk r (λ found. option_map items found ≡ left_of old new)
    → IfOk r (λ found. IfSome found (λ left. new ≡ rows_without (items left) old))
judged_found items (Err e) old new asc h = tt
judged_found items (Ok None) old new asc h = tt
judged_found items (Ok (Some v)) old new asc h = (sound old new (items v) asc (sym h)).0

pub judged_none : {V E : Type 0} (items : V → List ℕ) (r : Result (Option V) E) (old new : List WaybillRow) → IsAscending (awbs old) → IfOk r (λ found. option_map items found ≡ left_of old new)
    → IfOk r (λ found. found ≡ None → (keeps : ℕ → Bool) → new ≢ filter (λ row. keeps row.awb) old)
judged_none items (Err e) old new asc h = tt
judged_none items (Ok None) old new asc h = λ _ keeps same. complete old new asc keeps same (sym h)
judged_none items (Ok (Some v)) old new asc h = λ is. absurd (none-some v (sym is))

-- the declarations by the rows that are carried
carried_by : (left : List ℕ) (w : ℕ) (rows : List WaybillRow) → declared_by (rows_without left rows) w ≡ if_carried (not (is_in w left)) (declared_by rows w)
carried_by left w [] = none_carried (not (is_in w left))
  where
    none_carried : (b : Bool) → None ≡ if_carried {X = Declared} b None
    none_carried true = refl
    none_carried false = refl
carried_by left w (row ∷ rows) =
    let rest : List WaybillRow = rows_without left rows in
    let more = carried_by left w rows in
    elim (row.awb == w) as (λ t. (row.awb == w) ≡ t → declared_by (rows_without left (row ∷ rows)) w
    ≡ if_carried (not (is_in w left)) (option_map (λ (r : WaybillRow). r.declared) (if t then Some row else find (λ (r : WaybillRow). r.awb == w) rows))) [
      | true ↦ λ is. elim (is_in row.awb left) as (λ b. is_in row.awb left ≡ b → declared_by (if not b then row ∷ rest else rest) w ≡ if_carried (not (is_in w left)) (Some row.declared)) [
        | true ↦ λ inside. let here : is_in w left ≡ true = ap (λ v. is_in v left) (sym (eqb-true row.awb w is)) ∙ inside in
            more ∙ ap (λ b. if_carried (not b) (declared_by rows w)) here ∙ ap (λ b. if_carried (not b) (Some row.declared)) (sym here)
        | false ↦ λ outside. let here : is_in w left ≡ false = ap (λ v. is_in v left) (sym (eqb-true row.awb w is)) ∙ outside in
            ap (λ t. option_map (λ (r : WaybillRow). r.declared) (if t then Some row else find (λ (r : WaybillRow). r.awb == w) rest)) is
            ∙ ap (λ b. if_carried (not b) (Some row.declared)) (sym here)
      ] refl
      | false ↦ λ differ. elim (is_in row.awb left) as (λ b. declared_by (if not b then row ∷ rest else rest) w ≡ if_carried (not (is_in w left)) (declared_by rows w)) [
        | true ↦ more
        | false ↦ ap (λ t. option_map (λ (r : WaybillRow). r.declared) (if t then Some row else find (λ (r : WaybillRow). r.awb == w) rest)) differ ∙ more
      ]
    ] refl

pub judged_declared : {V E : Type 0} (items : V → List ℕ) (r : Result (Option V) E) (old new : List WaybillRow) → IsAscending (awbs old) → IfOk r (λ found. option_map items found ≡ left_of old new)
    → IfOk r (λ found. IfSome found (λ left. (w : ℕ) → declared_by new w ≡ if_carried (not (is_in w (items left))) (declared_by old w)))
judged_declared items (Err e) old new asc h = tt
judged_declared items (Ok None) old new asc h = tt
judged_declared items (Ok (Some v)) old new asc h = λ w. ap (λ rows. declared_by rows w) (sound old new (items v) asc (sym h)).0 ∙ carried_by (items v) w old
