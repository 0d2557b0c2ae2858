-- The shape of a consignment line, test by test.
use Rattle.imp_fields.proofs.Common.{Bool, List, None, Option, Some, airport_of, and_from, and_left, and_parts, and_right, ap, arith, cases_Bool, cases_lt, cond-false, cond-true, cond_some, drop, drop-drop, eq-eqb, eqb-true, false, get_or, get_or-eq_default, has_consignment_shape, has_number_shape, inl, inr, is_airport, is_letter, length, length-drop, length-take-le, list_all, list_all-append, refl, slice_index, slice_range, sym, take, take-add, true, where_true, ℕ, ◌&&◌, ◌++◌, ◌-◌, ◌<◌, ◌==◌, ◌∙◌, ◌≡◌, ◌≤◌}

-- a line that has the shape goes on behind its slash's place
pub shape_long : (line : List ℕ) → has_consignment_shape line ≡ true → 19 ≤ length line
shape_long line e =
    let slash : slice_index line 18 ≡ 47 = eqb-true _ _ (and_parts _ _ e).1 in
    elim (cases_lt 18 (length line)) [
      | inl lt ↦ omega (arith, lt)
      | inr le ↦ let none : get_or line 18 0 ≡ 0 = get_or-eq_default line 0 le in absurd (let two : 0 ≡ 47 = sym none ∙ slash in omega (arith, two))
    ]

pub shape_short : (line : List ℕ) → length line < 19 → has_consignment_shape line ≡ false
shape_short line lt =
    elim (cases_Bool (has_consignment_shape line)) [
      | inl e ↦ absurd (omega (arith, shape_long line e, lt))
      | inr e ↦ e
    ]

length_range : (line : List ℕ) (from to : ℕ) → from ≤ to → to ≤ length line → length (slice_range line from to) ≡ to - from
length_range line from to le within = length-take-le (to - from) (drop from line) (omega (arith, length-drop from line, le, within))

two_airports : (line : List ℕ) → slice_range line 12 18 ≡ slice_range line 12 15 ++ slice_range line 15 18
two_airports line = take-add 3 3 (drop 12 line) ∙ ap (λ xs. take 3 (drop 12 line) ++ take 3 xs) (drop-drop 3 12 line)

joined : (a c x y d : Bool) → c ≡ (x && y) → (((a && true) && c) && d) ≡ ((a && (x && y)) && d)
joined true c x y d e = ap (λ b. b && d) e
joined false c x y d e = refl

pub shape_by : (line : List ℕ) → 19 ≤ length line
    → has_consignment_shape line ≡ ((has_number_shape (take 12 line) && (is_airport (slice_range line 12 15) && is_airport (slice_range line 15 18))) && (slice_index line 18 == 47))
shape_by line long =
    let number = has_number_shape (take 12 line) in
    let slash = slice_index line 18 == 47 in
    let x = list_all is_letter (slice_range line 12 15) in
    let y = list_all is_letter (slice_range line 15 18) in
    let six : (length (slice_range line 12 18) == 6) ≡ true = eq-eqb _ _ (length_range line 12 18 (omega arith) (omega (arith, long))) in
    let three : (length (slice_range line 12 15) == 3) ≡ true = eq-eqb _ _ (length_range line 12 15 (omega arith) (omega (arith, long))) in
    let three' : (length (slice_range line 15 18) == 3) ≡ true = eq-eqb _ _ (length_range line 15 18 (omega arith) (omega (arith, long))) in
    let letters : list_all is_letter (slice_range line 12 18) ≡ (x && y) = ap (list_all is_letter) (two_airports line) ∙ list_all-append is_letter (slice_range line 12 15) (slice_range line 15 18) in
    ap (λ b. ((number && b) && list_all is_letter (slice_range line 12 18)) && slash) six
    ∙ joined number (list_all is_letter (slice_range line 12 18)) x y slash letters
    ∙ ap (λ b. (number && ((b && x) && y)) && slash) (sym three)
    ∙ ap (λ b. (number && (is_airport (slice_range line 12 15) && (b && y))) && slash) (sym three')

-- the route, once the other tests have passed
abbrev pub Route : Type 0
Route = List ℕ × List ℕ

abbrev pub route_of : List ℕ → Option Route
route_of line = where_true (has_consignment_shape line) (slice_range line 12 15, slice_range line 15 18)

airport_found : (text code : List ℕ) → airport_of text ≡ Some code → (is_airport text ≡ true) × (text ≡ code)
airport_found text code e = cond_some (is_airport text) text code e

pub route_found : (line origin destination : List ℕ) → 19 ≤ length line → has_number_shape (take 12 line) ≡ true → slice_index line 18 ≡ 47
    → airport_of (slice_range line 12 15) ≡ Some origin → airport_of (slice_range line 15 18) ≡ Some destination
    → route_of line ≡ Some (origin, destination)
route_found line origin destination long number slash from to =
    let o = airport_found (slice_range line 12 15) origin from in
    let d = airport_found (slice_range line 15 18) destination to in
    let shape : has_consignment_shape line ≡ true = shape_by line long ∙ and_from _ _ (and_from _ _ number (and_from _ _ o.0 d.0)) (eq-eqb _ _ slash) in
    cond-true _ _ _ shape ∙ ap (λ x. some_route x (slice_range line 15 18)) o.1 ∙ ap (some_route origin) d.1
  where
    some_route : List ℕ → List ℕ → Option Route
    some_route x y = Some (x, y)

pub route_lost : (line : List ℕ) → 19 ≤ length line → airport_of (slice_range line 15 18) ≡ None → route_of line ≡ None
route_lost line long lost =
    let no : is_airport (slice_range line 15 18) ≡ false = cond_none (is_airport (slice_range line 15 18)) (slice_range line 15 18) lost in
    cond-false _ _ _ (shape_by line long ∙ and_left _ _ (and_right _ _ (and_right _ _ no)))
  where
    cond_none : (b : Bool) (x : List ℕ) → where_true b x ≡ None → b ≡ false
    cond_none true x e = absurd cc
    cond_none false x e = refl
