-- A consignment line's reading, by what its parts are.
use Rattle.imp_fields.proofs.Common.{Bool, Err, IsSlice, List, None, Ok, Quantity, Result, Shipment, Some, Token, Why, [], ap, arith, cases_lt, cond-false, cond-true, cond_some, consignment_by, consignment_of, drop, drop-drop, drop_all, false, goods_part, has_consignment_shape, inl, inr, is_slash, length, length-drop, length-take-le, min, not, number_of, position_or_len, prefix_len-le-length, quantity_of, quantity_part, refl, slice_range, sym, take, take_all, true, where_true, ℕ, ◌+◌, ◌-◌, ◌∙◌, ◌≡◌, ◌≤◌}
use Rattle.awb_number.specs.declared.awb.AwbFault.{AwbFault}
use Rattle.imp_fields.specs.declared.fault.Why.TheVariants as why
use Rattle.imp_fields.proofs.ShapeLaws.{Route, route_of}

shape_of_some : (line : List ℕ) (r : Route) → route_of line ≡ Some r → has_consignment_shape line ≡ true
shape_of_some line r e = (cond_some (has_consignment_shape line) (slice_range line 12 15, slice_range line 15 18) r e).0

no_shape : (b : Bool) (r : Route) → where_true b r ≡ None → b ≡ false
no_shape true r e = absurd cc
no_shape false r e = refl

pub unshaped : (line : List ℕ) → route_of line ≡ None → consignment_of line ≡ Err why.Consignment
unshaped line e = cond-false _ _ _ (no_shape (has_consignment_shape line) (slice_range line 12 15, slice_range line 15 18) e)

shaped : (line : List ℕ) (r : Route) → route_of line ≡ Some r → consignment_of line ≡ consignment_by line (number_of (take 12 line)) (quantity_of (quantity_part line))
shaped line r e = cond-true _ _ _ (shape_of_some line r e)

pub misnumbered : (line : List ℕ) (r : Route) (fault : AwbFault) → route_of line ≡ Some r → number_of (take 12 line) ≡ Err fault
    → consignment_of line ≡ Err why.Number
misnumbered line r fault e wrong = shaped line r e ∙ ap (λ n. consignment_by line n (quantity_of (quantity_part line))) wrong

-- where the quantity ends
abbrev pub quantity_end : List ℕ → ℕ
quantity_end line = 19 + position_or_len is_slash (drop 19 line)

pub quantity_slice : (line : List ℕ) → slice_range line 19 (quantity_end line) ≡ quantity_part line
quantity_slice line =
    let same : quantity_end line - 19 ≡ position_or_len is_slash (drop 19 line) = omega arith in
    ap (λ n. take n (drop 19 line)) same

pub goods_slice : (line : List ℕ) → slice_range line (min (length line) (quantity_end line + 1)) (length line) ≡ goods_part line
goods_slice line =
    elim (cases_lt (length line) (quantity_end line + 1)) [
      | inl lt ↦
          let least : min (length line) (quantity_end line + 1) ≡ length line = omega (arith, lt) in
          ap (λ n. take (length line - n) (drop n line)) least ∙ ap (take (length line - length line)) (drop_all (length line) line (omega arith))
          ∙ take_all (length line - length line) [] (omega arith) ∙ sym (drop_all place (drop 19 line) (omega (arith, length-drop 19 line, lt)))
      | inr le ↦
          let least : min (length line) (quantity_end line + 1) ≡ 19 + place = omega (arith, le) in
          let rest = drop place (drop 19 line) in
          let behind : drop (19 + place) line ≡ rest = sym (drop-drop place 19 line) in
          ap (λ n. take (length line - n) (drop n line)) least ∙ ap (take (length line - (19 + place))) behind
          ∙ take_all (length line - (19 + place)) rest (omega (arith, length-drop place (drop 19 line), length-drop 19 line))
    ]
  where
    place : ℕ
    place = position_or_len is_slash (drop 19 line) + 1

pub uncounted : (line : List ℕ) (r : Route) (awb : ℕ) → route_of line ≡ Some r → number_of (take 12 line) ≡ Ok awb
    → quantity_of (slice_range line 19 (quantity_end line)) ≡ None → consignment_of line ≡ Err why.Quantity
uncounted line r awb e number none =
    shaped line r e ∙ ap (λ n. consignment_by line n (quantity_of (quantity_part line))) number
    ∙ ap (λ t. consignment_by line (Ok awb) (quantity_of t)) (sym (quantity_slice line)) ∙ ap (consignment_by line (Ok awb)) none

abbrev said : ℕ → List ℕ → List ℕ → Quantity → List ℕ → Result Shipment Why
said awb origin destination quantity goods = Ok (record { awb = awb; origin = origin; destination = destination; quantity = quantity; goods = goods })

pub found : (line origin destination goods : List ℕ) (awb : ℕ) (quantity : Quantity) → route_of line ≡ Some (origin, destination) → number_of (take 12 line) ≡ Ok awb
    → quantity_of (slice_range line 19 (quantity_end line)) ≡ Some quantity → goods ≡ slice_range line (min (length line) (quantity_end line + 1)) (length line)
    → consignment_of line ≡ said awb origin destination quantity goods
found line origin destination goods awb quantity e number counted behind =
    let passed = cond_some (has_consignment_shape line) (slice_range line 12 15, slice_range line 15 18) (origin, destination) e in
    let from : slice_range line 12 15 ≡ origin = ap (λ r. r.0) passed.1 in
    let to : slice_range line 15 18 ≡ destination = ap (λ r. r.1) passed.1 in
    shaped line (origin, destination) e ∙ ap (λ n. consignment_by line n (quantity_of (quantity_part line))) number
    ∙ ap (λ t. consignment_by line (Ok awb) (quantity_of t)) (sym (quantity_slice line)) ∙ ap (consignment_by line (Ok awb)) counted
    ∙ ap (λ o. said awb o (slice_range line 15 18) quantity (goods_part line)) from
    ∙ ap (λ d. said awb origin d quantity (goods_part line)) to
    ∙ ap (said awb origin destination quantity) (sym (behind ∙ goods_slice line))

-- the same, of the slice that the code takes
pub end_is : (line : List ℕ) (k : ℕ) → k ≡ position_or_len is_slash (slice_range line 19 (length line)) → 19 + k ≡ quantity_end line
end_is line k e =
    ap (λ n. 19 + n) e ∙ ap (λ xs. 19 + position_or_len is_slash xs) (take_all (length line - 19) (drop 19 line) (omega (arith, length-drop 19 line)))

pub quantity_length : (line : List ℕ) → 19 ≤ length line → length (quantity_part line) ≡ position_or_len is_slash (drop 19 line)
quantity_length line long = length-take-le (position_or_len is_slash (drop 19 line)) (drop 19 line) (prefix_len-le-length (λ b. not (is_slash b)) (drop 19 line))

-- the bytes of a token whose place is known
pub slice_at : (source : List ℕ) (t : Token) (from to : ℕ) → IsSlice source t → t.start ≡ from → t.end ≡ to → t.text.now ≡ slice_range source from to
slice_at source t from to slice start end = slice.bytes ∙ ap (λ n. slice_range source n t.end) start ∙ ap (slice_range source from) end
