-- Cells behind one another are a line, and an object.
use Rattle.reports.proofs.Common.{Cell, Data, List, [], ap, append-nil, append_assoc, cell_text, compact_text, data_of, false, field_of, flat_map, join_with_byte, line_of, map, members_in, members_of, next_text, refl, string, sym, ℕ, ◌++◌, ◌∙◌, ◌∷◌, ◌≡◌}
use Rattle.serde_json.specs.Written as json
use Rattle.reports.specs.Reports.{members_text}
use Rattle.reports.specs.declared.cells.Cell.TheVariants as cell
use Rattle.reports.specs.declared.layout.Form.TheVariants as form

fields : (f : List ℕ) (cs : List Cell) → join_with_byte 32 (f ∷ map field_of cs) ≡ f ++ flat_map (next_text form.Text) cs
fields f [] = sym (append-nil f)
fields f (c ∷ cs) = ap (λ t. f ++ 32 ∷ t) (fields (field_of c) cs)

put : (old f r e : List ℕ) → ((old ++ f) ++ r) ++ e ≡ old ++ ((f ++ r) ++ e)
put old f r e = simp append_assoc

pub line_put : (old : List ℕ) (c : Cell) (cs : List Cell) → ((old ++ field_of c) ++ flat_map (next_text form.Text) cs) ++ 10 ∷ [] ≡ old ++ line_of (c ∷ cs)
line_put old c cs = put old (field_of c) (flat_map (next_text form.Text) cs) (10 ∷ []) ∙ ap (λ t. old ++ (t ++ 10 ∷ [])) (sym (fields (field_of c) cs))

abbrev Member : Type 0
Member = List ℕ × Data

end : (k d e : List ℕ) → k ++ 58 ∷ (d ++ e) ≡ (k ++ 58 ∷ d) ++ e
end k d e = simp append_assoc

closed : (m : Member) (ms : List Member) → json.members_text false (members_of (m ∷ ms)) ≡ members_text (m ∷ ms) ++ 125 ∷ []
closed m [] = end (compact_text (string m.0)) (compact_text m.1) (125 ∷ [])
closed m (n ∷ ms) =
    ap (λ t. compact_text (string m.0) ++ 58 ∷ (compact_text m.1 ++ 44 ∷ t)) (closed n ms)
    ∙ more (compact_text (string m.0)) (compact_text m.1) (members_text (n ∷ ms)) (125 ∷ [])
  where
    more : (k d t e : List ℕ) → k ++ 58 ∷ (d ++ 44 ∷ (t ++ e)) ≡ (k ++ 58 ∷ (d ++ 44 ∷ t)) ++ e
    more k d t e = simp append_assoc

-- members, and more of them
joined : (m : Member) (ms : List Member) (n : Member) (ns : List Member) → members_text ((m ∷ ms) ++ n ∷ ns) ≡ members_text (m ∷ ms) ++ 44 ∷ members_text (n ∷ ns)
joined m [] n ns = next (compact_text (string m.0)) (compact_text m.1) (44 ∷ members_text (n ∷ ns))
  where
    next : (k d t : List ℕ) → k ++ 58 ∷ (d ++ t) ≡ (k ++ 58 ∷ d) ++ t
    next k d t = simp append_assoc
joined m (x ∷ ms) n ns =
    ap (λ t. compact_text (string m.0) ++ 58 ∷ (compact_text m.1 ++ 44 ∷ t)) (joined x ms n ns)
    ∙ more (compact_text (string m.0)) (compact_text m.1) (members_text (x ∷ ms)) (44 ∷ members_text (n ∷ ns))
  where
    more : (k d t e : List ℕ) → k ++ 58 ∷ (d ++ 44 ∷ (t ++ e)) ≡ (k ++ 58 ∷ (d ++ 44 ∷ t)) ++ e
    more k d t e = simp append_assoc

record HasMembers (ms : List Member) : Type 0 where
  pub first : Member
  pub rest : List Member
  pub is : ms ≡ first ∷ rest

have : (c : Cell) → HasMembers (members_in c)
have (cell.Airport airport) = record { first = _; rest = _; is = refl }
have (cell.Amount pieces tenths) = record { first = _; rest = _; is = refl }
have (cell.Awb w) = record { first = _; rest = _; is = refl }
have (cell.Checked checked) = record { first = _; rest = _; is = refl }
have (cell.Closed closed) = record { first = _; rest = _; is = refl }
have (cell.Count n) = record { first = _; rest = _; is = refl }
have (cell.Figure l n) = record { first = _; rest = _; is = refl }
have (cell.Flight flight) = record { first = _; rest = _; is = refl }
have (cell.Goods goods) = record { first = _; rest = _; is = refl }
have (cell.Holder holder) = record { first = _; rest = _; is = refl }
have (cell.Moment at) = record { first = _; rest = _; is = refl }
have (cell.Notified notified) = record { first = _; rest = _; is = refl }
have (cell.Number n) = record { first = _; rest = _; is = refl }
have (cell.OnFlight flight) = record { first = _; rest = _; is = refl }
have (cell.Places from to) = record { first = _; rest = _; is = refl }
have cell.Program = record { first = _; rest = _; is = refl }
have (cell.Route origin destination) = record { first = _; rest = _; is = refl }
have (cell.Serials run) = record { first = _; rest = _; is = refl }
have (cell.Since day) = record { first = _; rest = _; is = refl }
have (cell.State arrived) = record { first = _; rest = _; is = refl }
have (cell.Sum l amount) = record { first = _; rest = _; is = refl }
have (cell.Unload airport) = record { first = _; rest = _; is = refl }
have (cell.Waybills n) = record { first = _; rest = _; is = refl }

both : (xs ys : List Member) → HasMembers xs → HasMembers ys → members_text (xs ++ ys) ≡ members_text xs ++ 44 ∷ members_text ys
both xs ys has has_more =
    (λ i. members_text (has.is i ++ has_more.is i)) ∙ joined has.first has.rest has_more.first has_more.rest
    ∙ (λ i. members_text (sym has.is i) ++ 44 ∷ members_text (sym has_more.is i))

more_have : (xs ys : List Member) → HasMembers xs → HasMembers (xs ++ ys)
more_have xs ys has = record { first = has.first; rest = has.rest ++ ys; is = ap (λ t. t ++ ys) has.is }

members : (c : Cell) (cs : List Cell) → members_text (flat_map members_in (c ∷ cs)) ≡ cell_text c ++ flat_map (next_text form.Json) cs
members c [] = ap members_text (append-nil (members_in c)) ∙ sym (append-nil (cell_text c))
members c (d ∷ ds) =
    both (members_in c) (flat_map members_in (d ∷ ds)) (have c) (more_have (members_in d) (flat_map members_in ds) (have d))
    ∙ ap (λ t. cell_text c ++ 44 ∷ t) (members d ds)

closed_by : (ms : List Member) → HasMembers ms → json.members_text false (members_of ms) ≡ members_text ms ++ 125 ∷ []
closed_by ms has = ap (λ t. json.members_text false (members_of t)) has.is ∙ closed has.first has.rest ∙ ap (λ t. members_text t ++ 125 ∷ []) (sym has.is)

opened : (old f r e : List ℕ) → (((old ++ 123 ∷ []) ++ f) ++ r) ++ e ≡ old ++ 123 ∷ ((f ++ r) ++ e)
opened old f r e = simp append_assoc

pub object_put : (old : List ℕ) (c : Cell) (cs : List Cell)
    → (((old ++ 123 ∷ []) ++ cell_text c) ++ flat_map (next_text form.Json) cs) ++ 125 ∷ [] ≡ old ++ compact_text (data_of (c ∷ cs))
object_put old c cs =
    let ms : List Member = flat_map members_in (c ∷ cs) in
    opened old (cell_text c) (flat_map (next_text form.Json) cs) (125 ∷ [])
    ∙ ap (λ t. old ++ 123 ∷ (t ++ 125 ∷ [])) (sym (members c cs))
    ∙ ap (λ t. old ++ 123 ∷ t) (sym (closed_by ms (more_have (members_in c) (flat_map members_in cs) (have c))))
