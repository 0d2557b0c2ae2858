use Rattle.imp_fields.proofs.Common.{None, Some, ap, arith, length, min, number_of, quantity_of, quantity_part, slice_range, sym, take, ◌+◌, ◌∙◌, ◌≡◌, ◌≤◌}
use Rattle.imp_fields.proofs.LineLaws.{misnumbered, uncounted, found, quantity_end, end_is, quantity_length, slice_at}
use Rattle.imp_fields.proofs.consignment.read_consignment.Goals as goal

pub returns-in_default-read-clause-exact : goal.returns-in_default-read-clause-exact
returns-in_default-read-clause-exact c =
    let line = c.args.line.now in
    let front : c.in-Some-first_chunk.number.now ≡ take 12 line = c.in-Some-first_chunk.ensures.cases.same in
    sym (misnumbered line _ c.in_default-read.field-0 (sym c.route.ensures.shape ∙ c.in-Some.is) (ap number_of (sym front) ∙ sym c.read.ensures.exact ∙ c.in_default-read.is))

pub returns-in_default-read_quantity-clause-exact : goal.returns-in_default-read_quantity-clause-exact
returns-in_default-read_quantity-clause-exact c =
    let line = c.args.line.now in
    let front : c.in-Some-first_chunk.number.now ≡ take 12 line = c.in-Some-first_chunk.ensures.cases.same in
    let end = end_is line c.before_slash-end.result c.before_slash-end.ensures.place in
    let t = c.new-quantity_text.ensures in
    let text = slice_at line c.new-quantity_text.result 19 (quantity_end line) t.slice t.start (t.end ∙ end) in
    let none : quantity_of (slice_range line 19 (quantity_end line)) ≡ None = ap quantity_of (sym text) ∙ sym c.read_quantity.ensures ∙ c.in_default-read_quantity.is in
    sym (uncounted line _ c.in-Ok.awb (sym c.route.ensures.shape ∙ c.in-Some.is) (ap number_of (sym front) ∙ sym c.read.ensures.exact ∙ c.in-Ok.is) none)

pub returns-clause-exact : goal.returns-clause-exact
returns-clause-exact c =
    let line = c.args.line.now in
    let front : c.in-Some-first_chunk.number.now ≡ take 12 line = c.in-Some-first_chunk.ensures.cases.same in
    let end = end_is line c.before_slash-end.result c.before_slash-end.ensures.place in
    let t = c.new-quantity_text.ensures in
    let text = slice_at line c.new-quantity_text.result 19 (quantity_end line) t.slice t.start (t.end ∙ end) in
    let some : quantity_of (slice_range line 19 (quantity_end line)) ≡ Some c.in-Some-read_quantity.quantity = ap quantity_of (sym text) ∙ sym c.read_quantity.ensures ∙ c.in-Some-read_quantity.is in
    let g = c.new-4.ensures in
    let goods = slice_at line c.new-4.result (min (length line) (quantity_end line + 1)) (length line) g.slice (g.start ∙ c.min.ensures ∙ ap (λ n. min (length line) (n + 1)) end) g.end in
    sym (found line _ _ c.new-4.result.text.now c.in-Ok.awb c.in-Some-read_quantity.quantity (sym c.route.ensures.shape ∙ c.in-Some.is) (ap number_of (sym front) ∙ sym c.read.ensures.exact ∙ c.in-Ok.is) some goods)

pub returns-clause-spans : goal.returns-clause-spans
returns-clause-spans c =
    let line = c.args.line.now in
    let end = end_is line c.before_slash-end.result c.before_slash-end.ensures.place in
    let t = c.new-quantity_text.ensures in
    let g = c.new-4.ensures in
    let long : 19 ≤ length line = omega (arith, t.slice.ordered, t.slice.within, t.start) in
    let last : c.new-quantity_text.result.end ≡ 19 + length (quantity_part line) = t.end ∙ end ∙ ap (λ n. 19 + n) (sym (quantity_length line long)) in
    let begin : c.new-4.result.start ≡ min (c.new-quantity_text.result.end + 1) (length line) = omega (arith, g.start, c.min.ensures, t.end) in
    record {
      number = (c.new.ensures.slice, c.new.ensures.start, c.new.ensures.end);
      origin = (c.new-2.ensures.slice, c.new-2.ensures.start, c.new-2.ensures.end);
      destination = (c.new-3.ensures.slice, c.new-3.ensures.start, c.new-3.ensures.end);
      quantity = (t.slice, t.start, last);
      goods = (g.slice, begin, g.end);
    }
