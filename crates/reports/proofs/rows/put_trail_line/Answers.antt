use Rattle.reports.proofs.Common.{List, [], ap, number_text, ℕ, ◌++◌, ◌∙◌, ◌∷◌}
use Rattle.reports.proofs.Blanks.{trail_put}
use Rattle.reports.proofs.rows.put_trail_line.Goals as goal

pub returns : goal.returns
returns c =
    let old : List ℕ = c.args.out.now.items in
    let line : List ℕ = c.args.row.now.line in
    let lf : List ℕ = 10 ∷ [] in
    let front = c.in_ok-extend_from_slice.ensures.items ∙ ap (λ t. old ++ t) (c.as_bytes.ensures.value ∙ c.in_ok-format.ensures.ok) in
    let both = c.in_ok-extend_from_slice-2.ensures.items ∙ ap (λ t. c.extend_from_slice.new.self.items ++ t) c.as_bytes-2.ensures ∙ ap (λ t. t ++ line) front in
    c.in_ok-push.ensures.items ∙ ap (λ t. t ++ lf) both ∙ trail_put old (number_text c.args.row.now.awb) line
