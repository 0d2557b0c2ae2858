use Rattle.reports.proofs.Common.{List, [], ap, codes, compact_text, decimal, string, ℕ, ◌++◌, ◌∙◌, ◌∷◌}
use Rattle.reports.proofs.Wholes.{trail_put}
use Rattle.reports.proofs.rows.put_trail_object.Goals as goal

pub returns : goal.returns
returns c =
    let old : List ℕ = c.args.out.now.items in
    let close : List ℕ = 125 ∷ [] in
    let front = c.in_ok-extend_from_slice.ensures.items ∙ ap (λ t. old ++ t) (c.as_bytes.ensures.value ∙ c.in_ok-front.ensures.ok ∙ (λ i. codes "{\"number\":" ++ (decimal c.args.row.now.number ++ (codes ",\"awb\":" ++ (c.in_ok-awb.ensures i ++ codes ",\"line\":"))))) in
    let both = c.in_ok-put_quoted.ensures ∙ ap (λ t. c.extend_from_slice.new.self.items ++ compact_text (string t)) c.as_bytes-2.ensures ∙ ap (λ t. t ++ compact_text (string c.args.row.now.line)) front in
    c.in_ok-push.ensures.items ∙ ap (λ t. t ++ close) both ∙ trail_put old c.args.row.now
