use Rattle.reports.proofs.Common.{List, [], ap, codes, compact_text, decimal, string, ℕ, ◌++◌, ◌∙◌, ◌∷◌}
use Rattle.reports.proofs.Wholes.{kept_put}
use Rattle.reports.proofs.rows.put_kept_object.Goals as goal

pub returns : goal.returns
returns c =
    let row = c.args.row.now in
    let old : List ℕ = c.args.out.now.items in
    let close : List ℕ = 125 ∷ [] in
    let key = c.in_ok-key.ensures ∙ ap (λ t. compact_text (string t)) c.as_str.ensures.value in
    let front = c.in_ok-extend_from_slice.ensures.items ∙ ap (λ t. old ++ t) (c.as_bytes.ensures.value ∙ c.in_ok-front.ensures.ok ∙ (λ i. codes "{\"key\":" ++ (key i ++ (codes ",\"count\":" ++ (decimal row.count ++ codes ",\"command\":"))))) in
    let both = c.in_ok-put_quoted.ensures ∙ ap (λ t. c.extend_from_slice.new.self.items ++ compact_text (string t)) c.as_bytes-2.ensures ∙ ap (λ t. t ++ compact_text (string row.command)) front in
    c.in_ok-push.ensures.items ∙ ap (λ t. t ++ close) both ∙ kept_put old row
