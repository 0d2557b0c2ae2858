use Rattle.std.proofs.Common.{◌∙◌, ap, ℕ, List, [], ◌∷◌, ◌++◌, decimal}
use Rattle.reports.proofs.Blanks.{kept_put}
use Rattle.reports.proofs.rows.put_kept_line.Goals as goal

pub returns : goal.returns
returns c =
    let row = c.args.row.now in
    let old : List ℕ = c.args.out.now.items in
    let lf : List ℕ = 10 ∷ [] in
    let front = c.in_ok-extend_from_slice.ensures.items ∙ ap (λ t. old ++ t) (c.as_bytes.ensures.value ∙ c.in_ok-format.ensures.ok) in
    let both = c.in_ok-extend_from_slice-2.ensures.items ∙ ap (λ t. c.extend_from_slice.new.self.items ++ t) c.as_bytes-2.ensures ∙ ap (λ t. t ++ row.command) front in
    c.in_ok-push.ensures.items ∙ ap (λ t. t ++ lf) both ∙ kept_put old row.key (decimal row.count) row.command
