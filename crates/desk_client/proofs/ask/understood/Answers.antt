use Rattle.desk_client.proofs.Common.{IsFound, List, length, rules, subst, ℕ, ◌≤◌}
use Rattle.desk_client.specs.declared.whole.Found.TheVariants as found
use Rattle.desk_client.proofs.ask.understood.Goals as goal

pub returns-in-Cut : goal.returns-in-Cut
returns-in-Cut c =
    let few : length c.args.bytes.items ≤ c.args.most = search rules in
    let is : IsFound c.args.bytes.items found.Cut = subst (λ (b : List ℕ). IsFound b found.Cut) c.as_slice.ensures.value c.in-Cut.ensures in
    (few, is.0, is.1)

pub returns-in-Foreign : goal.returns-in-Foreign
returns-in-Foreign c =
    let few : length c.args.bytes.items ≤ c.args.most = search rules in
    (few, subst (λ (b : List ℕ). IsFound b found.Foreign) c.as_slice.ensures.value c.in-Foreign.ensures)
