use Rattle.table_state.proofs.Common.{ap, inl, inr, is_airport, opening, rules, true, ⊎_elim, ◌∙◌, ◌≡◌}
use Rattle.table_state.proofs.File.{leaves_file}
use Rattle.table_state.proofs.NewState.{opening_found}
use Rattle.table_state.proofs.opening.create.Goals as goal

pub returns-in-Err-clause-leaves : goal.returns-in-Err-clause-leaves
returns-in-Err-clause-leaves g c = λ vacant sound found finds.
    let same : c.ascii_text.result.now ≡ c.args.here = search rules in
    let airport : is_airport c.args.here ≡ true = search rules in
    ⊎_elim
    (λ left. inl (record { tables = finds.tables; left = left; means = finds.means }))
    (λ made. inr (made.0, opening_found c.args.here airport finds.tables found (made.1 ∙ ap opening same) finds.means))
    ((c.in-Err.ensures.spares vacant).crash sound finds.tables finds.left)

pub returns-in-Err-clause-survives : goal.returns-in-Err-clause-survives
returns-in-Err-clause-survives g c =
    let same : c.ascii_text.result.now ≡ c.args.here = search rules in
    let airport : is_airport c.args.here ≡ true = search rules in
    leaves_file _ _ _ c.ascii_text.result.now c.args.here same airport c.in-Err.ensures.survives
