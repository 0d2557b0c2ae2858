use Rattle.table_state.proofs.Common.{is_airport, opening, rules, true, ◌≡◌}
use Rattle.station_core.specs.Step as step
use Rattle.table_state.proofs.NewState.{opening_means, new_has, new_knows}
use Rattle.table_state.proofs.state.TableState.new.Goals as goal

pub returns-clause-shows : goal.returns-clause-shows
returns-clause-shows g c is =
    let airport : is_airport c.args.here ≡ true = search rules in
    c.over.ensures.shows (opening c.args.here) (step.opening c.args.here) (opening_means c.args.here airport) (new_knows c.args.here) (λ sound. new_has _ c.args.here (is sound))
