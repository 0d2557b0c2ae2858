use Rattle.reports.proofs.Common.{listed}
use Rattle.reports.proofs.Passing.{all_put}
use Rattle.reports.proofs.tallies.Tallies.rows.Goals as goal

pub returns-clause-rows : goal.returns-clause-rows
returns-clause-rows c =
    all_put (λ e. listed e.1) c.loop-tally.rows.items c.loop-tally.tally-iterator c.args.self.now.by_number.entries c.loop-tally.invariant c.in-None.ensures.steps.0
