use Rattle.table_audits.proofs.ClosedLaws.{closed_so}
use Rattle.table_audits.proofs.departures.are_departures_lawful.Goals as goal

pub returns : goal.returns
returns c = record {
  exact = λ t within is departed lawful. closed_so t within c.args.flights.now is c.args.departed.now departed lawful c.are_closed.result c.are_closed.ensures;
}
