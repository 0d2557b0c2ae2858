use Rattle.table_audits.proofs.Made.{distinct}
use Rattle.table_audits.proofs.Listed.{flights_are}
use Rattle.table_audits.proofs.laws.flights_listed.Goals as goal

pub returns : goal.returns
returns c = record {
  listed = λ m all. flights_are m all;
  distinct = λ flights rows of. distinct flights rows of;
}
