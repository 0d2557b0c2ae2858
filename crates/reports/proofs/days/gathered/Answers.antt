use Rattle.reports.proofs.Common.{ap, is_ok, rules}
use Rattle.reports.proofs.Stays.{kept_known}
use Rattle.reports.proofs.days.gathered.Goals as goal

pub returns-in-Ok-2 : goal.returns-in-Ok-2
returns-in-Ok-2 g c = record {
  reopen = search rules;
  fault = search rules;
  reads = c.hand_out.ensures.reads;
  value = λ s keeps sound. kept_known (g.R.Reading.rows c.args.reading.now s) c.hand_out.result _ c.hand_out.new.sink c.new.ensures.items (c.hand_out.ensures.rows s keeps sound) (ap is_ok c.in-Ok-2.is) c.if-gathering.false;
}
