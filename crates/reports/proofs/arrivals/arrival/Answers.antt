use Rattle.reports.proofs.Common.{ap, rules, ◌∙◌}
use Rattle.reports.specs.Arrivals.{row_by}
use Rattle.reports.proofs.arrivals.arrival.Goals as goal

pub returns-in-Some : goal.returns-in-Some
returns-in-Some g c = record {
  reopen = search rules;
  fault = search rules;
  reads = c.sums_of.ensures.reads;
  value = λ s keeps sound. c.in-Some.ensures ∙ ap (row_by c.args.expected.now) (c.in_ok-sums.ensures.value s keeps sound);
}
