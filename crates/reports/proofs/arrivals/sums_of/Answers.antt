use Rattle.reports.proofs.Common.{ap, is_ok, rules}
use Rattle.reports.proofs.Arriving.{sums_known}
use Rattle.reports.proofs.arrivals.sums_of.Goals as goal

pub returns-in-Ok-2 : goal.returns-in-Ok-2
returns-in-Ok-2 g c = record {
  reopen = search rules;
  fault = search rules;
  reads = c.book_by.ensures.reads;
  value = λ s keeps sound. sums_known c.args.flight.now c.args.awb.now s.cargo.book c.book_by.result c.new-sums.result c.book_by.new.sink c.new-sums.ensures (c.book_by.ensures.rows s keeps sound) (ap is_ok c.in-Ok-2.is) c.if-sums.false;
}
