use Rattle.reports.proofs.Common.{ap, is_ok, rules}
use Rattle.reports.proofs.Stays.{day_known}
use Rattle.reports.proofs.days.day_of.Goals as goal

pub returns-in-Ok-2 : goal.returns-in-Ok-2
returns-in-Ok-2 g c = record {
  reopen = search rules;
  fault = search rules;
  reads = c.book_by.ensures.reads;
  value = λ s keeps sound. day_known c.args.awb.now c.args.lasting s.cargo.book c.book_by.result c.new-spell.result c.book_by.new.sink c.new-spell.ensures (c.book_by.ensures.rows s keeps sound) (ap is_ok c.in-Ok-2.is) c.if-spell.false;
}
