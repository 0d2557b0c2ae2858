use Rattle.reports.proofs.Common.{ap, is_ok}
use Rattle.reports.proofs.Aboard.{made}
use Rattle.reports.proofs.manifest.manifest_of.Goals as goal

pub returns-in-Ok-clause-rows : goal.returns-in-Ok-clause-rows
returns-in-Ok-clause-rows g c = λ s keeps sound.
    made c.args.flight.now s.cargo.book c.new-tallies.result c.book_by.new.sink c.new-tallies.ensures c.book_by.result (c.book_by.ensures.rows s keeps sound) (ap is_ok c.in-Ok.is) c.rows.result c.rows.ensures.room c.rows.ensures.ordered c.rows.ensures.rows
